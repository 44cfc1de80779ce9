-- Answers in arrays, as the exported functions give them. Every slot that the interface names is written.
-- Assumes nothing.
use Rattle.std.specs.Prelude.{cond, List, [], ◌∷◌, ◌++◌, ◌≡◌, ℕ, nat_eq, length, replicate}
use Rattle.decision.specs.Refusal.{Outcome}
use Rattle.extent.specs.declared.Extent.{Extent}
use Rattle.vhdx_close_steps.specs.Close.{Closed}
use Rattle.vhdx_map.specs.declared.Place.{Place}
use Rattle.vhdx_map.specs.Lookup.{figures}
use Rattle.vhdx.specs.Attach.{Attached}
use Rattle.vhdx.specs.Plan.{Planned}
use Rattle.vhdx_pieces_calls.specs.declared.Request.{Request}
use Rattle.vhdx_steps.specs.Stepped.{Stepped}
use Rattle.vhdx_slots.specs.Slots.{in_slots, numbers, facts_from}

-- slots 16 to 31 are zero
unfoldable pub rest_cleared : List ℕ → List ℕ
rest_cleared answer = in_slots 16 (replicate 16 0) answer

-- all 32 slots: refusal, length, count, the facts, zeros
unfoldable pub attached_in : Attached → List ℕ → List ℕ
attached_in a answer = in_slots 0 (a.refusal ∷ a.length ∷ a.count ∷ (numbers a.facts ++ replicate 16 0)) answer

-- The array that lookup and parent key take is the one that attach wrote: it holds the facts that attach answered. Proved in proofs/Slots.antt
abbrev pub HoldsTheFacts : Type 0
HoldsTheFacts = (a : Attached) (answer : List ℕ) → length answer ≡ 32 → facts_from (attached_in a answer) ≡ a.facts

-- all 4 slots: refusal, length, count, zero
abbrev pub planned_in : Planned → List ℕ → List ℕ
planned_in a answer = in_slots 0 (a.refusal ∷ a.length ∷ a.count ∷ 0 ∷ []) answer

-- both slots: refusal, length
abbrev pub stepped_in : Stepped → List ℕ → List ℕ
stepped_in a answer = in_slots 0 (a.refusal ∷ a.length ∷ []) answer

-- all 3 slots: refusal, length, count
abbrev pub closed_in : Closed → List ℕ → List ℕ
closed_in a answer = in_slots 0 (a.refusal ∷ a.length ∷ a.count ∷ []) answer

-- all 4 slots: the kind of request, and its two numbers, zero
abbrev pub request_in : Request → List ℕ → List ℕ
request_in r answer = in_slots 0 (r.kind ∷ r.first ∷ r.second ∷ 0 ∷ []) answer

-- the number of a request that is a refusal, else 0
abbrev pub refused_by : Request → ℕ
refused_by r = cond (nat_eq r.kind 0) r.first 0

-- both slots: the kind of answer, and its number
abbrev pub figures_in : Outcome Place → List ℕ → List ℕ
figures_in o answer = in_slots 0 ((figures o).0 ∷ (figures o).1 ∷ []) answer

-- both slots: offset, length
abbrev pub extent_in : Extent → List ℕ → List ℕ
extent_in e answer = in_slots 0 (e.offset ∷ e.length ∷ []) answer
