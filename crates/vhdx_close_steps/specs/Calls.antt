-- Lists of closes and of their steps, each run to its end, refused or interrupted (change request Q-6: "For that call and its steps, in
-- a list without attach's, .. with the same identifier lent every time, the steps in order from 0, none skipped, at the start and after
-- each cut"). What an interrupted run of steps leaves is `Ran` of vhdx_steps, with the header's slot as one more sector.
-- Assumes nothing.
use Rattle.std.specs.Prelude.{true, List, ◌⊎◌, ◌≡◌, ℕ, zero, suc, ◌≤◌, Result, Ok, Err}
use Rattle.decision.specs.declared.Refusal.{Refusal}
use Rattle.decision.specs.Refusal.{refused}
use Rattle.vhdx_header.specs.declared.Header.{Header}
use Rattle.vhdx_header.specs.Header.{valid_header}
use Rattle.vhdx_header.specs.Current.{current_header, other_slot}
use Rattle.vhdx_steps.specs.Steps.{File, Ran, steps, chosen, single}
use Rattle.vhdx_rewrite.specs.Rewrite.{closed_header}
use Rattle.vhdx_close_steps.specs.Close.{slot_in, close_plan, after_close, after_close_step}

-- "the premise that a half-written header isn't valid", of an interrupted call that takes f to g: where the slot of the header that
-- isn't current in f holds a valid one in g, it is a whole one, the one that was there or the one that closing writes
abbrev pub WholeBy : Result Header Refusal → List ℕ → File → File → Type 0
WholeBy (Err r) identifier f g = Unit {0}
WholeBy (Ok h) identifier f g =
    valid_header (slot_in g (other_slot h.slot)) ≡ true
    → (slot_in g (other_slot h.slot) ≡ slot_in f (other_slot h.slot)) ⊎ (slot_in g (other_slot h.slot) ≡ closed_header (slot_in f h.slot) identifier)

abbrev pub WholeIfValid : List ℕ → File → File → Type 0
WholeIfValid identifier f g = WholeBy (current_header f.buffer f.size) identifier f g

-- `Call identifier e f e' g`: a call takes f to g, where step e is next in order before it and step e' after it. That is 0 at the start
-- and after each interruption. A step that was done already may be done again; those behind it are then to be done again too
pub data Call (identifier : List ℕ) (e : ℕ) (f : File) : ℕ → File → Type 0 where
  close : Call identifier e f e (after_close identifier f)
  step : (k : ℕ) → k ≤ e → Call identifier e f (suc k) (after_close_step identifier k f)
  -- a step that is refused, whatever its number
  refuse : (k c : ℕ) → chosen (close_plan identifier f) k f.size ≡ refused c → Call identifier e f e (after_close_step identifier k f)
  interrupted-close : {g : File} → Ran (steps (close_plan identifier f)) f g → WholeIfValid identifier f g → Call identifier e f zero g
  interrupted-step : {g : File} (k : ℕ) → k ≤ e → Ran (single (close_plan identifier f) k f.size) f g → WholeIfValid identifier f g → Call identifier e f zero g

-- any list of calls, each on what the one before left
pub data Calls (identifier : List ℕ) : ℕ → File → File → Type 0 where
  none : {e : ℕ} {f : File} → Calls identifier e f f
  then : {e e' : ℕ} {f g h : File} → Call identifier e f e' g → Calls identifier e' g h → Calls identifier e f h
