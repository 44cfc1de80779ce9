-- A machine is loaded from its own numbers, and from no others.
-- Assumes nothing.
use mathlib.Core.Path.{◌≡◌, refl, sym, ap, ◌∙◌}
use mathlib.Core.Bool.{Bool, true, false, cond, ◌&&◌, and-eq-true_iff}
use mathlib.Core.List.{List, [], ◌∷◌}
use Prim.Native.Nat.{ℕ, zero, suc, ◌+◌}
use native.Mathlib.Omega.{arith}
use lib.Dec.{eqb}
use lib.ListN.{length, get_or, set, length-set}
use lib.Seq.{ext_get_or}
use borrow.Author.Tests.{eq-eqb, eqb-true}
use Rattle.std.specs.Str.{bytes_eq}
use Rattle.std.specs.Bool.{then_some}
use Rattle.std.proofs.lemmas.Slice.Eq.{bytes_eq-Decides}
use Rattle.decision.specs.Bounded.{every}
use Rattle.decision.proofs.Laws.{every-at}
use Rattle.vhdx_sequence.specs.declared.Sequence.{Sequence}
use Rattle.vhdx_pieces_header.specs.declared.Stage as header
use Rattle.vhdx_pieces_header.specs.declared.Stage.TheVariants as header_stage
use Rattle.vhdx_pieces_scan.specs.declared.Stage as scan
use Rattle.vhdx_pieces_scan.specs.declared.Stage.TheVariants as scan_stage
use Rattle.vhdx_pieces_plan.specs.declared.Phase.{Phase}
use Rattle.vhdx_pieces_plan.specs.declared.Phase.TheVariants as phase
use Rattle.vhdx_pieces_walk.specs.declared.Stage as walk
use Rattle.vhdx_pieces_walk.specs.declared.Stage.TheVariants as walk_stage
use Rattle.vhdx_pieces.specs.declared.Doing.{Doing}
use Rattle.vhdx_pieces.specs.declared.Machine.{Machine}
use Rattle.vhdx_pieces.specs.declared.Machine.TheVariants.{Planning, Growing, Reading, Writing}
use Rattle.vhdx_slots.specs.Slots.{in_slots}
use Rattle.std.specs.Prelude.{Option, None, Some}
use Rattle.vhdx_pieces_slots.specs.Slots.{zeros, context_in, header_in, best_in, stage_in, scanner_in, tour_in, surveying_in, phase_in, planner_in, order_in, held_in, turn_in, walker_in, doing_in, numbers, machine_from}
use Rattle.vhdx_pieces_sanity.specs.Sanity.{sane}
use Rattle.vhdx_pieces_slots.specs.Loading.{same, known, loaded, Sound, LoadsOwn, Restores}
use Rattle.vhdx_pieces_slots.proofs.Restored.{restored}
use Rattle.vhdx_pieces_sanity.proofs.Decided.{decided}

every-same : (m : ℕ) (xs : List ℕ) → every m (λ i. eqb (get_or xs i 0) (get_or xs i 0)) ≡ true
unfolding every
every-same zero xs = refl
every-same (suc m) xs = rw (every-same m xs, eq-eqb (get_or xs m 0) (get_or xs m 0) refl)

pub restores : Restores
unfolding loaded known same
restores m s w = rw (restored m w, (decided m).complete s, every-same 64 (numbers m))

-- ---- there are always 64

kept : (i : ℕ) (xs slots : List ℕ) → length (in_slots i xs slots) ≡ length slots
unfolding in_slots
kept i [] slots = refl
kept i (x ∷ xs) slots = kept (i + 1) xs (set slots i x) ∙ length-set slots i x

header-kept : (s : header.Stage) (slots : List ℕ) → length (header_in s slots) ≡ length slots
unfolding header_in
header-kept header_stage.Identifier slots = kept _ _ _
header-kept header_stage.First slots = kept _ _ _
header-kept (header_stage.Second c) slots = kept _ _ _

best-kept : (q : Option Sequence) (slots : List ℕ) → length (best_in q slots) ≡ length slots
unfolding best_in
best-kept (Some q) slots = kept _ _ _
best-kept None slots = refl

stage-kept : (s : scan.Stage) (slots : List ℕ) → length (stage_in s slots) ≡ length slots
unfolding stage_in
stage-kept scan_stage.First slots = kept _ _ _
stage-kept (scan_stage.Inside x) slots = kept _ _ _
stage-kept (scan_stage.Tail e) slots = kept _ _ _

phase-kept : (p : Phase) (slots : List ℕ) → length (phase_in p slots) ≡ length slots
unfolding phase_in scanner_in surveying_in tour_in
phase-kept (phase.Header s) slots = header-kept s _ ∙ kept _ _ _
phase-kept (phase.Scan s) slots = stage-kept s.stage _ ∙ best-kept s.trace.best _ ∙ kept _ _ _ ∙ kept _ _ _
phase-kept (phase.Survey s) slots = kept _ _ _ ∙ kept _ _ _ ∙ kept _ _ _

turn-kept : (s : walk.Stage) (slots : List ℕ) → length (turn_in s slots) ≡ length slots
unfolding turn_in held_in
turn-kept walk_stage.Header slots = kept _ _ _
turn-kept walk_stage.Descriptors slots = kept _ _ _
turn-kept (walk_stage.Data d) slots = kept _ _ _ ∙ kept _ _ _
turn-kept (walk_stage.Sector d) slots = kept _ _ _ ∙ kept _ _ _
turn-kept (walk_stage.Zeros e) slots = kept _ _ _

doing-kept : (d : Doing) (slots : List ℕ) → length (doing_in d slots) ≡ length slots
unfolding doing_in walker_in order_in
doing-kept d slots = turn-kept d.walker.stage _ ∙ kept _ _ _ ∙ kept _ _ _ ∙ kept _ _ _

all_slots : (m : Machine) → length (numbers m) ≡ 64
unfolding numbers planner_in context_in order_in zeros
all_slots (Planning p) = phase-kept p.phase _ ∙ kept _ _ _ ∙ kept _ _ _
all_slots (Growing o) = kept _ _ _ ∙ kept _ _ _
all_slots (Reading d) = doing-kept d _ ∙ kept _ _ _
all_slots (Writing d) = doing-kept d _ ∙ kept _ _ _

same_lists : (a b : List ℕ) → length a ≡ 64 → length b ≡ 64 → same a b ≡ true → a ≡ b
unfolding same
same_lists a b p q h = ext_get_or 0 a b (p ∙ sym q) (λ i l. eqb-true _ _ (every-at (λ j. eqb (get_or a j 0) (get_or b j 0)) 64 i h (omega arith)))

pub known-loaded : (ns : List ℕ) (m : Machine) → loaded ns ≡ Some m → (known ns ≡ true) × (machine_from ns ≡ m)
unfolding loaded
known-loaded ns m h = go (known ns) h
  where
    go : (b : Bool) → cond b (Some (machine_from ns)) None ≡ Some m → (b ≡ true) × (machine_from ns ≡ m)
    go true e = (refl, cc)
    go false e = let z : ◌≡◌ {A = ℕ} 0 1 = cc in absurd (omega arith)

pub loads-own : LoadsOwn
unfolding known
loads-own ns m long h =
    let k = known-loaded ns m h in
    let s = (and-eq-true_iff (sane (machine_from ns)) (same (numbers (machine_from ns)) ns)).0 k.0 in
    sym (ap numbers k.1) ∙ same_lists (numbers (machine_from ns)) ns (all_slots (machine_from ns)) long s.1

-- ---- the test of the code

same-itself : (a b : List ℕ) → a ≡ b → same a b ≡ true
unfolding same
same-itself a b e = ap (same a) (sym e) ∙ every-same 64 a

-- `==` of two such arrays
pub equal-same : (a b : List ℕ) → length a ≡ 64 → length b ≡ 64 → bytes_eq a b ≡ same a b
equal-same a b p q = go (bytes_eq a b) (same a b) (bytes_eq-Decides a b).0 (bytes_eq-Decides a b).1 (same_lists a b p q) (same-itself a b)
  where
    go : (s t : Bool) → (s ≡ true → a ≡ b) → (a ≡ b → s ≡ true) → (t ≡ true → a ≡ b) → (a ≡ b → t ≡ true) → s ≡ t
    go true t f g h k = sym (k (f refl))
    go false true f g h k = g (h refl)
    go false false f g h k = refl

pub loaded-sound : (ns : List ℕ) → Sound (loaded ns)
unfolding loaded known
loaded-sound ns = go (sane (machine_from ns)) (same (numbers (machine_from ns)) ns) refl
  where
    go : (s t : Bool) → sane (machine_from ns) ≡ s → Sound (cond (s && t) (Some (machine_from ns)) None)
    go true true e = (decided (machine_from ns)).sound e
    go true false e = tt
    go false t e = tt

pub loaded-is : (ns : List ℕ) {m : Machine} {b : Bool} → m ≡ machine_from ns → b ≡ known ns → then_some b m ≡ loaded ns
unfolding loaded
loaded-is ns e f = ap (then_some _) e ∙ ap (λ (t : Bool). then_some t (machine_from ns)) f ∙ go (known ns)
  where
    go : (t : Bool) → then_some t (machine_from ns) ≡ cond t (Some (machine_from ns)) None
    go true = refl
    go false = refl
