-- `vhdx_sequence::scan::Trace::take_by` meets its contract.
use mathlib.Core.List.{List}
use Rattle.std.specs.Prelude.{Option}
use mathlib.Core.Path.{◌≡◌, sym, ap, ◌∙◌}
use Prim.Native.Nat.{ℕ, ◌+◌, ◌%◌}
use native.Mathlib.Omega.{arith}
use Rattle.vhdx_entry.specs.declared.Entry.{Entry}
use Rattle.vhdx_entry.specs.Entry.{signature_rule, sequence_number_of}
use Rattle.vhdx_sequence.specs.Sequence.{better}
use Rattle.vhdx_sequence.specs.Scan.{State, state_of, headed_by, taken_by}
use Rattle.vhdx_sequence.specs.declared.Sequence.{Sequence}
use Rattle.vhdx_sequence.specs.declared.lap.Place.{Place}
use Rattle.vhdx_sequence.proofs.scan.Trace.take_by.Goals as goal

made : (tail : List ℕ) (n u : ℕ) {r : ℕ} (st : State) (e : Entry) (start : Place) {q best : Option Sequence} → start.count ≡ r → start.pos.len ≡ n → q ≡ headed_by start.pos.len u start.count e (signature_rule tail) (sequence_number_of tail) → best ≡ better st.best q → ◌≡◌ {A = State} (record { start = start.count; next = u + e.size; number = e.number; best = best }) (taken_by n u r st e (signature_rule tail) (sequence_number_of tail))
made tail n u st e start a b d f = simp (f, d, a, b)

pub headed-requires : goal.headed-requires
headed-requires c =
    let p = c.requires in
    (omega (arith, c.run_from-start.ensures.count, p.run), omega (arith, c.run_from-start.ensures.placed.1, p.tail), omega (arith, c.run_from-start.ensures.placed.1, p.few), c.run_from-start.ensures.placed.0 ∙ ap (λ (n : ℕ). c.run_from-start.result.count % n) (sym c.run_from-start.ensures.placed.1))

pub returns : goal.returns
returns c =
    let a = c.args in
    record { state = made a.tail.now a.place.pos.len a.place.count (state_of a.self) a.e c.run_from-start.result c.run_from-start.ensures.count c.run_from-start.ensures.placed.1 c.headed.ensures c.better.ensures; placed = c.run_from-start.ensures.placed }
