-- `vhdx_sequence::scan::Trace::take` meets its contract.
use Prim.Native.Nat.{ℕ}
use mathlib.Core.List.{List}
use mathlib.Core.Path.{ap, ◌∙◌}
use Rattle.vhdx_entry.specs.Entry.{signature_rule, sequence_number_of}
use Rattle.vhdx_sequence.specs.Scan.{state_of, run_from, taken_by}
use Rattle.vhdx_sequence.proofs.scan.Trace.take.Goals as goal

pub returns : goal.returns
returns c =
    let a = c.args in
    record { state = c.take_by.ensures.state ∙ ap (λ (s : List ℕ). taken_by a.place.pos.len a.place.count (run_from a.place.count (state_of a.self) a.e.number) (state_of a.self) a.e (signature_rule s) (sequence_number_of s)) c.sector-tail.ensures; placed = c.take_by.ensures.placed }
