-- `vhdx_pieces_scan::resume` meets its contract.
use mathlib.Core.Path.{sym, ◌∙◌}
use native.Mathlib.Omega.{arith}
use Rattle.vhdx_sequence.specs.Scan.{state_of}
use Rattle.vhdx_pieces_scan.proofs.Turns.{goes, laps-done, stays}
use Rattle.vhdx_pieces_scan.proofs.resume.Goals.{else-goes_on-via-then-goes_on+else-place, else-goes_on-via-else-goes_on}
use Rattle.vhdx_pieces_scan.proofs.resume.Goals as goal

pub at-requires : goal.at-requires
at-requires c = let p = c.requires in (p.1, p.2)

pub returns-then-place : goal.returns-then-place
returns-then-place c = c.at.ensures ∙ goes c.args.place.pos.len c.args.place.count (state_of c.args.trace) (sym c.goes_on.ensures ∙ c.if-goes_on.true) c.if-place.true

pub returns : goal.returns
returns c =
    elim c.else-goes_on.branch [
      | else-goes_on-via-then-goes_on+else-place w ↦ laps-done c.args.place.pos.len c.args.place.count (state_of c.args.trace) (sym c.goes_on.ensures ∙ w.if-goes_on.true) (omega (arith, w.if-place.false))
      | else-goes_on-via-else-goes_on w ↦ stays c.args.place.pos.len c.args.place.count (state_of c.args.trace) (sym c.goes_on.ensures ∙ w.if-goes_on.false)
    ]
