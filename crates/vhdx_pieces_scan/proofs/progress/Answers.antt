-- `vhdx_pieces_scan::progress` meets its contract.
use mathlib.Core.Path.{refl, sym, ap, ◌∙◌}
use native.Mathlib.Omega.{arith}
use Rattle.std.specs.declared.ops.ControlFlow.TheVariants.{Break}
use Rattle.vhdx_sequence.specs.Scan.{state_of}
use Rattle.vhdx_pieces_scan.specs.Scanning.{progressed}
use Rattle.vhdx_pieces_scan.proofs.Turns.{on-ring, asked-moved, resumed-at}
use Rattle.vhdx_pieces_scan.proofs.progress.Goals as goal

pub at-requires : goal.at-requires
at-requires c = (c.requires.here, c.requires.there)

pub at-requires-in-Break-Some : goal.at-requires-in-Break-Some
at-requires-in-Break-Some c = (c.requires.here, c.requires.there)

pub advance-requires : goal.advance-requires
advance-requires c = (on-ring c.requires, omega (arith, on-ring c.requires), omega (arith, c.requires.few, c.requires.laps))

pub resume-requires : goal.resume-requires
resume-requires c = asked-moved c.args.trace 1 c.requires c.advance.ensures c.requires.there

pub returns-in-Continue : goal.returns-in-Continue
returns-in-Continue c =
    let a = c.args in
    c.at.ensures ∙ sym (ap (progressed a.place.pos.len a.place.count (state_of a.trace)) c.in-Continue.is)

pub returns-in-Break-Some : goal.returns-in-Break-Some
returns-in-Break-Some c =
    let a = c.args in
    let m = c.in-Break-Some in
    c.at-in-Break-Some.ensures ∙ sym (ap (progressed a.place.pos.len a.place.count (state_of a.trace)) (m.is ∙ ap Break (rw m.is at m.field-0-is)))

pub returns-in-Break-None : goal.returns-in-Break-None
returns-in-Break-None c =
    let a = c.args in
    let m = c.in-Break-None in
    resumed-at a.place c.advance.result 1 (state_of a.trace) (state_of a.trace) c.advance.ensures refl c.resume.ensures
    ∙ sym (ap (progressed a.place.pos.len a.place.count (state_of a.trace)) (m.is ∙ ap Break (rw m.is at m.field-0-is)))
