-- `vhdx_pieces_scan::take` meets its contract.
use native.Mathlib.Omega.{arith}
use Rattle.vhdx_sequence.specs.Scan.{state_of}
use Rattle.vhdx_pieces_scan.proofs.Turns.{on-ring, may-take, asked-moved, resumed-at}
use Rattle.vhdx_pieces_scan.proofs.take.Goals as goal

pub take_by-after-requires : goal.take_by-after-requires
take_by-after-requires c = may-take c.requires.0 c.requires.1 c.requires.2

pub advance-requires : goal.advance-requires
advance-requires c = (on-ring c.requires.0, c.requires.1, omega (arith, c.requires.0.few, c.requires.0.laps, c.requires.1))

pub resume-requires : goal.resume-requires
resume-requires c =
    asked-moved c.take_by-after.result c.args.e.size c.requires.0 c.advance.ensures c.take_by-after.ensures.placed

pub returns : goal.returns
returns c = resumed-at c.args.place c.advance.result c.args.e.size _ (state_of c.take_by-after.result) c.advance.ensures c.take_by-after.ensures.state c.resume.ensures
