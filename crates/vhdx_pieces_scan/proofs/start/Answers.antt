-- `vhdx_pieces_scan::start` meets its contract.
use Rattle.vhdx_pieces_entry.proofs.Laws.{also}
use Rattle.vhdx_pieces_scan.specs.Scanning.{Onward}
use Rattle.vhdx_pieces_scan.proofs.Turns.{asked-fresh, resumed-fresh}
use Rattle.vhdx_pieces_scan.proofs.Advancing.{scan-starts}
use Rattle.vhdx_pieces_scan.proofs.start.Goals as goal

pub resume-requires : goal.resume-requires
resume-requires c = asked-fresh c.new-trace.result c.requires c.new-trace.ensures.state c.new-trace.ensures.start.0 c.new-trace.ensures.start.1

pub returns : goal.returns
returns c =
    let n = c.args.n in
    also (Onward n) (resumed-fresh c.new-trace.result c.new-trace.ensures.state c.new-trace.ensures.start.1 c.resume.ensures)
    (scan-starts n c.requires).0
