-- `vhdx_header::read` meets its contract.
use mathlib.Core.Path.{sym}
use borrow.Author.Tests.{le-leb}
use Rattle.std.proofs.Common.{length, arith, rules}
use lib.Seq.{length-take-le}
use Rattle.extent.specs.Extent.{mib}
use Rattle.vhdx_header.specs.Current.{first_mib, current_header}
use Rattle.vhdx_header.proofs.Laws.{length-first}
use Rattle.vhdx_header.proofs.read.Goals as goal

pub returns-then-buffer-length : goal.returns-then-buffer-length
unfolding current_header
returns-then-buffer-length c = search rules

pub slice_bounds-read_first_mib-end : goal.slice_bounds-read_first_mib-end
slice_bounds-read_first_mib-end c = sym (length-take-le 1048576 c.args.buffer.now (omega arith))

pub read_first_mib-requires : goal.read_first_mib-requires
unfolding first_mib
read_first_mib-requires c = length-first c.args.buffer.now (omega arith)

pub returns : goal.returns
unfolding first_mib current_header
returns c =
    let a = c.args in
    simp (
      c.within_image.ensures,
      c.read_first_mib.ensures,
      le-leb a.length (length a.buffer.now) (omega arith),
      le-leb mib a.length (omega arith),
    )
