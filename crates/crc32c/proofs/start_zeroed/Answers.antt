-- `crc32c::start_zeroed` meets its contract: the bytes before, the zeros and the bytes after, one after the other.
use mathlib.Core.Path.{sym}
use native.Mathlib.Omega.{arith}
use lib.Seq.{length-take-le}
use Rattle.crc32c.proofs.Laws.{updates-zeroed}
use Rattle.crc32c.proofs.start_zeroed.Goals as goal

pub slice_bounds-update-end : goal.slice_bounds-update-end
slice_bounds-update-end c = sym (length-take-le c.min-before.result c.args.bytes.now (omega arith))

pub returns : goal.returns
returns c =
    updates-zeroed c.args.bytes.now c.args.at c.min-before.ensures (omega (arith, c.well_formed)) c.update-a.ensures c.update-b.ensures c.update.ensures
