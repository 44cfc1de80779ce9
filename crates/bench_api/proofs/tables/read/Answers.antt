-- `bench_api::tables::read` meets its contract.
use native.Mathlib.Omega.{arith}
use lib.ListN.{length}
use borrow.Author.Tests.{le-leb, lt-leb}
use Rattle.extent.specs.Extent.{mib}
use Rattle.bench_api.specs.Tables.{reading_of}
use Rattle.bench_api.proofs.tables.read.Goals as goal

pub returns-then-image-lt1048576 : goal.returns-then-image-lt1048576
unfolding reading_of
returns-then-image-lt1048576 c =
    simp (lt-leb mib (length c.args.image.now) (omega arith))

pub returns : goal.returns
unfolding reading_of
returns c =
    simp (c.read.ensures, le-leb mib (length c.args.image.now) (omega arith))
