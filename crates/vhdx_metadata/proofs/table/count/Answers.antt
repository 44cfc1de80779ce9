-- `vhdx_metadata::table::count` meets its contract: the rule limits it.
use native.Mathlib.Omega.{arith}
use Rattle.vhdx_metadata.proofs.Laws.{count-limit}
use Rattle.vhdx_metadata.proofs.table.count.Goals as goal

pub returns : goal.returns
returns c =
    (c.u16_at.ensures, omega (arith, c.u16_at.ensures, count-limit c.args.region.now c.requires.1))
