-- `vhdx_region::table_at` meets its contract.
use Rattle.vhdx_region.specs.Region.{table_at}
use Rattle.vhdx_region.proofs.table_at.Goals as goal

pub returns : goal.returns
unfolding table_at
returns c = c.array_at.ensures
