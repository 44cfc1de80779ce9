-- `vhdx_region::table::entry` meets its contract.
use Rattle.vhdx_region.specs.Region.{entry}
use Rattle.vhdx_region.proofs.table.entry.Goals as goal

pub returns : goal.returns
unfolding entry
returns c = c.array_at.ensures
