-- `vhdx_entry::body::is_data_sector` meets its contract.
use Rattle.vhdx_entry.specs.Entry.{data_sector_rule}
use Rattle.vhdx_entry.proofs.body.is_data_sector.Goals as goal

pub returns : goal.returns
unfolding data_sector_rule
returns c = simp (c.u32_at.ensures, c.u32_at-low.ensures, c.u32_at-high.ensures)
