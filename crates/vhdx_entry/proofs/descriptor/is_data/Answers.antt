-- `vhdx_entry::descriptor::is_data` meets its contract.
use Rattle.vhdx_entry.proofs.descriptor.is_data.Goals as goal

pub returns : goal.returns
returns c = simp c.u32_at.ensures
