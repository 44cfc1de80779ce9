-- `vhdx_entry::header::is_marked` meets its contract.
use Rattle.vhdx_entry.proofs.header.is_marked.Goals as goal

pub returns : goal.returns
returns c = simp c.u32_at.ensures
