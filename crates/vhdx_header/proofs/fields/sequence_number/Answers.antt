-- `vhdx_header::fields::sequence_number` meets its contract.
use Rattle.vhdx_header.proofs.fields.sequence_number.Goals as goal

pub returns : goal.returns
returns c = c.u64_at.ensures
