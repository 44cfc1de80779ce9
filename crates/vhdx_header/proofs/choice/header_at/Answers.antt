-- `vhdx_header::choice::header_at` meets its contract.
use Rattle.vhdx_header.specs.Current.{header_at}
use Rattle.vhdx_header.proofs.choice.header_at.Goals as goal

pub returns : goal.returns
unfolding header_at
returns c = c.array_at.ensures
