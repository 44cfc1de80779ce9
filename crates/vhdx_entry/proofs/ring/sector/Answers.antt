-- `vhdx_entry::ring::sector` meets its contract.
use Rattle.vhdx_entry.specs.Ring.{sector_at}
use Rattle.vhdx_entry.proofs.ring.sector.Goals as goal

pub returns : goal.returns
unfolding sector_at
returns c = c.array_at.ensures
