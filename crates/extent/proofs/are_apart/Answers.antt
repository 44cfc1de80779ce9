-- `extent::are_apart` meets its contract.
use Rattle.extent.proofs.are_apart.Goals as goal

pub returns : goal.returns
returns c = rw c.overlap.ensures
