-- `vhdx_replay::grow` meets its contract: zeros up to the final length, and no further.
use Rattle.vhdx_replay.proofs.grow.Goals as goal

pub returns : goal.returns
returns c = c.zeros.ensures
