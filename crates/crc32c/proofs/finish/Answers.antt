-- `crc32c::finish` meets its contract.
use mathlib.Core.Path.{refl}
use Rattle.crc32c.proofs.finish.Goals as goal

pub returns : goal.returns
returns c = refl
