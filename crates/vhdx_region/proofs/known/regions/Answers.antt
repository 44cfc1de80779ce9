-- `vhdx_region::known::regions` meets its contract: computed.
use mathlib.Core.Path.{refl}
use Rattle.vhdx_region.specs.Region.{known_regions}
use Rattle.guid.specs.Stored.{stored, lowest_first, highest_first}
use Rattle.vhdx_region.proofs.known.regions.Goals as goal

pub returns : goal.returns
unfolding known_regions stored lowest_first highest_first
returns c = refl
