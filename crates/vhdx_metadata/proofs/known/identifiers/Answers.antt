-- `vhdx_metadata::known::identifiers` meets its contract: by computation.
use mathlib.Core.Path.{refl}
use Rattle.vhdx_metadata.specs.Known.{known_items}
use Rattle.guid.specs.Stored.{lowest_first, highest_first, stored}
use Rattle.vhdx_metadata.proofs.known.identifiers.Goals as goal

pub returns : goal.returns
unfolding known_items stored lowest_first highest_first
returns c = refl
