-- `vhdx_metadata::known::length` meets its contract: by computation.
use mathlib.Core.Path.{refl}
use Rattle.vhdx_metadata.specs.Known.{known_lengths}
use Rattle.vhdx_metadata.proofs.known.length.Goals as goal

pub returns : goal.returns
unfolding known_lengths
returns c = refl
