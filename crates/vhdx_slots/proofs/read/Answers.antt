-- `vhdx_slots::read` meets its contract: it reads the slots that the definition names.
use mathlib.Core.Path.{refl}
use Rattle.vhdx_slots.specs.Slots.{facts_from}
use Rattle.vhdx_slots.proofs.read.Goals as goal

pub returns : goal.returns
unfolding facts_from
returns c = refl
