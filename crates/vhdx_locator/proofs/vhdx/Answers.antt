-- `vhdx_locator::vhdx` meets its contract: the constant is what the definition computes.
use mathlib.Core.Path.{refl}
use Rattle.guid.specs.Stored.{stored, lowest_first, highest_first}
use Rattle.vhdx_locator.specs.Locator.{vhdx_type}
use Rattle.vhdx_locator.proofs.vhdx.Goals as goal

pub returns : goal.returns
unfolding vhdx_type stored lowest_first highest_first
returns c = refl
