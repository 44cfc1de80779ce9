-- `vhdx_parent::in_locator` meets its contract: the value lies inside the locator, and that inside the image.
use mathlib.Core.Path.{ap}
use native.Mathlib.Omega.{arith}
use Rattle.extent.specs.declared.Extent.{Extent}
use Rattle.vhdx_locator.proofs.Laws.{value-inside}
use Rattle.vhdx_parent.specs.Key.{in_locator}
use Rattle.vhdx_parent.proofs.in_locator.Goals as goal

pub from_start-requires : goal.from_start-requires
from_start-requires c =
    let offset = ap (λ (x : Extent). x.offset) c.value.ensures in
    omega (arith, offset, c.part-item.ensures.len, value-inside c.part-item.result.now c.args.key.now, c.requires, c.well_formed)

pub returns : goal.returns
unfolding in_locator
returns c = simp (c.from_start.ensures, c.value.ensures, c.part-item.ensures.bytes)
