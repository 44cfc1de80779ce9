-- `vhdx_locator::entry::has_key` meets its contract: by the entry's rule its key lies inside the item.
use mathlib.Core.Path.{ap}
use native.Mathlib.Omega.{arith}
use Rattle.extent.specs.declared.Extent.{Extent}
use Rattle.vhdx_locator.proofs.Laws.{key-part}
use Rattle.vhdx_locator.proofs.entry.has_key.Goals as goal

pub is_at-requires : goal.is_at-requires
is_at-requires c =
    let own = c.key-own.ensures in
    let o = ap (λ (x : Extent). x.offset) own in
    let n = ap (λ (x : Extent). x.length) own in
    omega (arith, key-part c.args.item.now c.args.i c.requires.1)
