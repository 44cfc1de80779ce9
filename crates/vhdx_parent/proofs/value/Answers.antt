-- `vhdx_parent::value` meets its contract: the part that the extent names.
use mathlib.Core.Path.{ap, ◌∙◌}
use native.Mathlib.Omega.{arith}
use Rattle.extent.specs.declared.Extent.{Extent}
use Rattle.extent.specs.Extent.{part, onward}
use Rattle.vhdx_parent.proofs.Laws.{key-inside}
use Rattle.vhdx_parent.proofs.value.Goals as goal

pub part-requires : goal.part-requires
part-requires c =
    let a = c.args in
    let offset = ap (λ (x : Extent). x.offset) c.value_extent.ensures in
    let length = ap (λ (x : Extent). x.length) c.value_extent.ensures in
    omega (arith, offset, length, key-inside a.facts a.buffer.now a.length a.key.now)

pub returns : goal.returns
returns c =
    let a = c.args in
    record { bytes = c.part.ensures.bytes ∙ ap (part a.buffer.now) c.value_extent.ensures; len = c.part.ensures.len ∙ ap (λ (x : Extent). x.length) c.value_extent.ensures; place = c.part.ensures.place ∙ ap (λ (x : Extent). onward a.buffer.ref_ptr x.offset) c.value_extent.ensures }
