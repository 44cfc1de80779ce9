-- `vhdx_metadata::item::bytes` meets its contract: an item that is there lies inside the region.
use Rattle.std.proofs.Common.{ap, sym, ◌∙◌, ℕ, Some}
use native.Mathlib.Omega.{arith}
use Rattle.extent.specs.declared.Extent.{Extent}
use Rattle.extent.specs.Extent.{part}
use Rattle.vhdx_metadata.specs.Items.{item_of}
use Rattle.vhdx_metadata.proofs.Laws.{table_kept, extent-inside, extent-fixed}
use Rattle.vhdx_metadata.proofs.item.bytes.Goals as goal

pub extent-requires : goal.extent-requires
extent-requires c =
    (omega arith, table_kept c.args.region.now c.requires.1, omega arith)

pub part-requires : goal.part-requires
part-requires c =
    extent-inside c.args.region.now c.requires.1 c.args.row c.extent.ensures

pub returns : goal.returns
unfolding item_of
returns c =
    let r = c.args.region.now in
    let e = c.extent.ensures in
    let long = c.part.ensures.len ∙ ap (λ (x : Extent). x.length) e in
    record { bytes = c.part.ensures.bytes ∙ ap (part r) e; len = extent-fixed r c.args.row c.requires.2 c.requires.3 ∙ ap (λ (n : ℕ). Some n) (sym long) }
