-- `vhdx_metadata::item::extent` meets its contract: the entry that was found says where.
use Rattle.std.proofs.Common.{◌≡◌, refl, ℕ, List, Option, None, Some, option_map, unwrap_or}
use Rattle.extent.specs.Extent.{nowhere}
use Rattle.vhdx_metadata.specs.Table.{entry, item_extent}
use Rattle.vhdx_metadata.specs.Items.{entry_of, extent_at, extent_of}
use Rattle.vhdx_metadata.proofs.item.extent.Goals as goal

at : (r : List ℕ) (o : Option ℕ) → unwrap_or (option_map (λ i. item_extent (entry r i)) o) nowhere ≡ extent_at r o
at r None = refl
at r (Some i) = refl

pub returns : goal.returns
unfolding extent_of
returns c =
    let r = c.args.region.now in
    simp (c.unwrap_or.ensures, c.find.ensures, c.nowhere.ensures, at r (entry_of r c.args.row))
