-- `vhdx_metadata::item::is_there` meets its contract: the entry that was found says its length.
use Rattle.std.proofs.Common.{rules, ◌≡◌, ℕ, Bool, false, List, Option, None, Some, option_map, MatchOption}
use Rattle.extent.specs.declared.Extent.{Extent}
use Rattle.vhdx_metadata.specs.Table.{entry, item_extent}
use Rattle.vhdx_metadata.specs.Items.{entry_of, has_its_length, is_there_at, is_there}
use Rattle.vhdx_metadata.proofs.item.is_there.Goals as goal

at : {P : Extent → Type 0} (r : List ℕ) (row : ℕ) (o : Option ℕ) (t : Bool) → MatchOption (option_map (λ i. item_extent (entry r i)) o) (t ≡ false) P → ((e : Extent) → P e → t ≡ has_its_length row e.length) → t ≡ is_there_at r row o
at r row None t m f = m
at r row (Some i) t m f = f (item_extent (entry r i)) m

pub returns : goal.returns
unfolding is_there
returns c =
    let r = c.args.region.now in
    let row = c.args.row in
    at r row (entry_of r row) c.is_some_and.result (rw c.find.ensures at c.is_some_and.ensures) (λ e p. search rules)
