-- `vhdx_metadata::item::find` meets its contract: an entry that was found is one of the table's.
use Rattle.std.proofs.Common.{rules, ◌≡◌, ◌<◌, ◌∙◌, sym, ℕ, Some}
use Rattle.vhdx_metadata.proofs.Laws.{found_below}
use Rattle.vhdx_metadata.proofs.item.find.Goals as goal

pub map-requires : goal.map-requires
map-requires c =
    let below : (i : ℕ) → c.find.result ≡ Some i → i < 2047 = λ i e. found_below c.args.region.now c.args.row c.requires.1 (sym c.find.ensures ∙ e) in
    search (rules, below)
