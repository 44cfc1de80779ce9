-- `vhdx_pieces_sanity::walker::wants_sector` meets its contract.
use mathlib.Core.Path.{sym, ◌∙◌}
use Rattle.vhdx_pieces_sanity.proofs.Decided.{walker-opened}
use Rattle.vhdx_pieces_sanity.proofs.walker.wants_sector.Goals as goal

pub holds_data-requires : goal.holds_data-requires
holds_data-requires c = (walker-opened c.args.w).sound (sym c.is_entered-in-Data.ensures ∙ c.if-is_entered-2.true)
