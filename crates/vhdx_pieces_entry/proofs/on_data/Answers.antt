-- `vhdx_pieces_entry::on_data` meets its contract.
use mathlib.Core.Path.{sym, ◌∙◌, subst}
use native.Mathlib.Omega.{arith}
use Rattle.vhdx_pieces_entry.specs.Pass.{on_data, Sized}
use Rattle.vhdx_pieces_entry.proofs.Keeping.{past-sized}
use Rattle.vhdx_pieces_entry.proofs.on_data.Goals as goal

pub settled-requires : goal.settled-requires
settled-requires c =
    let a = c.args in
    subst (Sized a.n) (sym c.past.ensures) (past-sized a.n a.x 0 0 a.s.now c.requires.1.sized (omega arith) (omega arith))

pub returns-then-is_data_sector : goal.returns-then-is_data_sector
unfolding on_data
returns-then-is_data_sector c = simp (c.settled.ensures, c.past.ensures, sym c.is_data_sector.ensures ∙ c.if-is_data_sector.true)

pub returns-else-is_data_sector : goal.returns-else-is_data_sector
unfolding on_data
returns-else-is_data_sector c = simp (sym c.is_data_sector.ensures ∙ c.if-is_data_sector.false)
