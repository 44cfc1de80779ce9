-- `vhdx_pieces_entry::on_front` meets its contract.
use mathlib.Core.Path.{sym, ◌∙◌, subst}
use native.Mathlib.Omega.{arith}
use Rattle.vhdx_pieces_entry.specs.Pass.{on_front, Sized}
use Rattle.vhdx_pieces_entry.proofs.Keeping.{past-sized, fits-here, told, broken, whole}
use Rattle.vhdx_pieces_entry.proofs.on_front.Goals as goal

pub descriptors-requires : goal.descriptors-requires
descriptors-requires c =
    let a = c.args in
    fits-here a.x c.from.ensures c.here-m.ensures

pub past-requires : goal.past-requires
past-requires c =
    let a = c.args in
    let w = told a.x a.s.now c.descriptors.result c.from.ensures c.here-m.ensures c.descriptors.ensures c.in-Some.is in
    (omega (arith, c.here-m.ensures, c.requires.1.sized.seen, c.requires.1.sized.few), omega (arith, w, c.here-m.ensures, c.requires.1.sized.found, c.requires.1.sized.seen, c.requires.1.sized.few), omega (arith, c.requires.1.short))

pub settled-requires : goal.settled-requires
settled-requires c =
    let a = c.args in
    let w = told a.x a.s.now c.descriptors.result c.from.ensures c.here-m.ensures c.descriptors.ensures c.in-Some.is in
    subst (Sized a.n) (sym c.past.ensures) (past-sized a.n a.x _ _ a.s.now c.requires.1.sized (omega (arith, c.here-m.ensures)) w.1)

pub returns-in-None : goal.returns-in-None
unfolding on_front
returns-in-None c =
    let a = c.args in
    broken a.x a.s.now c.descriptors.result c.from.ensures c.here-m.ensures c.descriptors.ensures a.n c.in-None.is

pub returns-in-Some : goal.returns-in-Some
unfolding on_front
returns-in-Some c =
    let a = c.args in
    c.settled.ensures ∙ whole a.x a.s.now c.descriptors.result c.from.ensures c.here-m.ensures c.descriptors.ensures a.n c.in-Some.is c.past.ensures
