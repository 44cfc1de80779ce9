-- `vhdx_pieces_entry::further` meets its contract.
use mathlib.Core.Path.{◌∙◌}
use borrow.Author.Tests.{lt-ltb, le-ltb}
use Rattle.vhdx_pieces_entry.specs.Pass.{Kept}
use Rattle.vhdx_pieces_entry.proofs.Laws.{also}
use Rattle.vhdx_pieces_entry.proofs.Keeping.{kept-further, on-front-further, on-data-further}
use Rattle.vhdx_pieces_entry.proofs.further.Goals as goal

pub returns-then-x-sectors : goal.returns-then-x-sectors
returns-then-x-sectors c =
    let a = c.args in
    let parts = also (Kept a.n) (c.on_front.ensures ∙ on-front-further a.n a.x a.s.now c.sectors.ensures (lt-ltb _ _ c.if-x-sectors.true)) (kept-further a.n a.x a.s.now c.requires.1) in
    record { value = parts.0; kept = parts.1 }

pub returns-else-x-sectors : goal.returns-else-x-sectors
returns-else-x-sectors c =
    let a = c.args in
    let parts = also (Kept a.n) (c.on_data.ensures ∙ on-data-further a.n a.x a.s.now c.sectors.ensures (le-ltb _ _ c.if-x-sectors.false)) (kept-further a.n a.x a.s.now c.requires.1) in
    record { value = parts.0; kept = parts.1 }
