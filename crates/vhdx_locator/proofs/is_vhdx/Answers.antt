-- `vhdx_locator::is_vhdx` meets its contract: the identifier is compared by its two halves.
use Rattle.vhdx_locator.proofs.Laws.{type-number}
use Rattle.vhdx_locator.proofs.is_vhdx.Goals as goal

pub returns : goal.returns
returns c =
    simp (c.guid_is.ensures, c.guid_at.ensures, c.vhdx-kind.ensures, type-number)
