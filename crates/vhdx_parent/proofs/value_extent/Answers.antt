-- `vhdx_parent::value_extent` meets its contract: facts that fit place the locator inside the image.
use mathlib.Core.Path.{sym, ◌∙◌}
use native.Mathlib.Omega.{arith}
use lib.ListN.{length}
use lib.Seq.{length-take-le}
use Rattle.vhdx_fit.proofs.Laws.{within-capacity, locator-inside}
use Rattle.vhdx_parent.proofs.value_extent.Goals as goal

pub slice_bounds-in_locator-end : goal.slice_bounds-in_locator-end
slice_bounds-in_locator-end c =
    let a = c.args in
    let p = within-capacity (length a.buffer.now) a.length a.facts (sym c.fits.ensures ∙ c.if-fits.true) in
    sym (length-take-le a.length a.buffer.now p.0)

pub in_locator-requires : goal.in_locator-requires
in_locator-requires c =
    let a = c.args in
    let p = within-capacity (length a.buffer.now) a.length a.facts (sym c.fits.ensures ∙ c.if-fits.true) in
    omega (arith, length-take-le a.length a.buffer.now p.0, locator-inside a.length a.facts p.1 c.if-facts.true)
