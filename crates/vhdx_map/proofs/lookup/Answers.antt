-- `vhdx_map::lookup` meets its contract: 16, then 17, then what the image says.
use mathlib.Core.Path.{◌≡◌, sym, subst, ◌∙◌}
use mathlib.Core.Bool.{true}
use Prim.Native.Nat.{ℕ, ◌/◌}
use native.Mathlib.Omega.{arith}
use lib.ListN.{length}
use lib.Seq.{length-take-le}
use borrow.Author.Tests.{lt-ltb, le-ltb}
use Rattle.vhdx_fit.specs.Fit.{facts_fit}
use Rattle.vhdx_fit.proofs.Laws.{within-capacity, sizes-kept}
use Rattle.vhdx_map.specs.Lookup.{sector_rule, lookup}
use Rattle.vhdx_map.proofs.lookup.Goals as goal

pub returns-then-not-fits : goal.returns-then-not-fits
unfolding lookup
returns-then-not-fits c = simp (sym c.fits.ensures ∙ c.if-not-fits.true)

pub sectors-requires : goal.sectors-requires
sectors-requires c =
    let a = c.args in
    let p = within-capacity (length a.buffer.now) a.length a.facts (sym c.fits.ensures ∙ c.if-not-fits.false) in
    sizes-kept a.length a.facts p.1

pub returns-then-sectors-sector : goal.returns-then-sectors-sector
unfolding lookup sector_rule
returns-then-sectors-sector c =
    let a = c.args in
    simp (
      sym c.fits.ensures ∙ c.if-not-fits.false,
      le-ltb a.sector (a.facts.disk_size / a.facts.logical_sector_size) (omega (arith, c.sectors.ensures)),
    )

pub slice_bounds-in_image-end : goal.slice_bounds-in_image-end
slice_bounds-in_image-end c =
    let a = c.args in
    let p = within-capacity (length a.buffer.now) a.length a.facts (sym c.fits.ensures ∙ c.if-not-fits.false) in
    sym (length-take-le a.length a.buffer.now p.0)

pub in_image-requires : goal.in_image-requires
unfolding sector_rule
in_image-requires c =
    let a = c.args in
    let p = within-capacity (length a.buffer.now) a.length a.facts (sym c.fits.ensures ∙ c.if-not-fits.false) in (
      subst (λ (n : ℕ). facts_fit n a.facts ≡ true) (sym (length-take-le a.length a.buffer.now p.0)) p.1,
      lt-ltb a.sector (a.facts.disk_size / a.facts.logical_sector_size) (omega (arith, c.sectors.ensures)),
    )

pub returns : goal.returns
unfolding lookup sector_rule
returns c =
    let a = c.args in
    simp (
      sym c.fits.ensures ∙ c.if-not-fits.false,
      lt-ltb a.sector (a.facts.disk_size / a.facts.logical_sector_size) (omega (arith, c.sectors.ensures)),
      c.in_image.ensures,
    )
