-- What is known of facts that fit an image of n bytes.
-- Assumes nothing.
use mathlib.Core.Path.{◌≡◌}
use mathlib.Core.Bool.{true, ◌&&◌, and-eq-true_iff}
use Prim.Native.Nat.{ℕ, ◌+◌, ◌*◌, ◌≤◌}
use native.Mathlib.Omega.{arith}
use lib.Dec.{leb}
use borrow.Author.Tests.{leb-true}
use Rattle.vhdx_facts.specs.declared.Facts.{Facts}
use Rattle.vhdx_facts.specs.Ranges.{sizes_rule}
use Rattle.vhdx_facts.specs.Geometry.{needed_entries, bat_rule}
use Rattle.vhdx_locator.specs.Locator.{size_rule}
use Rattle.vhdx_region.specs.Region.{location_rule as region_rule}
use Rattle.vhdx_region.proofs.Laws.{placed_by}
use Rattle.vhdx_metadata.specs.Table.{location_rule as item_rule}
use Rattle.vhdx_metadata.proofs.Laws.{location-inside}
use Rattle.vhdx_fit.specs.Fit.{regions_fit, locator_item, locator_fits, parent_fits, facts_fit, fits}

pub within-capacity : (capacity n : ℕ) (f : Facts) → fits capacity n f ≡ true → (n ≤ capacity) × (facts_fit n f ≡ true)
unfolding fits
within-capacity capacity n f h =
    let p = (and-eq-true_iff (leb n capacity) (facts_fit n f)).0 h in
    (leb-true n capacity p.0, p.1)

-- of the locator of a disk with a parent, in a metadata region that ends at m or before
locator-below : (f : Facts) (m : ℕ) → locator_fits f ≡ true → f.metadata.offset + f.metadata.length ≤ m → f.locator.offset + f.locator.length ≤ m
unfolding locator_fits
locator-below f m h b =
    let p = (and-eq-true_iff (leb f.metadata.offset f.locator.offset) _).0 h in
    let q = (and-eq-true_iff (item_rule f.metadata.length (locator_item f)) (size_rule f.locator.length)).0 p.1 in
    let start = leb-true f.metadata.offset f.locator.offset p.0 in
    omega (arith, start, location-inside f.metadata.length (locator_item f) q.0)

module _ (n : ℕ) (f : Facts) (h : facts_fit n f ≡ true) where
  rules : (sizes_rule f ≡ true) × (regions_fit n f ≡ true) × (bat_rule f ≡ true) × (parent_fits f ≡ true)
  unfolding facts_fit
  rules =
      let p = (and-eq-true_iff (sizes_rule f) _).0 h in
      let q = (and-eq-true_iff (regions_fit n f) _).0 p.1 in
      let r = (and-eq-true_iff (bat_rule f) (parent_fits f)).0 q.1 in
      (p.0, q.0, r.0, r.1)

  regions-kept : (region_rule n f.bat ≡ true) × (region_rule n f.metadata ≡ true)
  unfolding regions_fit
  regions-kept =
      let p = (and-eq-true_iff (region_rule n f.bat && region_rule n f.metadata) _).0 rules.1 in
      (and-eq-true_iff (region_rule n f.bat) (region_rule n f.metadata)).0 p.0

  pub sizes-kept : sizes_rule f ≡ true
  sizes-kept = rules.0

  pub bat-inside : f.bat.offset + f.bat.length ≤ n
  bat-inside = (placed_by n f.bat regions-kept.0).inside

  pub bat-long-enough : needed_entries f * 8 ≤ f.bat.length
  unfolding bat_rule
  bat-long-enough = leb-true (needed_entries f * 8) f.bat.length rules.2

  pub locator-inside : f.has_parent ≡ true → f.locator.offset + f.locator.length ≤ n
  unfolding locator_fits
  locator-inside parent = locator-below f n (rw parent at rules).3 (placed_by n f.metadata regions-kept.1).inside
