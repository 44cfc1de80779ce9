-- The locator lies inside the metadata region, and that inside the image.
-- Assumes nothing.
use mathlib.Core.Path.{◌≡◌, sym, subst}
use mathlib.Core.Bool.{Bool, true, false}
use mathlib.Core.List.{List}
use Prim.Native.Nat.{ℕ, ◌+◌, ◌≤◌}
use native.Mathlib.Omega.{arith}
use lib.ListN.{length}
use Rattle.decision.specs.Refusal.{answered}
use Rattle.extent.specs.declared.Extent.{Extent}
use Rattle.vhdx_facts.specs.declared.Facts.{Facts}
use Rattle.vhdx_region.specs.declared.Regions.{Regions}
use Rattle.vhdx_metadata.specs.declared.Items.{Items}
use Rattle.vhdx_metadata.specs.Items.{items}
use Rattle.vhdx_metadata.proofs.Laws.{locator-inside}
use Rattle.vhdx_tables.specs.Tables.{locator_extent, facts_of}

in_image : (parent : Bool) (region item : Extent) {n : ℕ} → item.offset + item.length ≤ region.length → region.offset + region.length ≤ n
    → (locator_extent parent region item).offset + (locator_extent parent region item).length ≤ n
in_image false region item p q = omega arith
in_image true region item p q = omega arith

pub facts_in_image : (g : Regions) (m : Items) {f : Facts} {n : ℕ} → f ≡ facts_of g m → m.locator.offset + m.locator.length ≤ g.metadata.length
    → g.metadata.offset + g.metadata.length ≤ n → f.locator.offset + f.locator.length ≤ n
unfolding facts_of
facts_in_image g m {n = n} e p q =
    subst (λ (f : Facts). f.locator.offset + f.locator.length ≤ n) (sym e) (in_image m.has_parent g.metadata m.locator p q)

-- the locator of the items that were read in a part of the image
pub inside_region : (region : List ℕ) (k : ℕ) {m : Items} → length region ≡ k → items region ≡ answered m → m.locator.offset + m.locator.length ≤ k
inside_region region k e h = omega (arith, locator-inside region h)
