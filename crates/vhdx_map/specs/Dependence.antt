-- "A lookup depends on nothing but the facts, image and buffer lengths, the sector number, its BAT entry and, in state 7, the bitmap
-- entry and one bitmap byte." (document 01, "From sector to place")
-- Assumes nothing.
use Rattle.std.specs.Prelude.{true, List, ◌≡◌, ℕ, length, take}
use Rattle.vhdx_facts.specs.declared.Facts.{Facts}
use Rattle.vhdx_fit.specs.Fit.{fits}
use Rattle.vhdx_map.specs.Entry.{bitmap_rule}
use Rattle.vhdx_map.specs.Lookup.{payload_of, bitmap_of, bitmap_byte, says, sector_rule, lookup}
use Rattle.vhdx_map.specs.declared.entry.Meaning.TheVariants.{PartiallyPresent}

-- two images are alike for a lookup. A bitmap entry counts only where the payload entry is state 7 on a disk with a parent, and a
-- bitmap byte only where that entry names a bitmap inside the image
pub record Alike (f : Facts) (s : ℕ) (x y : List ℕ) : Type 0 where
  pub payload : payload_of f x s ≡ payload_of f y s
  pub bitmap : says f (payload_of f x s) ≡ PartiallyPresent → bitmap_of f x s ≡ bitmap_of f y s
  pub byte : says f (payload_of f x s) ≡ PartiallyPresent → bitmap_rule (length x) (bitmap_of f x s) ≡ true
      → bitmap_byte x (bitmap_of f x s) s ≡ bitmap_byte y (bitmap_of f x s) s

-- the theorem, proved in proofs/Dependence.antt. Where 16 or 17 applies nothing of the image is asked to be alike
abbrev pub DependsOnlyOnThese : Type 0
DependsOnlyOnThese =
    (f : Facts) (n s : ℕ) (x y : List ℕ)
    → length x ≡ length y
    → (fits (length x) n f ≡ true → sector_rule f s ≡ true → Alike f s (take n x) (take n y))
    → lookup f x n s ≡ lookup f y n s
