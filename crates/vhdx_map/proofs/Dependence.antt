-- A lookup depends on nothing but what document 01 names.
-- Assumes nothing.
use mathlib.Core.Path.{◌≡◌, refl, sym, ap, ◌∙◌}
use mathlib.Core.Bool.{Bool, true, false}
use mathlib.Core.List.{List}
use Prim.Native.Nat.{ℕ, ◌≤◌}
use native.Mathlib.Omega.{arith}
use lib.ListN.{length, take}
use lib.Seq.{length-take-le}
use Rattle.decision.specs.Refusal.{refused, answered, check}
use Rattle.vhdx_facts.specs.declared.Facts.{Facts}
use Rattle.vhdx_fit.specs.Fit.{fits}
use Rattle.vhdx_fit.proofs.Laws.{within-capacity}
use Rattle.vhdx_map.specs.Entry.{stored_rule, bitmap_rule}
use Rattle.vhdx_map.specs.Lookup.{payload_of, bitmap_of, bitmap_byte, says, sector_rule, by_bit, partial, located, in_image_at, lookup}
use Rattle.vhdx_map.specs.Dependence.{Alike, DependsOnlyOnThese}
use Rattle.vhdx_map.specs.declared.entry.Meaning.{Meaning}
use Rattle.vhdx_map.specs.declared.entry.Meaning.TheVariants.{ReadsZero, ReadsParent, FullyPresent, PartiallyPresent, Invalid}

-- the bitmap's byte counts only where its entry keeps its rule
byte-alike : (n : ℕ) (f : Facts) (s e b x y : ℕ) → (bitmap_rule n b ≡ true → x ≡ y) → partial n f s e b x ≡ partial n f s e b y
byte-alike n f s e b x y h = ap (check (stored_rule n f.block_size e) (refused 19)) (go (bitmap_rule n b) h)
  where
    go : (t : Bool) → (t ≡ true → x ≡ y) → check t (refused 20) (answered (by_bit f s e x)) ≡ check t (refused 20) (answered (by_bit f s e y))
    go true h = ap (λ (z : ℕ). answered (by_bit f s e z)) (h refl)
    go false h = refl

-- the bitmap's entry counts only where the block is partially present
entry-alike : (n : ℕ) (f : Facts) (s e b d x y : ℕ) (m : Meaning) → (m ≡ PartiallyPresent → b ≡ d) → (m ≡ PartiallyPresent → bitmap_rule n b ≡ true → x ≡ y)
    → located n f s e b x m ≡ located n f s e d y m
unfolding located
entry-alike n f s e b d x y ReadsZero p q = refl
entry-alike n f s e b d x y ReadsParent p q = refl
entry-alike n f s e b d x y FullyPresent p q = refl
entry-alike n f s e b d x y Invalid p q = refl
entry-alike n f s e b d x y PartiallyPresent p q =
    byte-alike n f s e b x y (q refl) ∙ ap (λ (z : ℕ). partial n f s e z y) (p refl)

byte-same : (f : Facts) (s : ℕ) (x y : List ℕ) → Alike f s x y → says f (payload_of f x s) ≡ PartiallyPresent → bitmap_rule (length x) (bitmap_of f x s) ≡ true
    → bitmap_byte x (bitmap_of f x s) s ≡ bitmap_byte y (bitmap_of f y s) s
byte-same f s x y h p q = h.byte p q ∙ ap (λ (b : ℕ). bitmap_byte y b s) (h.bitmap p)

image-alike : (f : Facts) (s : ℕ) (x y : List ℕ) → length x ≡ length y → Alike f s x y → in_image_at f x s ≡ in_image_at f y s
unfolding in_image_at
image-alike f s x y same h =
    let e = payload_of f x s in
    let d = bitmap_of f y s in
    let byte = bitmap_byte y d s in
    entry-alike (length x) f s e (bitmap_of f x s) d (bitmap_byte x (bitmap_of f x s) s) byte (says f e) h.bitmap (byte-same f s x y h)
    ∙ ap (λ (n : ℕ). located n f s e d byte (says f e)) same
    ∙ ap (λ (z : ℕ). located (length y) f s z d byte (says f z)) h.payload

pub depends-only-on-these : DependsOnlyOnThese
unfolding lookup
depends-only-on-these f n s x y same alike =
    go (fits (length x) n f) (sector_rule f s) refl refl
    ∙ ap (λ (k : ℕ). check (fits k n f) (refused 16) (check (sector_rule f s) (refused 17) (in_image_at f (take n y) s))) same
  where
    go : (t u : Bool) → fits (length x) n f ≡ t → sector_rule f s ≡ u
        → check t (refused 16) (check u (refused 17) (in_image_at f (take n x) s)) ≡ check t (refused 16) (check u (refused 17) (in_image_at f (take n y) s))
    go false u p q = refl
    go true false p q = refl
    go true true p q =
        let fit : n ≤ length x = (within-capacity (length x) n f p).0 in
        let sizes : length (take n x) ≡ length (take n y) = length-take-le n x fit ∙ sym (length-take-le n y (omega (arith, fit, same))) in
        image-alike f s (take n x) (take n y) sizes (alike p q)
