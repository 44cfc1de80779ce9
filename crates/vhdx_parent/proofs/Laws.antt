-- A key's value lies inside the buffer, also where there is none.
-- Assumes nothing.
use mathlib.Core.Path.{◌≡◌, refl}
use mathlib.Core.Bool.{Bool, true, false, cond, ◌&&◌, and-eq-true_iff}
use mathlib.Core.List.{List}
use Prim.Native.Nat.{ℕ, ◌+◌, ◌≤◌}
use native.Mathlib.Omega.{arith}
use lib.Dec.{ltb}
use lib.ListN.{length, take}
use lib.Seq.{length-take-le}
use Rattle.extent.specs.declared.Extent.{Extent}
use Rattle.extent.specs.Extent.{nowhere, part}
use Rattle.extent.proofs.Parts.{part_length}
use Rattle.vhdx_facts.specs.declared.Facts.{Facts}
use Rattle.vhdx_locator.specs.Locator.{value_of}
use Rattle.vhdx_locator.proofs.Laws.{value-inside}
use Rattle.vhdx_fit.specs.Fit.{fits}
use Rattle.vhdx_fit.proofs.Laws.{within-capacity, locator-inside}
use Rattle.vhdx_parent.specs.Key.{within, in_locator, key_extent}

-- a part of the m bytes at an offset
within-inside : (offset m n : ℕ) (e : Extent) → e.offset + e.length ≤ m → offset + m ≤ n → (within offset e).offset + (within offset e).length ≤ n
within-inside offset m n e p q = go (ltb 0 e.length)
  where
    go : (t : Bool) → (cond t (record { offset = offset + e.offset; length = e.length }) nowhere).offset + (cond t (record { offset = offset + e.offset; length = e.length }) nowhere).length ≤ n
    go true = omega arith
    go false = omega arith

in-locator-inside : (f : Facts) (image key : List ℕ) → f.locator.offset + f.locator.length ≤ length image
    → (in_locator f image key).offset + (in_locator f image key).length ≤ length image
unfolding in_locator
in-locator-inside f image key h =
    let item = part image f.locator in
    let inside : (value_of item key).offset + (value_of item key).length ≤ f.locator.length = omega (arith, value-inside item key, part_length image f.locator h) in
    within-inside f.locator.offset f.locator.length (length image) (value_of item key) inside h

pub key-inside : (f : Facts) (buffer : List ℕ) (n : ℕ) (key : List ℕ) → (key_extent f buffer n key).offset + (key_extent f buffer n key).length ≤ length buffer
unfolding key_extent
key-inside f buffer n key = go (fits (length buffer) n f && f.has_parent) refl
  where
    go : (t : Bool) → (fits (length buffer) n f && f.has_parent) ≡ t
        → (cond t (in_locator f (take n buffer) key) nowhere).offset + (cond t (in_locator f (take n buffer) key) nowhere).length ≤ length buffer
    go false e = omega arith
    go true e =
        let p = (and-eq-true_iff (fits (length buffer) n f) f.has_parent).0 e in
        let q = within-capacity (length buffer) n f p.0 in
        let size = length-take-le n buffer q.0 in
        let there = locator-inside n f q.1 p.1 in
        omega (arith, q.0, size, in-locator-inside f (take n buffer) key (omega (arith, size, there)))
