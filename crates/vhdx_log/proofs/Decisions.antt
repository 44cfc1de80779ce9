-- Refusals 6 to 8 are decided by what a survey says, although its numbers stop at the greatest one; and where none applies the
-- count is exact.
-- Assumes nothing.
use mathlib.Core.Path.{◌≡◌, refl, sym, ap, ◌∙◌}
use mathlib.Core.Bool.{Bool, true, false, ◌&&◌, and-eq-true_iff}
use mathlib.Core.List.{List, [], ◌∷◌}
use Prim.Native.Nat.{ℕ, ◌*◌, ◌/◌, ◌≤◌, ◌<◌, max}
use native.Mathlib.Decide.{dec_lt}
use native.Mathlib.Omega.{arith}
use lib.Dec.{leb}
use lib.ListN.{length, length-append}
use borrow.Author.Tests.{leb-true, le-leb, lt-leb, eq-eqb, ne_eqb}
use Rattle.extent.specs.declared.Extent.{Extent}
use Rattle.vhdx_walk.specs.Entries.{Descriptor, writes, zeros, Entries, head, all_descriptors, zero_sector, sectors_of, sectors, end, furthest, length_limit}
use Rattle.vhdx_walk.proofs.Runs.{length-sectors}
use Rattle.vhdx_log.specs.Work.{final_length, some_lies, refused, apply, work}
use Rattle.vhdx_log.specs.Survey.{capped}

-- ---- the count

sectors-end : (d : Descriptor) → length (sectors_of d) * 4096 ≤ end d
sectors-end (writes offset bytes) = omega (arith, length-sectors 1 offset bytes)
sectors-end (zeros offset n) = go (dec_lt 0 n)
  where
    go : Dec (0 < n) → length (sectors_of (zeros offset n)) * 4096 ≤ end (zeros offset n)
    go (yes p) = rw (ne_eqb n 0 (λ e. omega arith)) (omega (arith, length-sectors (n / 4096) offset zero_sector))
    go (no p) = rw (eq-eqb n 0 (omega arith)) (omega (arith, length-sectors (n / 4096) offset zero_sector))

few-sectors : (ds : List Descriptor) → furthest ds ≤ 140737488355328 → length (sectors ds) * 4096 ≤ length ds * 140737488355328
few-sectors [] h = omega arith
few-sectors (d ∷ ds) h =
    omega (arith, length-append (sectors_of d) (sectors ds), sectors-end d, few-sectors ds (omega arith))

-- with ends up to 128 TiB, and as many descriptors as 64 MiB hold
pub count-exact : (ds : List Descriptor) → furthest ds ≤ length_limit → length ds ≤ 2097152 → capped (length (sectors ds)) ≡ length (sectors ds)
count-exact ds h few = let f = few-sectors ds h in omega arith

-- ---- the final length

module _ (n last far : ℕ) where
  -- saturation hides no refusal
  pub within_same : (capacity : ℕ) → (leb (max n (max last (capped far))) capacity && leb (max n (max last (capped far))) length_limit) ≡ (leb (max n (max last far)) capacity && leb (max n (max last far)) length_limit)
  within_same capacity = go (dec_lt 18446744073709551615 far)
    where
      no-limit : (t : Bool) (m : ℕ) → length_limit < m → (t && leb m length_limit) ≡ false
      no-limit true m h = lt-leb m length_limit h
      no-limit false m h = refl

      go : Dec (18446744073709551615 < far) →
          (leb (max n (max last (capped far))) capacity && leb (max n (max last (capped far))) length_limit) ≡ (leb (max n (max last far)) capacity && leb (max n (max last far)) length_limit)
      go (yes p) =
          no-limit (leb (max n (max last (capped far))) capacity) (max n (max last (capped far))) (omega arith)
          ∙ sym (no-limit (leb (max n (max last far)) capacity) (max n (max last far)) (omega arith))
      go (no p) = let e : capped far ≡ far = omega arith in rw e

  -- what is within the limit did not stop at the greatest number
  pub exact : max n (max last (capped far)) ≤ length_limit → (max n (max last (capped far)) ≡ max n (max last far)) × (far ≤ length_limit)
  exact h =
      let e : capped far ≡ far = omega arith in
      (ap (λ (x : ℕ). max n (max last x)) e, omega arith)

-- ---- the decisions

module _ (e : Extent) (es : Entries) (n capacity : ℕ) where
  pub refused-6 : n < (head es).flushed → refused 6 ≡ work e es n capacity
  unfolding work
  refused-6 h = rw (lt-leb (head es).flushed n h)

  module _ (flushed : (head es).flushed ≤ n) where
    pub refused-7 : some_lies e (sectors (all_descriptors es)) ≡ true → refused 7 ≡ work e es n capacity
    unfolding work
    refused-7 h = rw (le-leb (head es).flushed n flushed, h)

    module _ (apart : some_lies e (sectors (all_descriptors es)) ≡ false) (m : ℕ) (final : m ≡ max n (max (head es).last (capped (furthest (all_descriptors es))))) where
      tested : (t : Bool) → (leb m capacity && leb m length_limit) ≡ t → (leb (final_length es n) capacity && leb (final_length es n) length_limit) ≡ t
      tested t h =
          sym (within_same n (head es).last (furthest (all_descriptors es)) capacity)
          ∙ ap (λ (x : ℕ). leb x capacity && leb x length_limit) (sym final)
          ∙ h

      pub refused-8 : (leb m capacity && leb m length_limit) ≡ false → refused 8 ≡ work e es n capacity
      unfolding work
      refused-8 h = rw (le-leb (head es).flushed n flushed, apart, tested false h)

      module _ (within : (leb m capacity && leb m length_limit) ≡ true) where
        below : (m ≡ final_length es n) × (furthest (all_descriptors es) ≤ length_limit)
        below =
            let l : m ≤ length_limit = leb-true m length_limit ((and-eq-true_iff (leb m capacity) (leb m length_limit)).0 within).1 in
            let x = exact n (head es).last (furthest (all_descriptors es)) (omega arith) in
            (final ∙ x.0, x.1)

        pub applied : apply m (sectors (all_descriptors es)) ≡ work e es n capacity
        unfolding work
        applied =
            ap (λ (x : ℕ). apply x (sectors (all_descriptors es))) below.0
            ∙ rw (le-leb (head es).flushed n flushed, apart, tested true within)

        pub exact-count : length (all_descriptors es) ≤ 2097152 → capped (length (sectors (all_descriptors es))) ≡ length (sectors (all_descriptors es))
        exact-count few = count-exact (all_descriptors es) below.1 few
