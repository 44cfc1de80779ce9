-- An entry that a walk reads: where its parts lie in the log, and how long it is.
-- Assumes nothing.
use mathlib.Core.Path.{◌≡◌, refl, sym, ap, ◌∙◌}
use mathlib.Core.Bool.{true, false, cond, ◌&&◌, ◌||◌, and-eq-true_iff}
use mathlib.Core.List.{List}
use Prim.Native.Nat.{ℕ, zero, suc, ◌+◌, ◌*◌, ◌/◌, ◌%◌, ◌≤◌, ◌<◌}
use native.Mathlib.Decide.{dec_lt}
use native.Mathlib.Omega.{arith}
use lib.ListN.{length}
use borrow.Author.Tests.{leb-true, eqb-true}
use Rattle.decision.proofs.Laws.{every-at}
use Rattle.vhdx_entry.specs.declared.ring.RingPos.{RingPos}
use Rattle.vhdx_entry.specs.Ring.{log_sector_size, sector_count, ring, sector_at, On}
use Rattle.vhdx_entry.specs.Entry.{descriptor, descriptor_start, descriptor_count, sequence_number_of, entry_length, is_data_descriptor, is_zero, whole_sectors, zero_length, file_offset, data_before, data_count, size, descriptor_rule, descriptors_rule}
use Rattle.vhdx_entry.proofs.Laws.{length-ring, in-first, data-more}
use Rattle.vhdx_walk.specs.Entries.{writes}
use Rattle.vhdx_walk.specs.Bytes.{sector_bytes}
use Rattle.vhdx_walk.specs.Cursor.{Readable}

-- ---- data descriptors before others

data-le : (r : List ℕ) (i m : ℕ) → i ≤ m → data_before r i ≤ data_before r m
unfolding data_before
data-le r i zero h = let e : i ≡ 0 = omega arith in omega (arith, ap (data_before r) e)
data-le r i (suc m) h = go (dec_lt m i) (data-le r i m)
  where
    go : Dec (m < i) → (i ≤ m → data_before r i ≤ data_before r m) → data_before r i ≤ data_before r m + cond (is_data_descriptor (descriptor r m)) 1 0
    go (yes b) rec = let e : i ≡ suc m = omega arith in omega (arith, ap (data_before r) e)
    go (no b) rec = omega (arith, rec (omega arith))

-- a data descriptor's own is one more of the entry's
pub data-rank : (r : List ℕ) (i : ℕ) → i < descriptor_count r → is_data_descriptor (descriptor r i) ≡ true → data_before r i < data_count r
data-rank r i b h =
    let e : data_before r (i + 1) ≡ data_before r i + 1 = data-more r i ∙ rw h in
    let l : data_before r (i + 1) ≤ data_count r = data-le r (i + 1) (descriptor_count r) (omega arith) in
    omega arith

-- ---- a readable entry

-- a descriptor that is no data descriptor names whole sectors
zero-whole : (number : ℕ) (d : List ℕ) → descriptor_rule number d ≡ true → is_data_descriptor d ≡ false → zero_length d % log_sector_size ≡ 0
unfolding descriptor_rule
zero-whole number d h no-data =
    let p = ((and-eq-true_iff (is_data_descriptor d || (is_zero d && whole_sectors (zero_length d))) (whole_sectors (file_offset d) && _)).0 h).0 in
    let q : (is_zero d && whole_sectors (zero_length d)) ≡ true = sym (rw no-data) ∙ p in
    eqb-true (zero_length d % log_sector_size) 0 ((and-eq-true_iff (is_zero d) (whole_sectors (zero_length d))).0 q).1

module _ (r : List ℕ) (e : Readable r) where
  pub size_fits : size r * 4096 ≤ length r
  size_fits = leb-true (size r * 4096) (length r) e.fits

  pub length-exact : entry_length r ≡ size r * 4096
  length-exact = eqb-true (entry_length r) (size r * 4096) e.exact

  -- its descriptors lie in it
  pub descriptors-fit : (i : ℕ) → i ≤ descriptor_count r → descriptor_start i ≤ length r
  descriptors-fit i b = omega (arith, size_fits)

  pub zeros-whole : (i : ℕ) → i < descriptor_count r → is_data_descriptor (descriptor r i) ≡ false → zero_length (descriptor r i) % log_sector_size ≡ 0
  unfolding descriptors_rule
  zeros-whole i b h =
      zero-whole (sequence_number_of r) (descriptor r i)
      (every-at (λ k. descriptor_rule (sequence_number_of r) (descriptor r k)) (descriptor_count r) i e.described b)
      h

-- ---- at a position of the ring

module _ (log : List ℕ) (p : RingPos) (on : On log p) where
  pub same_count : sector_count log ≡ p.len
  same_count = omega arith

  pub same_length : length (ring log p.at) ≡ length log
  same_length = length-ring log p.len p.at on.1 on.0

  pub size-within : Readable (ring log p.at) → size (ring log p.at) ≤ p.len
  size-within e = omega (arith, size_fits (ring log p.at) e, same_length)

  pub size-read : Readable (ring log p.at) → entry_length (sector_at log p.at) / 4096 ≡ size (ring log p.at)
  size-read e = omega (arith, length-exact (ring log p.at) e, in-first log p.len p.at on refl 8 4 (omega arith))

-- ---- the bytes of a data descriptor's sector

pub writes-same : {a a' : ℕ} {d d' s s' : List ℕ} → a ≡ a' → d ≡ d' → s ≡ s' → writes a (sector_bytes d s) ≡ writes a' (sector_bytes d' s')
writes-same p q r = cc
