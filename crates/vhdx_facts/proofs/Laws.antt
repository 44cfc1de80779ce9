-- What is known of facts whose sizes are in their ranges: the sizes, and how many blocks, chunks and entries there are.
-- Assumes nothing.
use mathlib.Core.Path.{◌≡◌, refl, ap, ◌∙◌}
use mathlib.Core.Bool.{Bool, true, ◌&&◌, ◌||◌, and-eq-true_iff}
use mathlib.Core.Logic.{◌⊎◌, inl, inr, ⊎_elim}
use Prim.Native.Nat.{ℕ, ◌+◌, ◌-◌, ◌*◌, ◌%◌, ◌^◌, ◌≤◌, ◌<◌}
use native.Mathlib.Nat.{mul-le-mul, le-div_iff_mul-le, div-lt_iff_lt-mul, div-le_of_le-mul}
use native.Mathlib.Omega.{arith}
use lib.Dec.{eqb, leb}
use borrow.Author.Tests.{eqb-true, leb-true}
use Rattle.extent.specs.Extent.{mib}
use Rattle.extent.proofs.Laws.{either}
use Rattle.vhdx_facts.specs.Ranges.{sector_size_rule, block_size_rule, disk_size_limit, disk_size_rule, sizes_rule}
use Rattle.vhdx_facts.specs.Geometry.{rounded_up, ratio, blocks, chunks, needed_entries}
use Rattle.vhdx_facts.specs.declared.Facts.{Facts}

-- ---- the sizes

pub record Sizes (f : Facts) : Type 0 where
  pub sector : (f.logical_sector_size ≡ 512) ⊎ (f.logical_sector_size ≡ 4096)
  pub sector_least : 512 ≤ f.logical_sector_size
  pub sector_most : f.logical_sector_size ≤ 4096
  pub sector_kept : sector_size_rule f.logical_sector_size ≡ true
  pub block_kept : block_size_rule f.block_size ≡ true
  pub block_whole : f.block_size % mib ≡ 0
  pub block_least : mib ≤ f.block_size
  pub block_most : f.block_size ≤ 256 * mib
  pub block_divides : 2 ^ 32 % f.block_size ≡ 0
  pub disk_whole : f.disk_size % f.logical_sector_size ≡ 0
  pub disk_least : f.logical_sector_size ≤ f.disk_size
  pub disk_most : f.disk_size ≤ disk_size_limit

sector-sizes : (n : ℕ) → sector_size_rule n ≡ true → (n ≡ 512) ⊎ (n ≡ 4096)
sector-sizes n h = ⊎_elim (λ e. inl (eqb-true n 512 e)) (λ e. inr (eqb-true n 4096 e)) (either (eqb n 512) (eqb n 4096) h)

sector-range : (n : ℕ) → (n ≡ 512) ⊎ (n ≡ 4096) → (512 ≤ n) × (n ≤ 4096)
sector-range n = ⊎_elim (λ e. omega arith) (λ e. omega arith)

pub sector-size-else : (n : ℕ) → sector_size_rule n ≡ true → (n ≡ 512 → ⊥) → n ≡ 4096
sector-size-else n h other = ⊎_elim (λ e. absurd (other e)) (λ e. e) (sector-sizes n h)

-- what is tested of each block size: it is a multiple of 1 MiB, from 1 to 256 MiB, and divides 2^32
good : ℕ → Bool
good n = eqb (n % mib) 0 && (leb mib n && (leb n (256 * mib) && eqb (2 ^ 32 % n) 0))

this : (n m : ℕ) → good m ≡ true → eqb n m ≡ true → good n ≡ true
this n m g e = ap good (eqb-true n m e) ∙ g

or_later : (n m : ℕ) (later : Bool) → good m ≡ true → (later ≡ true → good n ≡ true) → (eqb n m || later) ≡ true → good n ≡ true
or_later n m later g go e = ⊎_elim (this n m g) go (either (eqb n m) later e)

all-good : (n : ℕ) → block_size_rule n ≡ true → good n ≡ true
unfolding good
all-good n =
    or_later n (2 ^ 0 * mib) _ refl
    (or_later n (2 ^ 1 * mib) _ refl
    (or_later n (2 ^ 2 * mib) _ refl
    (or_later n (2 ^ 3 * mib) _ refl
    (or_later n (2 ^ 4 * mib) _ refl
    (or_later n (2 ^ 5 * mib) _ refl
    (or_later n (2 ^ 6 * mib) _ refl
    (or_later n (2 ^ 7 * mib) _ refl
    (this n (2 ^ 8 * mib) refl))))))))

block-range : (n : ℕ) → good n ≡ true → (n % mib ≡ 0) × (mib ≤ n) × (n ≤ 256 * mib) × (2 ^ 32 % n ≡ 0)
unfolding good
block-range n h =
    let p = (and-eq-true_iff (eqb (n % mib) 0) _).0 h in
    let q = (and-eq-true_iff (leb mib n) _).0 p.1 in
    let r = (and-eq-true_iff (leb n (256 * mib)) (eqb (2 ^ 32 % n) 0)).0 q.1 in
    (eqb-true (n % mib) 0 p.0, leb-true mib n q.0, leb-true n (256 * mib) r.0, eqb-true (2 ^ 32 % n) 0 r.1)

pub sizes : (f : Facts) → sizes_rule f ≡ true → Sizes f
unfolding sizes_rule disk_size_rule
sizes f h =
    let p = (and-eq-true_iff (sector_size_rule f.logical_sector_size) _).0 h in
    let q = (and-eq-true_iff (sector_size_rule f.physical_sector_size) _).0 p.1 in
    let r = (and-eq-true_iff (block_size_rule f.block_size) (disk_size_rule f.logical_sector_size f.disk_size)).0 q.1 in
    let whole = (and-eq-true_iff (eqb (f.disk_size % f.logical_sector_size) 0) _).0 r.1 in
    let range = (and-eq-true_iff (leb f.logical_sector_size f.disk_size) (leb f.disk_size disk_size_limit)).0 whole.1 in
    let sector = sector-sizes f.logical_sector_size p.0 in
    let block = block-range f.block_size (all-good f.block_size r.0) in
    record {
      sector = sector;
      sector_least = (sector-range _ sector).0;
      sector_most = (sector-range _ sector).1;
      sector_kept = p.0;
      block_kept = r.0;
      block_whole = block.0;
      block_least = block.1;
      block_most = block.2;
      block_divides = block.3;
      disk_whole = eqb-true _ _ whole.0;
      disk_least = leb-true _ _ range.0;
      disk_most = leb-true _ _ range.1;
    }

-- ---- the counts

pub record Counts (f : Facts) : Type 0 where
  pub ratio_least : 1 ≤ ratio f
  pub ratio_most : ratio f ≤ 2 ^ 15
  pub blocks_most : blocks f ≤ 2 ^ 26
  pub chunks_most : chunks f ≤ 2 ^ 26
  pub entries_most : needed_entries f < 2 ^ 43

-- fewer chunks of fewer blocks have fewer entries
pub chunk-entries : {c r m n : ℕ} → c ≤ m → r ≤ n → c * (r + 1) ≤ m * (n + 1)
chunk-entries {r = r} {n = n} p q = let more : r + 1 ≤ n + 1 = omega arith in mul-le-mul p more

rounded-most : (a b n : ℕ) → 1 ≤ b → a ≤ n * b → rounded_up a b ≤ n
rounded-most a b n p h =
    let below : rounded_up a b < n + 1 = (div-lt_iff_lt-mul {k = b} {x = a + (b - 1)} {y = n + 1} p).1 (omega arith) in
    omega arith

module _ {f : Facts} (s : Sizes f) where
  ratio_least : 1 ≤ ratio f
  unfolding ratio
  ratio_least = (le-div_iff_mul-le {k = f.block_size} {x = 1} (omega arith)).1 (omega arith)

  ratio_most : ratio f ≤ 2 ^ 15
  unfolding ratio
  ratio_most = div-le_of_le-mul f.block_size (omega arith)

  blocks_most : blocks f ≤ 2 ^ 26
  unfolding blocks
  blocks_most = rounded-most f.disk_size f.block_size (2 ^ 26) (omega arith) (omega arith)

  chunks_most : chunks f ≤ 2 ^ 26
  unfolding chunks
  chunks_most = rounded-most (blocks f) (ratio f) (2 ^ 26) ratio_least (omega (arith, ratio_least, blocks_most))

  entries_most : needed_entries f < 2 ^ 43
  unfolding needed_entries
  entries_most =
      let e : chunks f * (ratio f + 1) ≤ 2 ^ 26 * (2 ^ 15 + 1) = chunk-entries chunks_most ratio_most in
      omega arith

pub counts : (f : Facts) → sizes_rule f ≡ true → Counts f
counts f h =
    let s = sizes f h in
    record {
      ratio_least = ratio_least s;
      ratio_most = ratio_most s;
      blocks_most = blocks_most s;
      chunks_most = chunks_most s;
      entries_most = entries_most s;
    }
