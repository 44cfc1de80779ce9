-- What is known of a sector that the disk has, and of what a BAT entry stores.
-- Assumes nothing.
use mathlib.Core.Path.{◌≡◌}
use mathlib.Core.Bool.{true, and-eq-true_iff}
use Prim.Native.Nat.{ℕ, ◌+◌, ◌*◌, ◌/◌, ◌^◌, ◌≤◌, ◌<◌}
use native.Mathlib.Nat.{le-div_iff_mul-le, div-le_self, mod-lt}
use native.Mathlib.Omega.{arith}
use lib.Dec.{eqb, leb}
use borrow.Author.Tests.{leb-true, ltb-true}
use Rattle.extent.specs.Extent.{mib, inside}
use Rattle.vhdx_facts.specs.declared.Facts.{Facts}
use Rattle.vhdx_facts.specs.Ranges.{sizes_rule}
use Rattle.vhdx_facts.specs.Geometry.{ratio, blocks, needed_entries}
use Rattle.vhdx_facts.proofs.Laws.{sizes, counts}
use Rattle.vhdx_facts.proofs.Chunks.{chunk-of-sector}
use Rattle.vhdx_facts.proofs.Entries.{block-of-byte, chunk-of-block, block-entry-needed, bitmap-entry-needed}
use Rattle.vhdx_map.specs.Entry.{state, offset_of, stored_rule, bitmap_rule}
use Rattle.vhdx_map.specs.Lookup.{block_of, into_block, payload_index, bitmap_index, sector_rule}

-- ---- a sector that the disk has

whole-sector-below : (s d l : ℕ) → 0 < l → s < d / l → s * l < d
whole-sector-below s d l p h =
    let next : s + 1 ≤ d / l = omega arith in
    omega (arith, (le-div_iff_mul-le {k = l} {x = s + 1} p).0 next)

module _ (f : Facts) (s : ℕ) (h : sizes_rule f ≡ true) (k : sector_rule f s ≡ true) where
  -- it starts inside the disk
  start-inside : s * f.logical_sector_size < f.disk_size
  unfolding sector_rule
  start-inside =
      whole-sector-below s f.disk_size f.logical_sector_size (omega (arith, sizes f h)) (ltb-true s (f.disk_size / f.logical_sector_size) k)

  pub start_small : s * f.logical_sector_size < 2 ^ 64
  start_small = omega (arith, sizes f h, start-inside)

  block-below : block_of f s < blocks f
  unfolding block_of
  block-below = block-of-byte f h (s * f.logical_sector_size) start-inside

  pub block-small : block_of f s < 2 ^ 32
  block-small = omega (arith, block-below, counts f h)

  -- its chunk
  pub chunk_of : block_of f s / ratio f ≡ s / 2 ^ 23
  unfolding block_of
  chunk_of = chunk-of-sector f h s

  pub chunk_small : block_of f s / ratio f < 2 ^ 32
  chunk_small = omega (arith, block-small, div-le_self (block_of f s) (ratio f))

  -- it starts inside its block
  pub into-block-below : into_block f s < f.block_size
  unfolding into_block
  into-block-below = mod-lt (s * f.logical_sector_size) (omega (arith, sizes f h))

  -- the BAT must hold both entries
  pub payload-needed : payload_index f s < needed_entries f
  unfolding payload_index
  payload-needed = block-entry-needed f h (block_of f s) block-below

  pub bitmap-needed : bitmap_index f s < needed_entries f
  unfolding bitmap_index
  bitmap-needed = bitmap-entry-needed f h (block_of f s / ratio f) (chunk-of-block f h (block_of f s) block-below)

-- ---- what an entry says and stores

pub stored-inside : (n size e : ℕ) → stored_rule n size e ≡ true → offset_of e + size ≤ n
unfolding stored_rule
stored-inside n size e h = leb-true (offset_of e + size) n ((and-eq-true_iff (leb mib (offset_of e)) (inside (offset_of e) size n)).0 h).1

pub bitmap-inside : (n b : ℕ) → bitmap_rule n b ≡ true → offset_of b + mib ≤ n
unfolding bitmap_rule
bitmap-inside n b h = stored-inside n mib b ((and-eq-true_iff (eqb (state b) 6) (stored_rule n mib b)).0 h).1
