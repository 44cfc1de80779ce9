-- Each byte of the disk has its block, each block its chunk, and both their entries among those that the BAT region must hold.
-- Assumes nothing.
use mathlib.Core.Path.{◌≡◌}
use mathlib.Core.Bool.{true}
use Prim.Native.Nat.{ℕ, ◌+◌, ◌*◌, ◌/◌, ◌≤◌, ◌<◌}
use native.Mathlib.Nat.{mul-le-mul_right, le-div_iff_mul-le, div-mul-le_self, lt-div-mul-add}
use native.Mathlib.Omega.{arith}
use Rattle.vhdx_facts.specs.Ranges.{sizes_rule}
use Rattle.vhdx_facts.specs.Geometry.{rounded_up, ratio, blocks, chunks, needed_entries, block_entry, bitmap_entry}
use Rattle.vhdx_facts.specs.declared.Facts.{Facts}
use Rattle.vhdx_facts.proofs.Laws.{sizes, counts}

below-rounded : (x a b : ℕ) → 1 ≤ b → x < a → x / b < rounded_up a b
below-rounded x a b p h =
    let next : x / b + 1 ≤ rounded_up a b = (le-div_iff_mul-le {k = b} {x = x / b + 1} p).1 (omega (arith, div-mul-le_self x b)) in
    omega arith

-- a chunk's entries are those of its r blocks and then its bitmap's
in-chunk : (r n c e : ℕ) → c < n → e ≤ c * (r + 1) + r → e < n * (r + 1)
in-chunk r n c e h p =
    let more : c + 1 ≤ n = omega arith in
    omega (arith, mul-le-mul_right (r + 1) more)

module _ (f : Facts) (h : sizes_rule f ≡ true) where
  pub block-of-byte : (x : ℕ) → x < f.disk_size → x / f.block_size < blocks f
  unfolding blocks
  block-of-byte x p = below-rounded x f.disk_size f.block_size (omega (arith, sizes f h)) p

  pub chunk-of-block : (b : ℕ) → b < blocks f → b / ratio f < chunks f
  unfolding chunks
  chunk-of-block b p = below-rounded b (blocks f) (ratio f) (counts f h).ratio_least p

  pub block-entry-needed : (b : ℕ) → b < blocks f → block_entry (ratio f) b < needed_entries f
  unfolding block_entry needed_entries
  block-entry-needed b p =
      let least : 0 < ratio f = (counts f h).ratio_least in
      in-chunk (ratio f) (chunks f) (b / ratio f) (b + b / ratio f) (chunk-of-block b p) (omega (arith, lt-div-mul-add {a = b} least))

  pub bitmap-entry-needed : (c : ℕ) → c < chunks f → bitmap_entry (ratio f) c < needed_entries f
  unfolding bitmap_entry needed_entries
  bitmap-entry-needed c p = in-chunk (ratio f) (chunks f) c (c * (ratio f + 1) + ratio f) p (omega arith)
