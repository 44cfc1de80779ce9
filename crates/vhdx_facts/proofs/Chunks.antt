-- A chunk is 2^23 sectors: so the chunk of a sector, and how many chunks there are, are had by a division by 2^23 alone.
-- Assumes nothing.
use mathlib.Core.Path.{◌≡◌, sym, ap, ◌∙◌}
use mathlib.Core.Bool.{true}
use mathlib.Core.Logic.{⊎_elim}
use Prim.Native.Nat.{ℕ, ◌+◌, ◌-◌, ◌*◌, ◌/◌, ◌^◌, ◌≤◌}
use native.Mathlib.Nat.{div-eq_of_eq-mul_left, div-eq_of_lt-le, div-div-eq-div-mul, mul-div-mul_right, add-mul-div_right, mul-add-div_right, div-add-mod', add-mul, mul_comm, mul_assoc}
use native.Mathlib.Omega.{arith}
use Rattle.vhdx_facts.specs.Ranges.{sizes_rule}
use Rattle.vhdx_facts.specs.Geometry.{rounded_up, ratio, blocks, chunks}
use Rattle.vhdx_facts.specs.declared.Facts.{Facts}
use Rattle.vhdx_facts.proofs.Laws.{sizes, counts}

-- rounding up twice is rounding up once
rounded-twice : (d b r : ℕ) → 1 ≤ b → 1 ≤ r → rounded_up (rounded_up d b) r ≡ (d + (b * r - 1)) / (b * r)
rounded-twice d b r p q =
    let one_less : r * b ≡ (r - 1) * b + 1 * b = ap (λ (x : ℕ). x * b) {x = r} {y = r - 1 + 1} (omega arith) ∙ add-mul (r - 1) 1 b in
    let sum : d + (b - 1) + (r - 1) * b ≡ d + (b * r - 1) = omega (arith, one_less, mul_comm b r) in
    ap (λ (x : ℕ). x / r) (sym (add-mul-div_right (d + (b - 1)) (r - 1) {z = b} p))
    ∙ div-div-eq-div-mul (d + (b - 1) + (r - 1) * b) b r
    ∙ ap (λ (x : ℕ). x / (b * r)) sum

-- whole sectors of l bytes, 2^23 of them a chunk
by-sectors : (q l : ℕ) → 1 ≤ l → (q * l + (2 ^ 23 * l - 1)) / (2 ^ 23 * l) ≡ rounded_up q (2 ^ 23)
by-sectors q l p =
    let y = 2 ^ 23 * l - 1 in
    let last : y / l ≡ 2 ^ 23 - 1 = div-eq_of_lt-le {k = 2 ^ 23 - 1} l {m = y} (omega arith) (omega arith) in
    ap (λ (x : ℕ). (q * l + y) / x) (mul_comm (2 ^ 23) l)
    ∙ sym (div-div-eq-div-mul (q * l + y) l (2 ^ 23))
    ∙ ap (λ (x : ℕ). x / 2 ^ 23) (mul-add-div_right {m = l} p q y ∙ ap (λ (x : ℕ). q + x) last)

module _ (f : Facts) (h : sizes_rule f ≡ true) where
  -- a block size divides 2^32, and the bytes of 2^23 sectors are a multiple of that
  scaled : (c : ℕ) → 2 ^ 23 * f.logical_sector_size ≡ c * 2 ^ 32 → f.block_size * ratio f ≡ 2 ^ 23 * f.logical_sector_size
  unfolding ratio
  scaled c e =
      let b = f.block_size in
      let q = 2 ^ 32 / b in
      let whole : 2 ^ 32 ≡ q * b = omega (arith, div-add-mod' (2 ^ 32) b, (sizes f h).block_divides) in
      let product : 2 ^ 23 * f.logical_sector_size ≡ c * q * b = e ∙ ap (λ (x : ℕ). c * x) whole ∙ sym (mul_assoc c q b) in
      ap (λ (x : ℕ). b * x) (div-eq_of_eq-mul_left {n = b} (omega (arith, sizes f h)) product) ∙ mul_comm b (c * q) ∙ sym product

  -- a chunk's blocks have the bytes of its sectors
  chunk_bytes : f.block_size * ratio f ≡ 2 ^ 23 * f.logical_sector_size
  chunk_bytes = ⊎_elim (λ e. scaled 1 (omega arith)) (λ e. scaled 8 (omega arith)) (sizes f h).sector

  pub chunk-of-sector : (s : ℕ) → s * f.logical_sector_size / f.block_size / ratio f ≡ s / 2 ^ 23
  chunk-of-sector s =
      div-div-eq-div-mul (s * f.logical_sector_size) f.block_size (ratio f)
      ∙ ap (λ (x : ℕ). s * f.logical_sector_size / x) chunk_bytes
      ∙ mul-div-mul_right {m = f.logical_sector_size} s (2 ^ 23) (omega (arith, sizes f h))

  pub chunks-of-sectors : chunks f ≡ rounded_up (f.disk_size / f.logical_sector_size) (2 ^ 23)
  unfolding chunks blocks
  chunks-of-sectors =
      let z = sizes f h in
      let q = f.disk_size / f.logical_sector_size in
      let whole : f.disk_size ≡ q * f.logical_sector_size = omega (arith, z, div-add-mod' f.disk_size f.logical_sector_size) in
      rounded-twice f.disk_size f.block_size (ratio f) (omega (arith, z)) (omega (arith, counts f h))
      ∙ ap (λ (x : ℕ). (f.disk_size + (x - 1)) / x) chunk_bytes
      ∙ ap (λ (x : ℕ). (x + (2 ^ 23 * f.logical_sector_size - 1)) / (2 ^ 23 * f.logical_sector_size)) whole
      ∙ by-sectors q f.logical_sector_size (omega (arith, z))
