-- Fields of a list in which some bytes were put, and the size of a checksum.
-- Assumes nothing.
use mathlib.Core.Path.{◌≡◌, refl, sym, ap, ap₂, ◌∙◌}
use mathlib.Core.Bool.{Bool, ◌&&◌}
use mathlib.Core.List.{List, [], ◌∷◌, ◌++◌}
use mathlib.Core.Logic.{◌⊎◌, ⊎_elim}
use Prim.Native.Nat.{ℕ, zero, suc, ◌+◌, ◌-◌, ◌*◌, ◌/◌, ◌%◌, ◌^◌, ◌≤◌, ◌<◌}
use native.Mathlib.Nat.{mod-lt, div-add-mod'}
use native.Mathlib.Omega.{arith}
use lib.Bits.{bit_xor, xor_lt}
use lib.Dec.{eqb, lit<}
use lib.ListN.{length, take, drop, get_or, length-append}
use lib.Seq.{get_or-take, get_or-drop, ext_get_or, take-append-le, take_at, drop_at, length-take-le}
use Rattle.field.specs.Fields.{le, Bytes, field, starts}
use Rattle.field.proofs.Bytes.{bytes-append, bytes_take, bytes_drop, bytes-zeros}
use Rattle.crc32c.specs.Crc.{poly, ones, bit, bits, byte, updates, crc, zeroed}
use Rattle.vhdx_steps.specs.Buffer.{put}
use Rattle.vhdx_steps.proofs.Bytes.{part-long, put-length, put_in, put-out}
use Rattle.vhdx_steps.proofs.Reading.{same-part}

-- ---- a part of a list in which bytes were put

module _ (r : List ℕ) (at : ℕ) (d : List ℕ) (h : at + length d ≤ length r) where
  pub part_out : (a n : ℕ) → a + n ≤ length r → (a + n ≤ at) ⊎ (at + length d ≤ a) → take n (drop a (put r at d)) ≡ take n (drop a r)
  part_out a n b s =
      same-part a n r (put r at d) (omega (arith, put-length r at d h, b)) b
      (λ i l u. put-out r at d h i (λ x. ⊎_elim (λ y. omega (arith, x.0)) (λ y. omega (arith, x.1)) s))

  pub field_out : (a n : ℕ) → a + n ≤ length r → (a + n ≤ at) ⊎ (at + length d ≤ a) → field (put r at d) a n ≡ field r a n
  unfolding field
  field_out a n b s = ap le (part_out a n b s)

  pub part_in : take (length d) (drop at (put r at d)) ≡ d
  part_in =
      let long = put-length r at d h in
      let size = part-long (put r at d) at (length d) (omega arith) in
      ext_get_or 0 (take (length d) (drop at (put r at d))) d size
      (λ i l.
      let u : i < length d = omega (arith, size) in
      get_or-take (length d) (drop at (put r at d)) i 0 u ∙ get_or-drop at (put r at d) i 0
      ∙ put_in r at d h (at + i) (omega arith) (omega arith)
      ∙ ap (λ (k : ℕ). get_or d k 0) {x = at + i - at} {y = i} (omega arith))

  pub field_in : (n : ℕ) → length d ≡ n → field (put r at d) at n ≡ le d
  unfolding field
  field_in n e = ap (λ (k : ℕ). le (take k (drop at (put r at d)))) (sym e) ∙ ap le part_in

-- a list that starts with k: its first bytes alone decide
starts-part : (s k : List ℕ) → starts s k ≡ starts (take (length k) s) k
unfolding starts
starts-part [] [] = refl
starts-part (b ∷ s) [] = refl
starts-part [] (x ∷ k) = refl
starts-part (b ∷ s) (x ∷ k) = ap (λ (t : Bool). eqb b x && t) (starts-part s k)

pub starts-same : (s s' k : List ℕ) → take (length k) s' ≡ take (length k) s → starts s' k ≡ starts s k
starts-same s s' k e = starts-part s' k ∙ ap (λ (x : List ℕ). starts x k) e ∙ sym (starts-part s k)

-- what a checksum is over does not hold the checksum
pub zeroed-put : (h d : List ℕ) → length d ≡ 4 → 8 ≤ length h → zeroed (put h 4 d) 4 ≡ zeroed h 4
unfolding zeroed put
zeroed-put h d e b =
    let four : length (take 4 h) ≡ 4 = length-take-le 4 h (omega arith) in
    let eight : length (take 4 h ++ d) ≡ 4 + 4 = length-append (take 4 h) d ∙ omega arith in
    ap₂ (λ (x y : List ℕ). x ++ ((0 ∷ 0 ∷ 0 ∷ 0 ∷ []) ++ y))
    (take-append-le 4 (take 4 h ++ d) (drop (4 + length d) h) (omega arith) ∙ take_at (take 4 h) d 4 four)
    (drop_at (take 4 h ++ d) (drop (4 + length d) h) (4 + 4) eight ∙ ap (λ (k : ℕ). drop (4 + k) h) e)

-- ---- a checksum has 32 bits

bit-lt : (s : ℕ) → s < 2 ^ 32 → bit s < 2 ^ 32
unfolding bit
bit-lt s h =
    let r : s % 2 < 2 = mod-lt s (lit< tt) in
    xor_lt 32 (s % 2 * poly) (s / 2) (omega arith) (omega (arith, div-add-mod' s 2))

bits-lt : (n s : ℕ) → s < 2 ^ 32 → bits n s < 2 ^ 32
unfolding bits
bits-lt zero s h = h
bits-lt (suc n) s h = bits-lt n (bit s) (bit-lt s h)

updates-lt : (s : ℕ) (bs : List ℕ) → s < 2 ^ 32 → Bytes bs → updates s bs < 2 ^ 32
unfolding updates byte
updates-lt s [] h p = h
updates-lt s (b ∷ bs) h p = updates-lt (byte s b) bs (bits-lt 8 (bit_xor s b) (xor_lt 32 s b h (omega (arith, p.0)))) p.1

pub crc-lt : (bs : List ℕ) → Bytes bs → crc bs < 2 ^ 32
unfolding crc
crc-lt bs p = xor_lt 32 (updates ones bs) ones (updates-lt ones bs (omega arith) p) (omega arith)

-- ---- bytes

pub bytes-put : (r : List ℕ) (at : ℕ) (d : List ℕ) → Bytes r → Bytes d → Bytes (put r at d)
unfolding put
bytes-put r at d p q = bytes-append (take at r ++ d) (drop (at + length d) r) (bytes-append (take at r) d (bytes_take at r p) q) (bytes_drop (at + length d) r p)

pub bytes-zeroed : (h : List ℕ) → Bytes h → Bytes (zeroed h 4)
unfolding zeroed
bytes-zeroed h p =
    bytes-append (take 4 h) ((0 ∷ 0 ∷ 0 ∷ 0 ∷ []) ++ drop 8 h) (bytes_take 4 h p)
    (bytes-append (0 ∷ 0 ∷ 0 ∷ 0 ∷ []) (drop 8 h) (bytes-zeros 4) (bytes_drop 8 h p))
