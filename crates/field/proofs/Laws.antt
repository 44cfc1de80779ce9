-- A field is its first m bytes and, 256 ^ m times, the rest: one law, at every width.
-- Assumes nothing.
use mathlib.Core.Path.{◌≡◌, refl, sym, ap, ap₂, ◌∙◌}
use mathlib.Core.Bool.{Bool, true, false, ◌&&◌}
use mathlib.Core.List.{List, [], ◌∷◌, ◌++◌}
use Prim.Native.Nat.{ℕ, zero, suc, ◌+◌, ◌/◌, ◌%◌, ◌*◌, ◌^◌, ◌≤◌, ◌<◌}
use native.Mathlib.Nat.{pow-suc, div-div-eq-div-mul}
use native.Mathlib.Omega.{arith}
use lib.Dec.{eqb}
use lib.ListN.{length, take, drop, get_or, length-drop}
use lib.Seq.{take-add, drop-drop, length-take-le, drop-cons}
use borrow.Author.Tests.{eq-eqb, ne_eqb, eqb-true, eqb-false}
use Rattle.std.specs.List.{starts_with}
use Rattle.std.specs.Int.{Width, byte_len, byte_at, bytes_low_first, to_le_bytes}
use Rattle.field.specs.declared.Guid.{Guid}
use Rattle.field.specs.Fields.{le, le_bytes, field, guid_at, number, starts}

le-append : (a b : List ℕ) → le (a ++ b) ≡ le a + 256 ^ length a * le b
unfolding le
le-append [] b = omega arith
le-append (x ∷ a) b =
    ap (λ (n : ℕ). x + 256 * n) (le-append a b)
    ∙ omega (arith, ap (λ (p : ℕ). p * le b) (pow-suc 256 (length a)))

pub field-add : (s : List ℕ) (at m n : ℕ) → at + m ≤ length s → field s at (m + n) ≡ field s at m + 256 ^ m * field s (at + m) n
unfolding field
field-add s at m n h =
    ap le (take-add m n (drop at s)) ∙ le-append (take m (drop at s)) (take n (drop m (drop at s)))
    ∙ ap₂ (λ (k : ℕ) (l : List ℕ). le (take m (drop at s)) + 256 ^ k * le (take n l))
    (length-take-le m (drop at s) (simp length-drop (omega arith))) (drop-drop m at s)

-- a field of one byte is that byte
pub field-one : (s : List ℕ) (at : ℕ) → at < length s → field s at 1 ≡ get_or s at 0
unfolding field le
field-one s at h = rw (drop-cons s at 0) (omega arith)

-- two fields of m bytes, one after the other, are one of m + m
pub joined : (s : List ℕ) (at m : ℕ) {a b : ℕ} → at + m ≤ length s → a ≡ field s at m → b ≡ field s (at + m) m → a + b * 256 ^ m ≡ field s at (m + m)
joined s at m {a} {b} h p q = omega (arith, field-add s at m m h, ap (λ (x : ℕ). x * 256 ^ m) q)

-- two tests for equality that hold together are one
eqb-iff : (a b c d : ℕ) → (a ≡ b → c ≡ d) → (c ≡ d → a ≡ b) → eqb a b ≡ eqb c d
eqb-iff a b c d p q = go (eqb a b) refl
  where
    go : (t : Bool) → eqb a b ≡ t → eqb a b ≡ eqb c d
    go true e = e ∙ sym (eq-eqb c d (p (eqb-true a b e)))
    go false e = e ∙ sym (ne_eqb c d (λ h. eqb-false a b e (q h)))

-- ---- a list that starts with another

starts-nil : (s : List ℕ) → starts s [] ≡ true
unfolding starts
starts-nil [] = refl
starts-nil (b ∷ s) = refl

-- tests of the first elements, one by one, are the library's `starts_with`
pub starts-with : (s k : List ℕ) → starts_with eqb s k ≡ starts s k
unfolding starts
starts-with s [] = sym (starts-nil s)
starts-with [] (k ∷ ks) = refl
starts-with (b ∷ s) (k ∷ ks) = ap₂ (λ (x y : Bool). x && y) (eqb-iff k b b k sym sym) (starts-with s ks)

-- ---- an identifier: 16 bytes as one number, and compared half by half

-- the law over the width at 8 and 8
pub number_at : (s : List ℕ) (at : ℕ) → at + 8 ≤ length s → number (guid_at s at) ≡ field s at 16
number_at s at h = sym (field-add s at 8 8 h)

-- the halves are equal exactly where the numbers are
pub halves_same : (s : List ℕ) (at : ℕ) (g h : Guid) → at + 8 ≤ length s → h ≡ guid_at s at → h.low < 2 ^ 64 → g.low < 2 ^ 64
    → (eqb h.low g.low && eqb h.high g.high) ≡ eqb (field s at 16) (number g)
halves_same s at g h l e bh bg = go (eqb h.low g.low) refl
  where
    same : number h ≡ field s at 16
    same = ap number e ∙ number_at s at l

    go : (t : Bool) → eqb h.low g.low ≡ t → (t && eqb h.high g.high) ≡ eqb (field s at 16) (number g)
    go true p =
        let j : number h ≡ field s at 16 = same in
        let q : h.low ≡ g.low = eqb-true h.low g.low p in
        eqb-iff h.high g.high (field s at 16) (number g) (λ x. omega arith) (λ x. omega arith)
    go false p =
        let j : number h ≡ field s at 16 = same in
        sym (ne_eqb (field s at 16) (number g) (λ x. eqb-false h.low g.low p (omega arith)))

-- ---- a number as bytes

digit : (i n : ℕ) → byte_at i n ≡ n / 256 ^ i % 256
digit zero n = ap (λ (x : ℕ). x % 256) {x = n} {y = n / 256 ^ 0} (omega arith)
digit (suc i) n = refl

from_byte : (k i n : ℕ) → bytes_low_first i k n ≡ le_bytes k (n / 256 ^ i)
unfolding le_bytes
from_byte zero i n = refl
from_byte (suc k) i n =
    ap₂ (λ (b : ℕ) (bs : List ℕ). b ∷ bs) (digit i n)
    (from_byte k (suc i) n ∙ ap (le_bytes k) (ap (λ (d : ℕ). n / d) (pow-suc 256 i) ∙ sym (div-div-eq-div-mul n (256 ^ i) 256)))

-- what the library's `to_le_bytes` gives, at any width
pub bytes_of : (w : Width) (x : ℕ) → to_le_bytes w x ≡ le_bytes (byte_len w) x
bytes_of w x = from_byte (byte_len w) 0 x ∙ ap (le_bytes (byte_len w)) {x = x / 256 ^ 0} {y = x} (omega arith)
