-- The laws of CRC-32C that the code rests on: a run of bit steps is linear over xor, so the low byte of a state can be looked up apart.
-- Assumes nothing.
use mathlib.Core.Path.{◌≡◌, refl, sym, ap, ap₂, ◌∙◌}
use mathlib.Core.List.{List, [], ◌∷◌, ◌++◌, append_assoc}
use Prim.Native.Nat.{ℕ, zero, suc, ◌+◌, ◌-◌, ◌*◌, ◌/◌, ◌%◌, ◌^◌, ◌<◌, ◌≤◌, min}
use native.Mathlib.Decide.{dec_le}
use native.Mathlib.Nat.{mod-lt, mul-one, zero-add, suc-add, min-eq_left}
use native.Mathlib.Omega.{arith}
use lib.Arith.{bin_ind}
use lib.Bits.{bit_xor, differ, xor_step, xor_comm, xor_shr, xor_mod, xor_shifted, shifted_half, shifted_even}
use lib.Dec.{lit<}
use lib.ListN.{length, take, drop, length-drop, drop_of_length-le}
use lib.Pow.{split}
use lib.Seq.{take_all, take-length, take-append-le, drop-append-le}
use Rattle.crc32c.specs.Crc.{poly, ones, bit, bits, byte, updates, zeroed}

-- ---- the polynomial is Castagnoli's 0x1edc6f41 with its 32 bits in the other order

unfoldable reflected : ℕ → ℕ → ℕ
reflected zero x = 0
reflected (suc n) x = x % 2 * 2 ^ n + reflected n (x / 2)

poly-reflected : poly ≡ reflected 32 0x1edc6f41
unfolding reflected
poly-reflected = refl

-- ---- xor is associative

-- one law for each fact of two digits: what holds of all four pairs holds of any two digits
digits2 : (P : ℕ → ℕ → Type 0) → P 0 0 → P 0 1 → P 1 0 → P 1 1 → (x y : ℕ) → x < 2 → y < 2 → P x y
digits2 P a b c d zero zero hx hy = a
digits2 P a b c d zero (suc zero) hx hy = b
digits2 P a b c d (suc zero) zero hx hy = c
digits2 P a b c d (suc zero) (suc zero) hx hy = d
digits2 P a b c d zero (suc (suc y)) hx hy = absurd (omega arith)
digits2 P a b c d (suc zero) (suc (suc y)) hx hy = absurd (omega arith)
digits2 P a b c d (suc (suc x)) y hx hy = absurd (omega arith)

low2 : (a : ℕ) → a % 2 < 2
low2 a = mod-lt a (lit< tt)

xor_low : (a b : ℕ) → bit_xor a b % 2 ≡ differ (a % 2) (b % 2)
xor_low a b =
    xor_mod a b 1
    ∙ digits2 (λ (x y : ℕ). bit_xor x y ≡ differ x y) refl refl refl refl (a % 2) (b % 2) (low2 a) (low2 b)

differ-twice : (z : ℕ) → z < 2 → z ≡ differ 1 (differ 1 z)
differ-twice zero h = refl
differ-twice (suc zero) h = refl
differ-twice (suc (suc z)) h = absurd (omega arith)

differ-assoc : (x y z : ℕ) → x < 2 → y < 2 → z < 2 → differ (differ x y) z ≡ differ x (differ y z)
differ-assoc x y z hx hy hz =
    digits2 (λ (x y : ℕ). differ (differ x y) z ≡ differ x (differ y z)) refl refl refl (differ-twice z hz) x y hx hy

pub xor_assoc : (a b c : ℕ) → bit_xor (bit_xor a b) c ≡ bit_xor a (bit_xor b c)
xor_assoc a =
    bin_ind (λ (n : ℕ). (b c : ℕ) → bit_xor (bit_xor n b) c ≡ bit_xor n (bit_xor b c)) (λ b c. refl)
    (λ n ih b c.
    xor_step (bit_xor n b) c
    ∙ ap₂ (λ (x y : ℕ). bit_xor x (c / 2) * 2 + differ y (c % 2)) (xor_shr n b 1) (xor_low n b)
    ∙ ap₂ (λ (x y : ℕ). x * 2 + y) (ih (b / 2) (c / 2)) (differ-assoc (n % 2) (b % 2) (c % 2) (low2 n) (low2 b) (low2 c))
    ∙ sym (xor_step n (bit_xor b c) ∙ ap₂ (λ (x y : ℕ). bit_xor (n / 2) x * 2 + differ (n % 2) y) (xor_shr b c 1) (xor_low b c)))
    a

xor-four : (a b c d : ℕ) → bit_xor (bit_xor a b) (bit_xor c d) ≡ bit_xor (bit_xor a c) (bit_xor b d)
xor-four a b c d =
    xor_assoc a b (bit_xor c d)
    ∙ ap (bit_xor a) (sym (xor_assoc b c d) ∙ ap (λ (x : ℕ). bit_xor x d) (xor_comm b c) ∙ xor_assoc c b d)
    ∙ sym (xor_assoc a c (bit_xor b d))

-- ---- a bit step, and a run of them, is linear over xor

bit-xor : (a b : ℕ) → bit (bit_xor a b) ≡ bit_xor (bit a) (bit b)
unfolding bit
bit-xor a b =
    ap₂ (λ (x y : ℕ). bit_xor (x * poly) y) (xor_low a b) (xor_shr a b 1)
    ∙ ap (λ (x : ℕ). bit_xor x (bit_xor (a / 2) (b / 2)))
    (digits2 (λ (x y : ℕ). differ x y * poly ≡ bit_xor (x * poly) (y * poly)) refl refl refl refl (a % 2) (b % 2) (low2 a) (low2 b))
    ∙ xor-four (a % 2 * poly) (b % 2 * poly) (a / 2) (b / 2)

pub bits-xor : (n a b : ℕ) → bits n (bit_xor a b) ≡ bit_xor (bits n a) (bits n b)
unfolding bits
bits-xor zero a b = refl
bits-xor (suc n) a b = ap (bits n) (bit-xor a b) ∙ bits-xor n (bit a) (bit b)

-- ---- bits that are all 0 only shift

bit-even : (a n : ℕ) → bit (a * 2 ^ suc n) ≡ a * 2 ^ n
unfolding bit
bit-even a n = ap₂ (λ (x y : ℕ). bit_xor (x * poly) y) (shifted_even a n) (shifted_half a n)

pub bits-shifted : (n a : ℕ) → bits n (a * 2 ^ n) ≡ a
unfolding bits
bits-shifted zero a = mul-one a
bits-shifted (suc n) a = ap (bits n) (bit-even a n) ∙ bits-shifted n a

pub bits-add : (m n s : ℕ) → bits (m + n) s ≡ bits n (bits m s)
unfolding bits
bits-add zero n s = ap (λ (k : ℕ). bits k s) (zero-add n)
bits-add (suc m) n s = ap (λ (k : ℕ). bits k s) (suc-add m n) ∙ bits-add m n (bit s)

-- ---- the lowest byte apart: the rest is only shifted by it

xor-split : (x : ℕ) → bit_xor (x / 256 * 256) (x % 256) ≡ x
xor-split x = xor_shifted (x / 256) 8 (x % 256) (mod-lt x (lit< tt)) ∙ split x 8

pub lowest : (n x : ℕ) → bits (8 + n) x ≡ bit_xor (bits (8 + n) (x % 256)) (bits n (x / 256))
lowest n x =
    ap (bits (8 + n)) (sym (xor-split x))
    ∙ bits-xor (8 + n) (x / 256 * 256) (x % 256)
    ∙ ap (λ (y : ℕ). bit_xor y (bits (8 + n) (x % 256))) (bits-add 8 n (x / 256 * 256) ∙ ap (bits n) (bits-shifted 8 (x / 256)))
    ∙ xor_comm (bits n (x / 256)) (bits (8 + n) (x % 256))

-- a byte's step by one look-up
pub byte-is : (s b : ℕ) → bit_xor (bits 8 (bit_xor s b % 256)) (bit_xor s b / 256) ≡ byte s b
unfolding byte bits
byte-is s b = sym (lowest 0 (bit_xor s b))

-- ---- lists

pub updates-append : (s : ℕ) (a b : List ℕ) → updates s (a ++ b) ≡ updates (updates s a) b
unfolding updates
updates-append s [] b = refl
updates-append s (x ∷ a) b = updates-append (byte s x) a b

-- ---- the checksum with four bytes taken as zero

-- an offset past the end counts as the end
take-least : (n : ℕ) (s : List ℕ) → take (min n (length s)) s ≡ take n s
take-least n s = go (dec_le n (length s))
  where
    go : Dec (n ≤ length s) → take (min n (length s)) s ≡ take n s
    go (yes h) = ap (λ (k : ℕ). take k s) (min-eq_left h)
    go (no h) =
        let e : min n (length s) ≡ length s = omega arith in
        ap (λ (k : ℕ). take k s) e ∙ take-length s ∙ sym (take_all n s (omega arith))

drop-least : (n : ℕ) (s : List ℕ) → drop (min n (length s)) s ≡ drop n s
drop-least n s = go (dec_le n (length s))
  where
    go : Dec (n ≤ length s) → drop (min n (length s)) s ≡ drop n s
    go (yes h) = ap (λ (k : ℕ). drop k s) (min-eq_left h)
    go (no h) =
        let e : min n (length s) ≡ length s = omega arith in
        ap (λ (k : ℕ). drop k s) e ∙ drop_of_length-le s (omega arith) ∙ sym (drop_of_length-le s (omega arith))

-- what `&s[n..]` reads as is all that is left after n
rest : (n : ℕ) (l : List ℕ) → take (length l - n) (drop n l) ≡ drop n l
rest n l = take_all (length l - n) (drop n l) (simp length-drop (omega arith))

-- the bytes before, the zeros and the bytes after, one after the other
pub updates-zeroed : (s : List ℕ) (at : ℕ) {before after a b r : ℕ}
    → before ≡ min at (length s) → after ≡ min (at + 4) (length s)
    → a ≡ updates ones (take before s) → b ≡ updates a (0 ∷ 0 ∷ 0 ∷ 0 ∷ []) → r ≡ updates b (take (length s - after) (drop after s))
    → r ≡ updates ones (zeroed s at)
unfolding zeroed
updates-zeroed s at {before} {after} {a} {b} p q ea eb er =
    let z : List ℕ = 0 ∷ 0 ∷ 0 ∷ 0 ∷ [] in
    let front : a ≡ updates ones (take at s) = ea ∙ ap (updates ones) (ap (λ (k : ℕ). take k s) p ∙ take-least at s) in
    let back : take (length s - after) (drop after s) ≡ drop (at + 4) s =
    rest after s ∙ ap (λ (k : ℕ). drop k s) q ∙ drop-least (at + 4) s in
    er ∙ ap₂ updates (eb ∙ ap (λ (x : ℕ). updates x z) front) back
    ∙ sym (updates-append ones (take at s) (z ++ drop (at + 4) s) ∙ updates-append (updates ones (take at s)) z (drop (at + 4) s))

-- bytes after the four leave them as they are
pub zeroed-append : (a b : List ℕ) (at : ℕ) → at + 4 ≤ length a → zeroed (a ++ b) at ≡ zeroed a at ++ b
unfolding zeroed
zeroed-append a b at h =
    let z : List ℕ = 0 ∷ 0 ∷ 0 ∷ 0 ∷ [] in
    ap₂ (λ (x y : List ℕ). x ++ (z ++ y)) (take-append-le at a b (omega arith)) (drop-append-le (at + 4) a b h)
    ∙ sym (append_assoc (take at a) (z ++ drop (at + 4) a) b)
