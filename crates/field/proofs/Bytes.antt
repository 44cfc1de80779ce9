-- Numbers as bytes and back, and lists of bytes.
-- Assumes nothing.
use mathlib.Core.Path.{◌≡◌, refl, sym, ap, ap₂, ◌∙◌}
use mathlib.Core.List.{List, [], ◌∷◌, ◌++◌}
use Prim.Native.Nat.{ℕ, zero, suc, ◌+◌, ◌*◌, ◌/◌, ◌%◌, ◌^◌, ◌<◌}
use native.Mathlib.Nat.{mod-lt, pow-suc, div-add-mod'}
use native.Mathlib.Omega.{arith}
use lib.Dec.{lit<}
use lib.ListN.{length, take, drop, replicate}
use Rattle.field.specs.Fields.{le, le_bytes, Bytes, field}

-- ---- a number as bytes

pub le-bytes-long : (n x : ℕ) → length (le_bytes n x) ≡ n
unfolding le_bytes
le-bytes-long zero x = refl
le-bytes-long (suc n) x = ap suc (le-bytes-long n (x / 256))

pub le-of-bytes : (n x : ℕ) → x < 256 ^ n → le (le_bytes n x) ≡ x
unfolding le_bytes le
le-of-bytes zero x h = omega (arith, h)
le-of-bytes (suc n) x h =
    let e = div-add-mod' x 256 in
    let p : 256 ^ suc n ≡ 256 ^ n * 256 = pow-suc 256 n in
    let r : x % 256 < 256 = mod-lt x (lit< tt) in
    let b : x / 256 < 256 ^ n = omega arith in
    ap (λ (y : ℕ). x % 256 + 256 * y) (le-of-bytes n (x / 256) b) ∙ omega arith

pub le-zeros : (n : ℕ) → le (replicate n 0) ≡ 0
unfolding le
le-zeros zero = refl
le-zeros (suc n) = ap (λ (x : ℕ). 0 + 256 * x) (le-zeros n)

-- ---- lists of bytes

pub bytes-append : (a b : List ℕ) → Bytes a → Bytes b → Bytes (a ++ b)
bytes-append [] b p q = q
bytes-append (x ∷ a) b p q = (p.0, bytes-append a b p.1 q)

pub bytes_take : (n : ℕ) (a : List ℕ) → Bytes a → Bytes (take n a)
bytes_take zero a p = tt
bytes_take (suc n) [] p = tt
bytes_take (suc n) (x ∷ a) p = (p.0, bytes_take n a p.1)

pub bytes_drop : (n : ℕ) (a : List ℕ) → Bytes a → Bytes (drop n a)
bytes_drop zero a p = p
bytes_drop (suc n) [] p = tt
bytes_drop (suc n) (x ∷ a) p = bytes_drop n a p.1

pub bytes-zeros : (n : ℕ) → Bytes (replicate n 0)
bytes-zeros zero = tt
bytes-zeros (suc n) = (omega arith, bytes-zeros n)

pub bytes-number : (n x : ℕ) → Bytes (le_bytes n x)
unfolding le_bytes
bytes-number zero x = tt
bytes-number (suc n) x = (mod-lt x (lit< tt), bytes-number n (x / 256))

-- ---- bytes as a number, and back

le-there : (l : List ℕ) → Bytes l → le_bytes (length l) (le l) ≡ l
unfolding le_bytes le
le-there [] h = refl
le-there (x ∷ l) h =
    let small = h.0 in
    ap₂ (λ (a : ℕ) (m : List ℕ). a ∷ m) {x = (x + 256 * le l) % 256} (omega (arith, small))
    (ap (le_bytes (length l)) {x = (x + 256 * le l) / 256} {y = le l} (omega (arith, small)) ∙ le-there l h.1)

pub bytes-field : (d : List ℕ) (at n : ℕ) → Bytes d → length (take n (drop at d)) ≡ n → le_bytes n (field d at n) ≡ take n (drop at d)
unfolding field
bytes-field d at n h e =
    ap (λ (k : ℕ). le_bytes k (le (take n (drop at d)))) (sym e) ∙ le-there (take n (drop at d)) (bytes_take n (drop at d) (bytes_drop at d h))
