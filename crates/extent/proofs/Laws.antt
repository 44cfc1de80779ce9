-- Whether two ranges share a byte; a range in two parts.
-- Assumes nothing.
use mathlib.Core.Path.{◌≡◌, refl, sym}
use mathlib.Core.Bool.{Bool, true, false, ◌&&◌, ◌||◌, and-eq-true_iff}
use mathlib.Core.Logic.{◌⊎◌, inl, inr, ⊎_elim}
use Prim.Native.Nat.{ℕ, ◌+◌, ◌<◌}
use native.Mathlib.Omega.{arith}
use native.Mathlib.Decide.{dec_lt}
use lib.Dec.{ltb}
use borrow.Author.Tests.{ltb-true, lt-ltb}
use Rattle.extent.specs.Extent.{shares}

-- two tests that hold together are one
pub iff : (x y : Bool) → (x ≡ true → y ≡ true) → (y ≡ true → x ≡ true) → x ≡ y
iff true y p q = sym (p refl)
iff false true p q = q refl
iff false false p q = refl

pub either : (x y : Bool) → (x || y) ≡ true → (x ≡ true) ⊎ (y ≡ true)
either true y h = inl refl
either false y h = inr h

left : (x y : Bool) → x ≡ true → (x || y) ≡ true
left x y h = rw h

right : (x y : Bool) → y ≡ true → (x || y) ≡ true
right true y h = refl
right false y h = h

module _ (a m b n : ℕ) where
  pub sharing : shares a m b n ≡ true → (0 < m) × (0 < n) × (a < b + n) × (b < a + m)
  sharing h =
      let (p, q) = (and-eq-true_iff (ltb 0 m && ltb 0 n) (ltb a (b + n) && ltb b (a + m))).0 h in
      let (x, y) = (and-eq-true_iff (ltb 0 m) (ltb 0 n)).0 p in
      let (z, w) = (and-eq-true_iff (ltb a (b + n)) (ltb b (a + m))).0 q in
      (ltb-true 0 m x, ltb-true 0 n y, ltb-true a (b + n) z, ltb-true b (a + m) w)

  pub share : 0 < m → 0 < n → a < b + n → b < a + m → shares a m b n ≡ true
  share x y z w = rw (lt-ltb 0 m x, lt-ltb 0 n y, lt-ltb a (b + n) z, lt-ltb b (a + m) w)

-- it does not matter which is named first
pub shares-symmetric : (a m b n : ℕ) → shares a m b n ≡ shares b n a m
shares-symmetric a m b n = iff (shares a m b n) (shares b n a m) (turned a m b n) (turned b n a m)
  where
    turned : (a m b n : ℕ) → shares a m b n ≡ true → shares b n a m ≡ true
    turned a m b n h = let s = sharing a m b n h in share b n a m s.1 s.0 (omega arith) s.2

-- a range in two parts: one of them shares a byte exactly when the whole does
pub shares-split : (a m k b n : ℕ) → (shares a m b n || shares (a + m) k b n) ≡ shares a (m + k) b n
shares-split a m k b n = iff (shares a m b n || shares (a + m) k b n) (shares a (m + k) b n) there back
  where
    there : (shares a m b n || shares (a + m) k b n) ≡ true → shares a (m + k) b n ≡ true
    there e =
        ⊎_elim (λ x. let s = sharing a m b n x in share a (m + k) b n (omega arith) s.1 s.2 (omega arith))
        (λ x. let s = sharing (a + m) k b n x in share a (m + k) b n (omega arith) s.1 (omega arith) (omega arith))
        (either (shares a m b n) (shares (a + m) k b n) e)

    back : shares a (m + k) b n ≡ true → (shares a m b n || shares (a + m) k b n) ≡ true
    back e = go (sharing a (m + k) b n e) (dec_lt 0 m) (dec_lt b (a + m))
      where
        go : (0 < m + k) × (0 < n) × (a < b + n) × (b < a + (m + k)) → Dec (0 < m) → Dec (b < a + m) → (shares a m b n || shares (a + m) k b n) ≡ true
        go s (yes p) (yes q) = left (shares a m b n) (shares (a + m) k b n) (share a m b n p s.1 s.2 q)
        go s (no p) q = right (shares a m b n) (shares (a + m) k b n) (share (a + m) k b n (omega arith) s.1 (omega arith) (omega arith))
        go s (yes p) (no q) = second s p q (dec_lt (a + m) (b + n))
          where
            second : (0 < m + k) × (0 < n) × (a < b + n) × (b < a + (m + k)) → 0 < m → ¬ (b < a + m) → Dec (a + m < b + n) → (shares a m b n || shares (a + m) k b n) ≡ true
            second s p q (yes r) = right (shares a m b n) (shares (a + m) k b n) (share (a + m) k b n (omega arith) s.1 r (omega arith))
            second s p q (no r) = absurd (omega arith)
