-- What `better` and `best_of` answer: one of those that they were given, and one that is at least as good as each of them.
-- Assumes nothing.
use Prim.Native.Nat.{ℕ, zero, suc, ◌≤◌, ◌<◌}
use mathlib.Core.Path.{◌≡◌, refl, subst}
use mathlib.Core.Bool.{Bool, true, false, cond, ◌&&◌, ◌||◌, and-eq-true_iff}
use Rattle.std.specs.Prelude.{Option, None, Some}
use mathlib.Core.Logic.{◌⊎◌, inl, inr}
use native.Mathlib.Omega.{arith}
use native.Mathlib.Decide.{dec_lt}
use lib.Dec.{ltb, eqb}
use borrow.Author.Tests.{ltb-true, ltb-false, eqb-true, eqb-false}
use Rattle.vhdx_sequence.specs.Sequence.{beats, better, best_of}
use Rattle.vhdx_sequence.specs.declared.Sequence.{Sequence}

-- p is at least as good as q
abbrev pub AsGood : Sequence → Sequence → Type 0
AsGood p q = (q.number < p.number) ⊎ ((p.number ≡ q.number) × (p.start ≤ q.start))

abbrev pub Covers : Option Sequence → Sequence → Type 0
Covers None q = ⊥
Covers (Some p) q = AsGood p q

pub as_good-refl : (p : Sequence) → AsGood p p
as_good-refl p = inr (refl, omega arith)

pub as_good-trans : (p q r : Sequence) → AsGood p q → AsGood q r → AsGood p r
as_good-trans p q r (inl a) (inl b) = inl (omega arith)
as_good-trans p q r (inl a) (inr b) = inl (omega arith)
as_good-trans p q r (inr a) (inl b) = inl (omega arith)
as_good-trans p q r (inr a) (inr b) = inr (omega arith)

beats-true : (q p : Sequence) → beats q p ≡ true → AsGood q p
beats-true q p h = go (ltb p.number q.number) refl
  where
    go : (t : Bool) → ltb p.number q.number ≡ t → AsGood q p
    go true e = inl (ltb-true _ _ e)
    go false e =
        let k = (and-eq-true_iff (eqb p.number q.number) (ltb q.start p.start)).0 (rw e at h) in
        let a : p.number ≡ q.number = eqb-true _ _ k.0 in
        let b : q.start < p.start = ltb-true _ _ k.1 in
        inr (omega arith)

beats-false : (q p : Sequence) → beats q p ≡ false → AsGood p q
beats-false q p h = go (ltb p.number q.number) (eqb p.number q.number) (ltb q.start p.start) refl refl refl h
  where
    go : (t u v : Bool) → ltb p.number q.number ≡ t → eqb p.number q.number ≡ u → ltb q.start p.start ≡ v → (t || (u && v)) ≡ false → AsGood p q
    go true u v a b c k = let z : ◌≡◌ {A = ℕ} 0 1 = cc in absurd (omega arith)
    go false true true a b c k = let z : ◌≡◌ {A = ℕ} 0 1 = cc in absurd (omega arith)
    go false true false a b c k =
        let y : p.number ≡ q.number = eqb-true _ _ b in
        let x : p.start ≤ q.start = ltb-false _ _ c in
        inr (omega arith)
    go false false v a b c k =
        let y : p.number ≡ q.number → ⊥ = eqb-false _ _ b in
        let x : q.number ≤ p.number = ltb-false _ _ a in
        inl (omega arith)

-- what the better of two covers, and which it is
pub better-left : (o w : Option Sequence) (q : Sequence) → Covers o q → Covers (better o w) q
better-left None w q c = absurd c
better-left (Some p) None q c = c
better-left (Some p) (Some r) q c = go (beats r p) refl
  where
    go : (t : Bool) → beats r p ≡ t → AsGood (cond t r p) q
    go true e = as_good-trans r p q (beats-true r p e) c
    go false e = c

pub better-right : (o w : Option Sequence) (q : Sequence) → Covers w q → Covers (better o w) q
better-right None w q c = c
better-right (Some p) None q c = absurd c
better-right (Some p) (Some r) q c = go (beats r p) refl
  where
    go : (t : Bool) → beats r p ≡ t → AsGood (cond t r p) q
    go true e = c
    go false e = as_good-trans p r q (beats-false r p e) c

-- what holds of either holds of the better
abbrev pub All : (Sequence → Type 0) → Option Sequence → Type 0
All P o = (q : Sequence) → o ≡ Some q → P q

pub all-better : (P : Sequence → Type 0) (o w : Option Sequence) → All P o → All P w → All P (better o w)
all-better P None w a b = b
all-better P (Some p) None a b = a
all-better P (Some p) (Some r) a b = go (beats r p)
  where
    go : (t : Bool) (q : Sequence) → ◌≡◌ {A = Option Sequence} (Some (cond t r p)) (Some q) → P q
    go true q e = b q e
    go false q e = a q e

pub all-best : (P : Sequence → Type 0) (m : ℕ) (f : ℕ → Option Sequence) → ((i : ℕ) → i < m → All P (f i)) → All P (best_of m f)
unfolding best_of
all-best P zero f h q e = let z : ◌≡◌ {A = ℕ} 0 1 = cc in absurd (omega arith)
all-best P (suc m) f h q e =
    all-better P (best_of m f) (f m) (all-best P m f (λ i k. h i (omega arith))) (h m (omega arith)) q e

pub best-covers : (m : ℕ) (f : ℕ → Option Sequence) (i : ℕ) (q : Sequence) → i < m → Covers (f i) q → Covers (best_of m f) q
unfolding best_of
best-covers zero f i q h c = absurd (omega arith)
best-covers (suc m) f i q h c = go (dec_lt i m) (λ k. best-covers m f i q k c)
  where
    go : Dec (i < m) → (i < m → Covers (best_of m f) q) → Covers (better (best_of m f) (f m)) q
    go (yes k) r = better-left (best_of m f) (f m) q (r k)
    go (no k) r =
        let e : i ≡ m = omega arith in
        better-right (best_of m f) (f m) q (subst (λ (x : ℕ). Covers (f x) q) e c)
