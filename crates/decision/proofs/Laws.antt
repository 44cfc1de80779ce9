-- Laws of loops over the numbers below a bound, and what an answer says of the tests before it.
-- Assumes nothing.
use mathlib.Core.Path.{◌≡◌, refl, ap, ◌∙◌}
use mathlib.Core.Bool.{Bool, true, false, ◌&&◌, and-eq-true_iff, and-false}
use Rattle.std.specs.Prelude.{Option, None, Some}
use Rattle.std.specs.Option.{option_or}
use Prim.Native.Nat.{ℕ, zero, suc, ◌+◌, ◌≤◌, ◌<◌}
use native.Mathlib.Decide.{dec_lt}
use native.Mathlib.Numerals.{add-one}
use native.Mathlib.Omega.{arith}
use Rattle.decision.specs.Bounded.{every, only_if, first}
use Rattle.decision.specs.Refusal.{Outcome, refused, answered, check, and_then}

-- ---- what holds of 0, .., m - 1

pub every_more : (f : ℕ → Bool) (i : ℕ) → every i f ≡ true → f i ≡ true → every (i + 1) f ≡ true
unfolding every
every_more f i p q = rw (add-one i, p, q)

pub every-end : (f : ℕ → Bool) (i m : ℕ) → i ≤ m → m ≤ i → every i f ≡ true → every m f ≡ true
every-end f i m a b h = ap (λ (x : ℕ). every x f) {x = m} {y = i} (omega arith) ∙ h

pub every-not : (f : ℕ → Bool) (i m : ℕ) → i < m → f i ≡ false → every m f ≡ false
unfolding every
every-not f i zero b h = absurd (omega arith)
every-not f i (suc m) b h = go (dec_lt i m) (λ c. every-not f i m c h)
  where
    go : Dec (i < m) → (i < m → every m f ≡ false) → (every m f && f m) ≡ false
    go (yes c) r = ap (λ (x : Bool). x && f m) (r c)
    go (no c) r = ap (λ (x : Bool). every m f && x) (ap f {x = m} {y = i} (omega arith) ∙ h) ∙ and-false (every m f)

pub every-at : (f : ℕ → Bool) (m i : ℕ) → every m f ≡ true → i < m → f i ≡ true
unfolding every
every-at f zero i h b = absurd (omega arith)
every-at f (suc m) i h b = go (dec_lt i m) (every-at f m i) ((and-eq-true_iff (every m f) (f m)).0 h)
  where
    go : Dec (i < m) → (every m f ≡ true → i < m → f i ≡ true) → (every m f ≡ true) × (f m ≡ true) → f i ≡ true
    go (yes c) rec p = rec p.0 c
    go (no c) rec p = ap f {x = i} {y = m} (omega arith) ∙ p.1

-- ---- a, if a test holds

pub only_if-none : {A : Type 0} (b : Bool) (a : A) → None ≡ only_if b a → b ≡ false
only_if-none true a h = let z : ◌≡◌ {A = ℕ} 0 1 = cc in absurd (omega arith)
only_if-none false a h = refl

pub only_if-some : {A : Type 0} (b : Bool) (a : A) {x : A} → Some x ≡ only_if b a → (b ≡ true) × (x ≡ a)
only_if-some true a h = (refl, cc)
only_if-some false a h = let z : ◌≡◌ {A = ℕ} 0 1 = cc in absurd (omega arith)

-- ---- the first of which f holds

pub first_more : (f : ℕ → Bool) (i : ℕ) → first i f ≡ None → f i ≡ false → first (i + 1) f ≡ None
unfolding first
first_more f i p q = rw (add-one i, p, q)

pub none_first : (f : ℕ → Bool) (m : ℕ) → ((k : ℕ) → k < m → f k ≡ false) → first m f ≡ None
unfolding first
none_first f zero h = refl
none_first f (suc m) h = rw (none_first f m (λ k l. h k (omega arith)), h m (omega arith))

pub first-end : (f : ℕ → Bool) (i m : ℕ) → i ≤ m → m ≤ i → first i f ≡ None → first m f ≡ None
first-end f i m a b h = ap (λ (x : ℕ). first x f) {x = m} {y = i} (omega arith) ∙ h

pub first-hit : (f : ℕ → Bool) (i m : ℕ) → i < m → first i f ≡ None → f i ≡ true → first m f ≡ Some i
unfolding first
first-hit f i zero b p q = absurd (omega arith)
first-hit f i (suc m) b p q = go (dec_lt i m) (λ c. first-hit f i m c p q)
  where
    go : Dec (i < m) → (i < m → first m f ≡ Some i) → option_or (first m f) (only_if (f m) m) ≡ Some i
    go (yes c) r = rw (r c)
    go (no c) r = let e : m ≡ i = omega arith in rw (e, p, q)

-- it is below the bound, and f holds of it
pub first_holds : (f : ℕ → Bool) (m : ℕ) {i : ℕ} → first m f ≡ Some i → (i < m) × (f i ≡ true)
unfolding first
first_holds f zero h = let z : ◌≡◌ {A = ℕ} 0 1 = cc in absurd (omega arith)
first_holds f (suc m) {i} h = go (first m f) refl (f m) refl (λ (j : ℕ) e. first_holds f m {i = j} e) h
  where
    go : (o : Option ℕ) → first m f ≡ o → (t : Bool) → f m ≡ t → ((j : ℕ) → first m f ≡ Some j → (j < m) × (f j ≡ true)) → option_or o (only_if t m) ≡ Some i → (i < suc m) × (f i ≡ true)
    go (Some j) e t u rec h =
        let same : j ≡ i = cc h in
        let r = rec j e in
        (omega (arith, r.0), ap f {x = i} {y = j} (omega arith) ∙ r.1)
    go None e true u rec h =
        let same : m ≡ i = cc h in
        (omega arith, ap f {x = i} {y = m} (omega arith) ∙ u)
    go None e false u rec h = let z : ◌≡◌ {A = ℕ} 0 1 = cc in absurd (omega arith)

-- ---- refusals

pub check-answered : {A : Type 0} (t : Bool) (c : ℕ) (o : Outcome A) {a : A} → check t (refused c) o ≡ answered a → (t ≡ true) × (o ≡ answered a)
check-answered true c o e = (refl, e)
check-answered false c o e = let z : ◌≡◌ {A = ℕ} 0 1 = cc in absurd (omega arith)

pub and_then-answered : {A B : Type 0} (o : Outcome A) (f : A → Outcome B) {b : B} → and_then o f ≡ answered b → (a : A) × (o ≡ answered a) × (f a ≡ answered b)
and_then-answered (refused c) f e = let z : ◌≡◌ {A = ℕ} 0 1 = cc in absurd (omega arith)
and_then-answered (answered a) f e = (a, refl, e)
