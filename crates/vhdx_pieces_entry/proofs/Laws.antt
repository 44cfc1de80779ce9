-- Laws that the machines in pieces share.
-- Assumes nothing.
use mathlib.Core.Path.{◌≡◌, refl, sym, subst}
use mathlib.Core.Bool.{Bool, true, false, cond}
use Prim.Native.Nat.{ℕ, suc, ◌+◌, ◌*◌, ◌≤◌, ◌<◌}
use native.Mathlib.Nat.{suc-mul, mul-le-mul_right}
use native.Mathlib.Omega.{arith}

-- what a test chooses has a property
pub chosen : {A : Type 0} (P : A → Type 0) (b : Bool) (x y : A) → (b ≡ true → P x) → (b ≡ false → P y) → P (cond b x y)
chosen P true x y f g = f refl
chosen P false x y f g = g refl

-- an equation, with what holds of its right side said of its left
pub also : {A : Type 0} (P : A → Type 0) {x y : A} → x ≡ y → P y → (x ≡ y) × P x
also P e h = (e, subst P (sym e) h)

-- a number of two digits, the lower from 1 to k, falls where the higher one does
pub falls : {a₂ a b₂ b : ℕ} (k : ℕ) → a₂ < a → b₂ ≤ k → 0 < b → a₂ * k + b₂ < a * k + b
falls {a₂} {a} k h l p = omega (arith, suc-mul a₂ k, mul-le-mul_right {m = suc a₂} {n = a} k (omega arith))
