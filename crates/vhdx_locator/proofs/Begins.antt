-- A list that starts with a key has the key's first bytes, and so the number that they are.
-- Assumes nothing.
use mathlib.Core.Path.{◌≡◌, refl, sym, ap, ap₂}
use mathlib.Core.Bool.{true, and-eq-true_iff, true≢false}
use mathlib.Core.List.{List, [], ◌∷◌}
use Prim.Native.Nat.{ℕ, zero, suc, ◌≤◌}
use native.Mathlib.Omega.{arith}
use lib.Dec.{eqb}
use lib.ListN.{length, take, drop}
use borrow.Author.Tests.{eqb-true}
use Rattle.field.specs.Fields.{le, field, starts}

pub first_bytes : (w : ℕ) (s k : List ℕ) → starts s k ≡ true → w ≤ length k → take w s ≡ take w k
unfolding starts
first_bytes zero s k e h = refl
first_bytes (suc w) s [] e h = absurd (omega arith)
first_bytes (suc w) [] (x ∷ k) e h = absurd (true≢false (sym e))
first_bytes (suc w) (b ∷ s) (x ∷ k) e h =
    let both = (and-eq-true_iff (eqb b x) (starts s k)).0 e in
    ap₂ (λ (y : ℕ) (ys : List ℕ). y ∷ ys) (eqb-true b x both.0) (first_bytes w s k both.1 (omega arith))

pub same_number : (w at : ℕ) (s k : List ℕ) → starts (drop at s) k ≡ true → w ≤ length k → field s at w ≡ field k 0 w
unfolding field
same_number w at s k e h = ap le (first_bytes w (drop at s) k e h)
