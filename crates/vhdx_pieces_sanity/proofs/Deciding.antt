-- Tests and what they decide.
-- Assumes nothing.
use mathlib.Core.Path.{◌≡◌, refl}
use mathlib.Core.Bool.{Bool, true, false, ◌&&◌, ◌||◌, and-eq-true_iff}
use Prim.Native.Nat.{ℕ, ◌≤◌, ◌<◌}
use native.Mathlib.Omega.{arith}
use lib.Dec.{eqb, leb, ltb}
use borrow.Author.Tests.{ltb-true, leb-true, eqb-true, eqb-false, lt-ltb, le-leb, eq-eqb}

pub record Decides (b : Bool) (P : Type 0) : Type 0 where
  pub sound : b ≡ true → P
  pub complete : P → b ≡ true

pub less : (x y : ℕ) → Decides (ltb x y) (x < y)
less x y = record { sound = ltb-true x y; complete = lt-ltb x y }

pub most : (x y : ℕ) → Decides (leb x y) (x ≤ y)
most x y = record { sound = leb-true x y; complete = le-leb x y }

pub equal : (x y : ℕ) → Decides (eqb x y) (x ≡ y)
equal x y = record { sound = eqb-true x y; complete = eq-eqb x y }

pub itself : (b : Bool) → Decides b (b ≡ true)
itself b = record { sound = λ h. h; complete = λ h. h }

pub always : Decides true (Unit {0})
always = record { sound = λ h. tt; complete = λ h. refl }

pub never : Decides false ⊥
never = record { sound = λ h. let z : ◌≡◌ {A = ℕ} 0 1 = cc in absurd (omega arith); complete = λ h. absurd h }

-- where the first holds the second decides
pub chain : {a b : Bool} {P Q : Type 0} → Decides a P → (P → Decides b Q) → Decides (a && b) (P × Q)
chain {a} {b} d e =
    record {
      sound = λ h. let k = (and-eq-true_iff a b).0 h in let p = d.sound k.0 in (p, (e p).sound k.1);
      complete = λ h. (and-eq-true_iff a b).1 (d.complete h.0, (e h.0).complete h.1);
    }

pub both : {a b : Bool} {P Q : Type 0} → Decides a P → Decides b Q → Decides (a && b) (P × Q)
both d e = chain d (λ _. e)

-- of some, if there are any
pub some : (n : ℕ) {b : Bool} {P : Type 0} → Decides b P → Decides (eqb n 0 || b) (0 < n → P)
some n {b} {P} d = record { sound = from (eqb n 0) refl; complete = to (eqb n 0) refl }
  where
    from : (t : Bool) → eqb n 0 ≡ t → (t || b) ≡ true → 0 < n → P
    from true e h k = absurd (omega (arith, eqb-true n 0 e))
    from false e h k = d.sound h

    to : (t : Bool) → eqb n 0 ≡ t → (0 < n → P) → (t || b) ≡ true
    to true e f = refl
    to false e f = d.complete (f (omega (arith, eqb-false n 0 e)))

-- the same in other words
pub means : {b : Bool} {P Q : Type 0} → Decides b P → (P → Q) → (Q → P) → Decides b Q
means d f g = record { sound = λ h. f (d.sound h); complete = λ q. d.complete (g q) }
