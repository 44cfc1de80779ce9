-- Examples of document 01, "Numbers to try": "Proved together as a single statement over a list: L1 to L6, R1 to R6."
-- Assumes nothing.
use Rattle.std.specs.Prelude.{List, map, ◌≡◌, ℕ}

-- as 01 numbers them
pub data Name : Type 0 where
  L : ℕ → Name
  R : ℕ → Name

-- what the definitions give, in figures, and what 01 says, its numbers literally
pub record Example : Type 0 where
  pub name : Name
  pub given : List ℕ
  pub said : List ℕ

-- the two are the same in every example
abbrev pub Agree : List Example → Type 0
Agree examples = map (λ (e : Example). e.given) examples ≡ map (λ (e : Example). e.said) examples
