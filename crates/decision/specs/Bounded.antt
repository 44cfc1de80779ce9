-- Tests of the numbers below a bound, as of the entries of a table.
-- Assumes nothing.
use Rattle.std.specs.Prelude.{Bool, true, false, ◌&&◌, ℕ, zero, suc, Option, None, Some}
use Rattle.std.specs.Option.{option_or}

-- f holds of 0, .., m - 1
unfoldable pub every : ℕ → (ℕ → Bool) → Bool
every zero f = true
every (suc m) f = every m f && f m

-- a, if the test holds
abbrev pub only_if : {A : Type 0} → Bool → A → Option A
only_if true a = Some a
only_if false a = None

-- the first of 0, .., m - 1 of which f holds
unfoldable pub first : ℕ → (ℕ → Bool) → Option ℕ
first zero f = None
first (suc m) f = option_or (first m f) (only_if (f m) m)
