-- Whole numbers in 64 bits.
-- Assumes nothing.
use Rattle.std.specs.Prelude.{ℕ, min}

-- a number above the greatest of 64 bits stands as that one
abbrev pub capped : ℕ → ℕ
capped n = min n 18446744073709551615
