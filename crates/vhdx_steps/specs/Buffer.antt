-- A buffer, as the list of its bytes, with some of them written.
-- Assumes nothing.
use Rattle.std.specs.Prelude.{List, ◌++◌, ℕ, ◌+◌, ◌-◌, length, take, drop, replicate}

-- the buffer with the bytes d from an offset on
unfoldable pub put : List ℕ → ℕ → List ℕ → List ℕ
put buffer offset d = take offset buffer ++ d ++ drop (offset + length d) buffer

-- the buffer with zeros from offset a up to, not including, offset e
abbrev pub zeroed : List ℕ → ℕ → ℕ → List ℕ
zeroed buffer a e = put buffer a (replicate (e - a) 0)
