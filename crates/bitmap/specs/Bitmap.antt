-- One bit of a bitmap, which is a run of bytes (document 01, "From sector to place": "lowest bit of each byte first").
-- Assumes nothing.
use Rattle.std.specs.Prelude.{Bool, List, ℕ, ◌/◌, ◌%◌, ◌^◌, nat_eq}
use Rattle.field.specs.Fields.{field}

-- bit k of a byte, counted from the lowest
abbrev pub bit_of : ℕ → ℕ → Bool
bit_of byte k = nat_eq (byte / 2 ^ k % 2) 1

-- the byte that holds bit number i of the run
abbrev pub byte_of : ℕ → ℕ
byte_of i = i / 8

-- an order says which bit of its byte is number i of the run. "lowest bit of each byte first"
abbrev pub lowest_first : ℕ → ℕ
lowest_first i = i % 8

-- bit number i of the run, in any order
unfoldable pub bit : (ℕ → ℕ) → List ℕ → ℕ → Bool
bit order bytes i = bit_of (field bytes (byte_of i) 1) (order i)
