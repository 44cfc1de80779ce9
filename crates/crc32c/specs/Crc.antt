-- CRC-32C (document 01, "Headers"; RFC 3720, section 12.1), bit by bit.
-- The bits are reflected: the lowest bit of a byte is the first, and the lowest bit of the state is the one that leaves.
-- Assumes nothing.
use Rattle.std.specs.Prelude.{List, [], ◌∷◌, ◌++◌, ◌≡◌, ℕ, zero, suc, ◌+◌, ◌/◌, ◌%◌, ◌*◌, ◌<◌, get_or, take, drop}
use Rattle.std.specs.Int.Bits.{bit_xor}

-- Castagnoli's polynomial 0x1edc6f41, reflected: its 32 bits in the other order
abbrev pub poly : ℕ
poly = 0x82f63b78

-- all ones: the state at the start, and what inverts it at the end
abbrev pub ones : ℕ
ones = 0xffffffff

-- one bit: the lowest bit leaves, and where it is 1 the polynomial is added
unfoldable pub bit : ℕ → ℕ
bit s = bit_xor (s % 2 * poly) (s / 2)

-- that many bits
unfoldable pub bits : ℕ → ℕ → ℕ
bits zero s = s
bits (suc n) s = bits n (bit s)

-- the state after one byte
unfoldable pub byte : ℕ → ℕ → ℕ
byte s b = bits 8 (bit_xor s b)

-- the state after each byte of a list
unfoldable pub updates : ℕ → List ℕ → ℕ
updates s [] = s
updates s (b ∷ bs) = updates (byte s b) bs

-- the checksum: all ones at the start, inverted at the end
unfoldable pub crc : List ℕ → ℕ
crc bs = bit_xor (updates ones bs) ones

-- the bytes with the four at an offset taken as zero: what a checksum that stands there is over. Where the list ends before,
-- the zeros stand at its end
unfoldable pub zeroed : List ℕ → ℕ → List ℕ
zeroed s at = take at s ++ ((0 ∷ 0 ∷ 0 ∷ 0 ∷ []) ++ drop (at + 4) s)

-- what the code's table holds: at each number of eight bits, that number eight bits on
abbrev pub Table : List ℕ → Type 0
Table t = (k : ℕ) → k < 256 → get_or t k 0 ≡ bits 8 k
