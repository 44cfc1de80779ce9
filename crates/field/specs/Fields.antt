-- What stands in a run of bytes: a number, an identifier of 16 bytes, and whether the run starts with a key.
-- Document 01: "All integers are little-endian and unsigned."
-- Assumes nothing.
use Rattle.std.specs.Prelude.{Bool, true, false, ◌&&◌, List, [], ◌∷◌, ℕ, zero, suc, ◌+◌, ◌*◌, ◌/◌, ◌%◌, ◌^◌, ◌<◌, nat_eq, take, drop}
use Rattle.field.specs.declared.Guid.{Guid}

-- the number that a list of bytes stands for, lowest byte first
unfoldable pub le : List ℕ → ℕ
le [] = 0
le (b ∷ bs) = b + 256 * le bs

-- and back: a number as n bytes, lowest first
unfoldable pub le_bytes : ℕ → ℕ → List ℕ
le_bytes zero x = []
le_bytes (suc n) x = x % 256 ∷ le_bytes n (x / 256)

-- a list of bytes
abbrev pub Bytes : List ℕ → Type 0
Bytes [] = Unit {0}
Bytes (b ∷ bs) = (b < 256) × Bytes bs

-- the number in the n bytes at an offset, for every width n
unfoldable pub field : List ℕ → ℕ → ℕ → ℕ
field s at n = le (take n (drop at s))

-- the identifier of 16 bytes at an offset, as its two halves
abbrev pub guid_at : List ℕ → ℕ → Guid
guid_at s at = record { low = field s at 8; high = field s (at + 8) 8 }

-- the number of 16 bytes that an identifier is
abbrev pub number : Guid → ℕ
number g = g.low + 2 ^ 64 * g.high

-- a list starts with another
unfoldable pub starts : List ℕ → List ℕ → Bool
starts s [] = true
starts [] (k ∷ ks) = false
starts (b ∷ s) (k ∷ ks) = nat_eq b k && starts s ks
