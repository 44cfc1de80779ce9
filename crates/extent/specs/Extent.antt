-- Ranges of bytes in a file, given by offset and length (document 01, wherever it says "inside", "sharing a byte" or
-- "multiple of 1 MiB").
-- Sums are of whole numbers and never wrap.
-- Assumes nothing.
use Rattle.std.specs.Prelude.{Bool, not, ◌&&◌, List, ℕ, ◌+◌, ◌%◌, nat_eq, nat_le, nat_lt, take, drop}
use Rattle.extent.specs.declared.Extent.{Extent}

-- "MiB is 1,048,576 bytes."
abbrev pub mib : ℕ
mib = 1048576

-- a multiple of 1 MiB
abbrev pub whole_mib : ℕ → Bool
whole_mib n = nat_eq (n % mib) 0

-- n bytes at an offset lie inside the first size bytes of a file, also where n is 0
abbrev pub inside : ℕ → ℕ → ℕ → Bool
inside offset n size = nat_le (offset + n) size

-- m bytes at offset a and n bytes at offset b share at least one byte; an empty range shares none, wherever it lies
abbrev pub shares : ℕ → ℕ → ℕ → ℕ → Bool
shares a m b n = (nat_lt 0 m && nat_lt 0 n) && (nat_lt a (b + n) && nat_lt b (a + m))

-- "inside": an extent lies in the first size bytes of a file, also where it is empty
abbrev pub in_bounds : Extent → ℕ → Bool
in_bounds e size = inside e.offset e.length size

-- "sharing a byte": two extents have at least one byte in common; an empty one has none, wherever it lies
abbrev pub overlap : Extent → Extent → Bool
overlap a b = shares a.offset a.length b.offset b.length

abbrev pub apart : Extent → Extent → Bool
apart a b = not (overlap a b)

-- an extent that is counted from a base, as an item is from its region's start, counted from where the base is
abbrev pub shifted : ℕ → Extent → Extent
shifted base e = record { offset = base + e.offset; length = e.length }

-- "place is zero": of what is not there
abbrev pub nowhere : Extent
nowhere = record { offset = 0; length = 0 }

-- the bytes of a list that an extent names
unfoldable pub part : List ℕ → Extent → List ℕ
part bytes e = take e.length (drop e.offset bytes)

-- the memory n bytes behind a pointer, which is a block and an offset in it
abbrev pub onward : ℕ × ℕ → ℕ → ℕ × ℕ
onward p n = (p.0, p.1 + n)
