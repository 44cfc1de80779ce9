-- The meaning of a BAT entry (document 01, "From sector to place", and its table of states; MS-VHDX 2.5.1.1 and 2.5.1.2).
-- Assumes nothing.
use Rattle.std.specs.Prelude.{Bool, true, false, cond, ◌&&◌, ℕ, ◌*◌, ◌/◌, ◌%◌, ◌^◌, nat_eq, nat_le}
use Rattle.extent.specs.Extent.{mib, inside}
use Rattle.vhdx_map.specs.declared.entry.Meaning.{Meaning}
use Rattle.vhdx_map.specs.declared.entry.Meaning.TheVariants.{ReadsZero, ReadsParent, FullyPresent, PartiallyPresent, Invalid}

-- "An entry's low three bits are its state"
abbrev pub state : ℕ → ℕ
state e = e % 8

-- "its value divided by 2^20, rounded down, is a place in MiB": in bytes
abbrev pub offset_of : ℕ → ℕ
offset_of e = e / 2 ^ 20 * mib

-- a row of the table of states: "No parent", "With parent"
abbrev pub row : Bool → Meaning → Meaning → Meaning
row false alone child = alone
row true alone child = child

-- the table of states, with the states of 18 ("state 4 or 5, or state 7 without a parent"): 4 and 5 are what is left
unfoldable pub meaning : Bool → ℕ → Meaning
meaning parent s =
    cond (nat_eq s 0) (row parent ReadsZero ReadsParent)
    (cond (nat_le 1 s && nat_le s 3) (row parent ReadsZero ReadsZero)
    (cond (nat_eq s 6) (row parent FullyPresent FullyPresent)
    (cond (nat_eq s 7) (row parent Invalid PartiallyPresent)
    Invalid)))

-- what entry e stores, size bytes, does not start below 1 MiB nor end past an image of n bytes
unfoldable pub stored_rule : ℕ → ℕ → ℕ → Bool
stored_rule n size e = nat_le mib (offset_of e) && inside (offset_of e) size n

-- 20: "the bitmap entry is not state 6, or its 1 MiB starts below 1 MiB or ends past the image"
unfoldable pub bitmap_rule : ℕ → ℕ → Bool
bitmap_rule n b = nat_eq (state b) 6 && stored_rule n mib b
