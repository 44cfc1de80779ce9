-- "The six known system identifiers are held as one table with their lengths" (document 01, "Regions and items"; the identifiers
-- as MS-VHDX 2.6.2 writes them).
-- Assumes nothing.
use Rattle.std.specs.Prelude.{List, [], ◌∷◌, ℕ, Option, None, Some}
use Rattle.guid.specs.Stored.{stored}

-- "file parameters 8, disk size 8, logical and physical sector size 4 each, disk identifier 16, parent locator any": the rows
abbrev pub file_parameters : ℕ
file_parameters = 0

abbrev pub disk_size_of : ℕ
disk_size_of = 1

abbrev pub logical_sector_size_of : ℕ
logical_sector_size_of = 2

abbrev pub physical_sector_size_of : ℕ
physical_sector_size_of = 3

abbrev pub disk_identifier : ℕ
disk_identifier = 4

abbrev pub parent_locator : ℕ
parent_locator = 5

unfoldable pub known_items : List (List ℕ)
known_items =
    stored 0xCAA16737 0xFA36 0x4D43 0xB3B6 0x33F0AA44E76B
    ∷ stored 0x2FA54224 0xCD1B 0x4876 0xB211 0x5DBED83BF4B8
    ∷ stored 0x8141BF1D 0xA96F 0x4709 0xBA47 0xF233A8FAAB5F
    ∷ stored 0xCDA348C7 0x445D 0x4471 0x9CC9 0xE9885251C556
    ∷ stored 0xBECA12AB 0xB2E6 0x4523 0x93EF 0xC309E000C746
    ∷ stored 0xA8D35F2D 0xB30B 0x454D 0xABF7 0xD3D84834AB0C
    ∷ []

-- None stands for "any"
unfoldable pub known_lengths : List (Option ℕ)
known_lengths = Some 8 ∷ Some 8 ∷ Some 4 ∷ Some 4 ∷ Some 16 ∷ None ∷ []
