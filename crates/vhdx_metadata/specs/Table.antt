-- The metadata table: the rule of the table and of its entries, refusal 12 (document 01, "Regions and items", second paragraph;
-- MS-VHDX 2.6.1). A region r is the list of the metadata region's bytes.
-- Assumes nothing.
use Rattle.std.specs.Prelude.{Bool, cond, not, ◌&&◌, ◌||◌, List, [], ◌∷◌, ℕ, ◌+◌, ◌*◌, ◌/◌, ◌%◌, nat_eq, nat_le, nat_lt, length, take, drop, is_some}
use Rattle.decision.specs.Bounded.{every}
use Rattle.field.specs.Fields.{field, starts}
use Rattle.extent.specs.declared.Extent.{Extent}
use Rattle.extent.specs.Extent.{mib, inside}
use Rattle.guid.specs.Stored.{row_of}
use Rattle.vhdx_metadata.specs.Known.{known_items}

-- "metadata"
abbrev pub metadata : List ℕ
metadata = 0x6d ∷ 0x65 ∷ 0x74 ∷ 0x61 ∷ 0x64 ∷ 0x61 ∷ 0x74 ∷ 0x61 ∷ []

-- "count (2 bytes at 10)"
abbrev pub entry_count : List ℕ → ℕ
entry_count r = field r 10 2

-- "The metadata table starts its region: "metadata", count .. at most 2,047"
unfoldable pub table_rule : List ℕ → Bool
table_rule r = starts r metadata && nat_le (entry_count r) 2047

-- "entries from byte 32": entry i, 32 bytes
unfoldable pub entry : List ℕ → ℕ → List ℕ
entry r i = take 32 (drop (32 + 32 * i) r)

-- the fields of an entry e
abbrev pub identifier : List ℕ → ℕ
identifier e = field e 0 16

abbrev pub item_offset : List ℕ → ℕ
item_offset e = field e 16 4

abbrev pub item_length : List ℕ → ℕ
item_length e = field e 20 4

-- where its item lies in the region
abbrev pub item_extent : List ℕ → Extent
item_extent e = record { offset = item_offset e; length = item_length e }

-- "flags in the 4 bytes at 24 of each (IsUser 1, IsRequired 4)"
abbrev pub flags : List ℕ → ℕ
flags e = field e 24 4

abbrev pub is_user : List ℕ → Bool
is_user e = nat_eq (flags e % 2) 1

abbrev pub is_required : List ℕ → Bool
is_required e = nat_eq (flags e / 4 % 2) 1

-- ---- "Each:" the rules of an entry e and of the extent p of its item, in a region of n bytes; d is an earlier entry

-- "item length at most 1 MiB"
abbrev pub length_rule : Extent → Bool
length_rule p = nat_le p.length mib

-- "length 0 only with offset 0; otherwise offset at least 65,536 and end inside the region"
abbrev pub offset_rule : ℕ → Extent → Bool
offset_rule n p = cond (nat_eq p.length 0) (nat_eq p.offset 0) (nat_le 65536 p.offset && inside p.offset p.length n)

-- "identifier with IsUser unique": no earlier entry has both
abbrev pub unique_rule : List ℕ → List ℕ → Bool
unique_rule d e = not (nat_eq (identifier d) (identifier e) && nat_eq (flags d % 2) (flags e % 2))

-- "User items are never known."
unfoldable pub is_known : List ℕ → Bool
is_known e = not (is_user e) && is_some (row_of known_items (identifier e))

-- "if unknown, IsRequired clear"
abbrev pub required_rule : List ℕ → Bool
required_rule e = is_known e || not (is_required e)

-- where an item may lie. Refusal 16 cites it
unfoldable pub location_rule : ℕ → Extent → Bool
location_rule n p = length_rule p && offset_rule n p

-- what an entry keeps by itself
unfoldable pub own_rule : ℕ → List ℕ → Bool
own_rule n e = location_rule n (item_extent e) && required_rule e

-- of entry i: by itself, and with every earlier one
unfoldable pub entry_rule : List ℕ → ℕ → Bool
entry_rule r i = own_rule (length r) (entry r i) && every i (λ j. unique_rule (entry r j) (entry r i))

-- of all entries
unfoldable pub entries_rule : List ℕ → Bool
entries_rule r = every (entry_count r) (entry_rule r)

-- 12: "metadata region of length 0, or its table or an entry breaks its rule"
unfoldable pub metadata_rule : List ℕ → Bool
metadata_rule r = nat_lt 0 (length r) && (table_rule r && entries_rule r)
