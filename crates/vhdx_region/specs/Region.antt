-- The region tables: which copy is used, the rule of its entries, and the regions found in it, or refusal 9 to 11 (document
-- 01, "Regions and items", first paragraph; MS-VHDX 2.2.3). The image is a list of bytes; the log is where the current header
-- says.
-- Assumes nothing.
use Rattle.std.specs.Prelude.{Bool, cond, not, ◌&&◌, ◌||◌, List, [], ◌∷◌, ℕ, ◌+◌, ◌*◌, nat_eq, nat_le, length, take, drop, Option, None, Some, is_some}
use Rattle.decision.specs.Bounded.{every, first}
use Rattle.decision.specs.Refusal.{Outcome, refused, answered, check}
use Rattle.field.specs.Fields.{field, starts}
use Rattle.extent.specs.declared.Extent.{Extent}
use Rattle.extent.specs.Extent.{mib, whole_mib, inside, shares}
use Rattle.crc32c.specs.Crc.{crc, zeroed}
use Rattle.guid.specs.Stored.{stored, identifier_in, row_of}
use Rattle.vhdx_region.specs.declared.Regions.{Regions}

-- "Region tables are 65,536 bytes at 196,608 and 262,144"
abbrev pub copy1 : ℕ
copy1 = 196608

abbrev pub copy2 : ℕ
copy2 = 262144

unfoldable pub table_at : List ℕ → ℕ → List ℕ
table_at image at = take 65536 (drop at image)

-- "regi"
abbrev pub regi : List ℕ
regi = 0x72 ∷ 0x65 ∷ 0x67 ∷ 0x69 ∷ []

-- the fields of a table t
abbrev pub checksum : List ℕ → ℕ
checksum t = field t 4 4

abbrev pub entry_count : List ℕ → ℕ
entry_count t = field t 8 4

-- "valid means "regi", CRC, count at most 2,047"
unfoldable pub valid_table : List ℕ → Bool
valid_table t = starts t regi && (nat_eq (checksum t) (crc (zeroed t 4)) && nat_le (entry_count t) 2047)

-- entry i: 32 bytes
unfoldable pub entry : List ℕ → ℕ → List ℕ
entry t i = take 32 (drop (16 + 32 * i) t)

-- the fields of an entry e
abbrev pub identifier : List ℕ → ℕ
identifier e = field e 0 16

abbrev pub region_offset : List ℕ → ℕ
region_offset e = field e 16 8

abbrev pub region_length_of : List ℕ → ℕ
region_length_of e = field e 24 4

abbrev pub required : List ℕ → ℕ
required e = field e 28 4

-- where an entry's region lies
abbrev pub extent_of : List ℕ → Extent
extent_of e = record { offset = region_offset e; length = region_length_of e }

-- the identifiers that MS-VHDX defines: BAT, metadata region
unfoldable pub known_regions : List (List ℕ)
known_regions =
    stored 0x2DC27766 0xF623 0x4200 0x9D64 0x115E9BFD4A08
    ∷ stored 0x8B7CA206 0x4790 0x4B9A 0xB8FE 0x575F050F886E
    ∷ []

-- their rows
abbrev pub bat_row : ℕ
bat_row = 0

abbrev pub metadata_row : ℕ
metadata_row = 1

-- ---- "Each entry:" the rules of an entry e and of the extent p of its region, in an image of n bytes; d is an earlier entry

-- "identifier unique": no earlier entry has it
abbrev pub unique_rule : List ℕ → List ℕ → Bool
unique_rule d e = not (nat_eq (identifier d) (identifier e))

-- "offset a multiple of 1 MiB and at least 1 MiB"
abbrev pub offset_rule : Extent → Bool
offset_rule p = whole_mib p.offset && nat_le mib p.offset

-- "length a multiple of 1 MiB"
abbrev pub length_rule : Extent → Bool
length_rule p = whole_mib p.length

-- "inside the image"
abbrev pub inside_rule : ℕ → Extent → Bool
inside_rule n p = inside p.offset p.length n

-- "sharing no byte with another region or the log": with no earlier one, nor with the log
abbrev pub apart_rule : Extent → Extent → Bool
apart_rule p q = not (shares p.offset p.length q.offset q.length)

-- "if unknown, Required not 1"
abbrev pub required_rule : List ℕ → Bool
required_rule e = is_some (row_of known_regions (identifier e)) || not (nat_eq (required e) 1)

-- where a region may lie. Refusal 16 cites it
unfoldable pub location_rule : ℕ → Extent → Bool
location_rule n p = offset_rule p && (length_rule p && inside_rule n p)

-- what an entry keeps by itself
unfoldable pub own_rule : ℕ → Extent → List ℕ → Bool
own_rule n log e = location_rule n (extent_of e) && (apart_rule (extent_of e) log && required_rule e)

-- what two entries keep, each pair judged once
unfoldable pub pair_rule : List ℕ → List ℕ → Bool
pair_rule d e = unique_rule d e && apart_rule (extent_of d) (extent_of e)

-- of entry i: by itself, and with every earlier one
unfoldable pub entry_rule : ℕ → Extent → List ℕ → ℕ → Bool
entry_rule n log t i = own_rule n log (entry t i) && every i (λ j. pair_rule (entry t j) (entry t i))

-- of all entries
unfoldable pub entries_rule : ℕ → Extent → List ℕ → Bool
entries_rule n log t = every (entry_count t) (entry_rule n log t)

-- ---- the regions

-- the entry of a known region, by its row
unfoldable pub entry_of : List ℕ → ℕ → Option ℕ
entry_of t row = first (entry_count t) (λ i. nat_eq (identifier_in known_regions row) (identifier (entry t i)))

-- 11: "BAT or metadata region missing"
abbrev pub both_found : List ℕ → Option ℕ → Option ℕ → Outcome Regions
both_found t None m = refused 11
both_found t (Some b) None = refused 11
both_found t (Some b) (Some m) = answered (record { bat = extent_of (entry t b); metadata = extent_of (entry t m) })

-- 10: "a region entry breaks its rule"
unfoldable pub read_table : ℕ → Extent → List ℕ → Outcome Regions
read_table n log t = check (entries_rule n log t) (refused 10) (both_found t (entry_of t bat_row) (entry_of t metadata_row))

-- "The first valid copy is used (house rule)." 9: "neither region table copy is valid"
unfoldable pub regions : List ℕ → Extent → Outcome Regions
regions image log =
    let t₁ = table_at image copy1 in
    let t₂ = table_at image copy2 in
    cond (valid_table t₁) (read_table (length image) log t₁) (cond (valid_table t₂) (read_table (length image) log t₂) (refused 9))
