-- The parent locator: its rule, and the value of a key (document 01, "Regions and items": "Locator", and "What the gate does":
-- "Parent key"; MS-VHDX 2.6.2.6). A locator is the list of its item's bytes.
-- Assumes nothing.
use Rattle.std.specs.Prelude.{Bool, cond, ◌&&◌, List, ℕ, ◌+◌, ◌*◌, nat_eq, nat_le, nat_lt, length, drop, Option, None, Some}
use Rattle.decision.specs.Bounded.{every, first}
use Rattle.field.specs.Fields.{le, field, starts}
use Rattle.extent.specs.declared.Extent.{Extent}
use Rattle.extent.specs.Extent.{inside, nowhere}
use Rattle.guid.specs.Stored.{stored}

-- "type b04aefb7-d19e-4a81-b789-25b8e9445913"
unfoldable pub vhdx_type : List ℕ
vhdx_type = stored 0xb04aefb7 0xd19e 0x4a81 0xb789 0x25b8e9445913

-- the fields: type, count, and entries of 12 bytes from 20, each with the offset and the length of its key and its value
abbrev pub locator_type : List ℕ → ℕ
locator_type item = field item 0 16

abbrev pub entry_count : List ℕ → ℕ
entry_count item = field item 18 2

abbrev pub entry_start : ℕ → ℕ
entry_start i = 20 + 12 * i

abbrev pub key_offset : List ℕ → ℕ → ℕ
key_offset item i = field item (entry_start i) 4

abbrev pub value_offset : List ℕ → ℕ → ℕ
value_offset item i = field item (entry_start i + 4) 4

abbrev pub key_length : List ℕ → ℕ → ℕ
key_length item i = field item (entry_start i + 8) 2

abbrev pub value_length : List ℕ → ℕ → ℕ
value_length item i = field item (entry_start i + 10) 2

-- "at least 20 bytes". Refusal 16 cites it
abbrev pub size_rule : ℕ → Bool
size_rule n = nat_le 20 n

-- "type ..", as it is stored
abbrev pub type_rule : List ℕ → Bool
type_rule item = nat_eq (locator_type item) (le vhdx_type)

-- "its entries .. inside the item"
abbrev pub entries_rule : List ℕ → Bool
entries_rule item = nat_le (entry_start (entry_count item)) (length item)

-- "keys and values inside the item, lengths not 0": of a key or a value
abbrev pub part_rule : List ℕ → ℕ → ℕ → Bool
part_rule item offset n = nat_lt 0 n && inside offset n (length item)

-- of entry i
unfoldable pub entry_rule : List ℕ → ℕ → Bool
entry_rule item i =
    part_rule item (key_offset item i) (key_length item i) && part_rule item (value_offset item i) (value_length item i)

-- the locator's whole rule
unfoldable pub locator_rule : List ℕ → Bool
locator_rule item =
    size_rule (length item) && (type_rule item && (entries_rule item && every (entry_count item) (λ i. entry_rule item i)))

-- entry i has the key, byte for byte
unfoldable pub has_key : List ℕ → List ℕ → ℕ → Bool
has_key item key i = nat_eq (key_length item i) (length key) && starts (drop (key_offset item i) item) key

-- "The first entry with the key counts."
unfoldable pub entry_of : List ℕ → List ℕ → Option ℕ
entry_of item key = first (entry_count item) (has_key item key)

-- where the value of an entry lies in the item; nothing where there is no entry
abbrev pub value_at : List ℕ → Option ℕ → Extent
value_at item None = nowhere
value_at item (Some i) = record { offset = value_offset item i; length = value_length item i }

-- where the value of a key lies in the item. "an empty part exactly when .. the locator found there breaks its rule, or no entry
-- has that key": the length of a value is not 0
unfoldable pub value_of : List ℕ → List ℕ → Extent
value_of item key = cond (locator_rule item) (value_at item (entry_of item key)) nowhere
