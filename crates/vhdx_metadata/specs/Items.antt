-- The items of the metadata region, refusal 13, and their values (document 01, "Regions and items"; MS-VHDX 2.6.2).
-- Assumes nothing.
use Rattle.std.specs.Prelude.{Bool, true, false, not, ◌&&◌, ◌||◌, List, ℕ, ◌/◌, ◌%◌, nat_eq, get_or, Option, None, Some}
use Rattle.decision.specs.Bounded.{every, first}
use Rattle.decision.specs.Refusal.{Outcome, refused, answered, check}
use Rattle.field.specs.Fields.{field, guid_at}
use Rattle.extent.specs.declared.Extent.{Extent}
use Rattle.extent.specs.Extent.{nowhere, part}
use Rattle.guid.specs.Stored.{identifier_in}
use Rattle.vhdx_metadata.specs.Known.{file_parameters, disk_size_of, logical_sector_size_of, physical_sector_size_of, disk_identifier, parent_locator, known_items, known_lengths}
use Rattle.vhdx_metadata.specs.Table.{entry_count, entry, identifier, item_length, item_extent, is_user, metadata_rule}
use Rattle.vhdx_metadata.specs.declared.Items.{Items}

-- an entry is that of the known item in a row: "User items are never known."
abbrev pub is_item : ℕ → List ℕ → Bool
is_item row e = not (is_user e) && nat_eq (identifier_in known_items row) (identifier e)

-- the known item's entry
unfoldable pub entry_of : List ℕ → ℕ → Option ℕ
entry_of r row = first (entry_count r) (λ i. is_item row (entry r i))

-- a length that the table gives, or any
abbrev pub is_length : Option ℕ → ℕ → Bool
is_length None length = true
is_length (Some n) length = nat_eq length n

-- the length that the table gives the known item in a row
abbrev pub has_its_length : ℕ → ℕ → Bool
has_its_length row length = is_length (get_or known_lengths row None) length

-- not "missing or of wrong length": of the entry that was found
abbrev pub is_there_at : List ℕ → ℕ → Option ℕ → Bool
is_there_at r row None = false
is_there_at r row (Some i) = has_its_length row (item_length (entry r i))

unfoldable pub is_there : List ℕ → ℕ → Bool
is_there r row = is_there_at r row (entry_of r row)

-- where a known item lies in the region
abbrev pub extent_at : List ℕ → Option ℕ → Extent
extent_at r None = nowhere
extent_at r (Some i) = item_extent (entry r i)

unfoldable pub extent_of : List ℕ → ℕ → Extent
extent_of r row = extent_at r (entry_of r row)

-- the bytes of a known item
unfoldable pub item_of : List ℕ → ℕ → List ℕ
item_of r row = part r (extent_of r row)

-- HasParent: bit value 2 in the 4 bytes at 4 of the file parameters
unfoldable pub has_parent_of : List ℕ → Bool
has_parent_of r = nat_eq (field (item_of r file_parameters) 4 4 / 2 % 2) 1

-- 13: "a needed item is missing or of wrong length". "The first five are needed; the locator too if HasParent."
unfoldable pub needed_rule : List ℕ → Bool
needed_rule r = every 5 (is_there r) && (not (has_parent_of r) || is_there r parent_locator)

-- what the items say, and where the locator lies in the region, if there is one
unfoldable pub contents : List ℕ → Items
contents r =
    record {
      block_size = field (item_of r file_parameters) 0 4;
      has_parent = has_parent_of r;
      disk_size = field (item_of r disk_size_of) 0 8;
      logical_sector_size = field (item_of r logical_sector_size_of) 0 4;
      physical_sector_size = field (item_of r physical_sector_size_of) 0 4;
      disk_id = guid_at (item_of r disk_identifier) 0;
      locator = extent_of r parent_locator;
    }

-- the items of a region, or refusal 12 or 13
unfoldable pub items : List ℕ → Outcome Items
items r = check (metadata_rule r) (refused 12) (check (needed_rule r) (refused 13) (answered (contents r)))
