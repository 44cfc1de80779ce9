-- The facts of an image whose log is applied, or refusal 9 to 15 (document 01, "When the gate says no", and "Regions and items").
-- The image is a list of bytes; the log is where the current header says.
-- Assumes nothing.
use Rattle.std.specs.Prelude.{Bool, true, false, not, ◌&&◌, ◌||◌, List, ℕ, ◌+◌}
use Rattle.decision.specs.Refusal.{Outcome, refused, answered, check, and_then}
use Rattle.extent.specs.declared.Extent.{Extent}
use Rattle.extent.specs.Extent.{nowhere, part}
use Rattle.vhdx_facts.specs.declared.Facts.{Facts}
use Rattle.vhdx_facts.specs.Ranges.{no_facts, sizes_rule}
use Rattle.vhdx_facts.specs.Geometry.{bat_rule}
use Rattle.vhdx_locator.specs.Locator.{locator_rule}
use Rattle.vhdx_region.specs.declared.Regions.{Regions}
use Rattle.vhdx_region.specs.Region.{regions}
use Rattle.vhdx_metadata.specs.declared.Items.{Items}
use Rattle.vhdx_metadata.specs.Items.{items}

-- "offset from the image's start": of an item at an offset of the region that starts here. "the locator's place is zero without a
-- parent"
abbrev pub locator_extent : Bool → Extent → Extent → Extent
locator_extent false region item = nowhere
locator_extent true region item = record { offset = region.offset + item.offset; length = item.length }

-- what the regions and the items say
unfoldable pub facts_of : Regions → Items → Facts
facts_of g m =
    record {
      logical_sector_size = m.logical_sector_size;
      physical_sector_size = m.physical_sector_size;
      block_size = m.block_size;
      disk_size = m.disk_size;
      has_parent = m.has_parent;
      disk_id = m.disk_id;
      bat = g.bat;
      metadata = g.metadata;
      locator = locator_extent m.has_parent g.metadata m.locator;
    }

-- "Locator, where needed: .."
unfoldable pub parent_rule : List ℕ → Facts → Bool
parent_rule image f = not f.has_parent || locator_rule (part image f.locator)

-- 14: "an item's value is out of range"; 15: "BAT region too short"
unfoldable pub judged : List ℕ → Facts → Outcome Facts
judged image f = check (sizes_rule f && parent_rule image f) (refused 14) (check (bat_rule f) (refused 15) (answered f))

-- 12 and 13, of the metadata region
unfoldable pub with_regions : List ℕ → Regions → Outcome Facts
with_regions image g = and_then (items (part image g.metadata)) (λ m. judged image (facts_of g m))

-- 9 to 11 come first
unfoldable pub tables : List ℕ → Extent → Outcome Facts
tables image log = and_then (regions image log) (with_regions image)

-- the facts that a caller is told. "On a refusal every fact is zero"
abbrev pub facts_told : Outcome Facts → Facts
facts_told (refused c) = no_facts
facts_told (answered f) = f
