-- Whether the facts that a caller hands in fit the image that comes with them: refusal 16 (document 01, "When the gate says no").
-- They are any numbers. The rules are those by which the tables were read. The image has n bytes.
-- Assumes nothing.
use Rattle.std.specs.Prelude.{Bool, not, ◌&&◌, ◌||◌, ℕ, ◌-◌, nat_le, nat_lt}
use Rattle.extent.specs.declared.Extent.{Extent}
use Rattle.vhdx_facts.specs.declared.Facts.{Facts}
use Rattle.vhdx_facts.specs.Ranges.{sizes_rule}
use Rattle.vhdx_facts.specs.Geometry.{bat_rule}
use Rattle.vhdx_locator.specs.Locator.{size_rule}
use Rattle.vhdx_region.specs.Region.{apart_rule, location_rule as region_rule}
use Rattle.vhdx_metadata.specs.Table.{location_rule as item_rule}

-- "BAT or metadata place not whole MiB, below 1 MiB, outside the image, or the two sharing a byte; metadata length 0"
unfoldable pub regions_fit : ℕ → Facts → Bool
regions_fit n f =
    (region_rule n f.bat && region_rule n f.metadata) && (apart_rule f.bat f.metadata && nat_lt 0 f.metadata.length)

-- the locator as an item of its region, which it does not start before
abbrev pub locator_item : Facts → Extent
locator_item f = record { offset = f.locator.offset - f.metadata.offset; length = f.locator.length }

-- "a locator place its item rules forbid or shorter than 20"
unfoldable pub locator_fits : Facts → Bool
locator_fits f =
    nat_le f.metadata.offset f.locator.offset
    && (item_rule f.metadata.length (locator_item f) && size_rule f.locator.length)

-- "with a parent, .."
abbrev pub parent_fits : Facts → Bool
parent_fits f = not f.has_parent || locator_fits f

-- "a size out of its range; BAT or metadata place ..; BAT too short by 15's rule; with a parent, .."
unfoldable pub facts_fit : ℕ → Facts → Bool
facts_fit n f = sizes_rule f && (regions_fit n f && (bat_rule f && parent_fits f))

-- "length above the buffer's; ..": 16 applies where this is false
unfoldable pub fits : ℕ → ℕ → Facts → Bool
fits capacity n f = nat_le n capacity && facts_fit n f
