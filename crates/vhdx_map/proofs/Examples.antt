-- Document 01's L1 to L6, each computed from the definitions of a sector's entries and its lookup, and compared with what 01 says.
-- Assumes nothing.
use mathlib.Core.Path.{refl}
use mathlib.Core.Bool.{false}
use mathlib.Core.List.{List, [], ◌∷◌}
use Prim.Native.Nat.{ℕ, ◌*◌, ◌/◌, ◌^◌}
use Rattle.decision.specs.Examples.{Example, L, Agree}
use Rattle.extent.specs.Extent.{mib, nowhere}
use Rattle.bitmap.specs.Bitmap.{byte_of, lowest_first}
use Rattle.vhdx_facts.specs.declared.Facts.{Facts}
use Rattle.vhdx_facts.specs.Geometry.{ratio, block_entry, bitmap_entry}
use Rattle.vhdx_map.specs.Entry.{meaning, stored_rule}
use Rattle.vhdx_map.specs.Lookup.{block_of, into_block, payload_index, bit_number, says, located, figures}

-- "L: 512-byte sectors, 32 MiB blocks, so ratio 128."
disk : Facts
disk =
    record {
      logical_sector_size = 512;
      physical_sector_size = 4096;
      block_size = 32 * mib;
      disk_size = 64 * 2 ^ 40;
      has_parent = false;
      disk_id = record { low = 0; high = 0 };
      bat = nowhere;
      metadata = nowhere;
      locator = nowhere;
    }

-- "image long enough": the 32 MiB from 5 MiB on. The disk has no parent, so that no bitmap counts
looked-up : ℕ → ℕ → ℕ × ℕ
looked-up s e = figures (located (37 * mib) disk s e 0 0 (says disk e))

pub examples : List Example
examples =
    record { name = L 1; given = block_of disk 65535 ∷ into_block disk 65535 ∷ []; said = 0 ∷ 33553920 ∷ [] }
    ∷ record { name = L 2; given = payload_index disk 65536 ∷ []; said = 1 ∷ [] }
    ∷ record { name = L 3; given = block_entry (ratio disk) 127 ∷ bitmap_entry (ratio disk) (127 / ratio disk) ∷ []; said = 127 ∷ 128 ∷ [] }
    ∷ record { name = L 4; given = block_of disk 8388608 ∷ payload_index disk 8388608 ∷ []; said = 128 ∷ 129 ∷ [] }
    -- 1: in the file
    ∷ record { name = L 5; given = (looked-up 1 0x500006).0 ∷ (looked-up 1 0x500006).1 ∷ []; said = 1 ∷ 5243392 ∷ [] }
    ∷ record { name = L 6; given = byte_of (bit_number 8388617) ∷ lowest_first (bit_number 8388617) ∷ []; said = 1 ∷ 1 ∷ [] }
    ∷ []

pub agree : Agree examples
unfolding examples disk looked-up block_of into_block payload_index block_entry bitmap_entry ratio located meaning stored_rule
agree = refl
