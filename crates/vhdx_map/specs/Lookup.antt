-- From a sector to where its bytes are, or refusal 16 to 20 (document 01, "From sector to place" and "When the gate says no").
-- s is the number of a sector of the disk with the facts f. Numbers are whole numbers of any size: no sum wraps.
-- Assumes nothing.
use Rattle.std.specs.Prelude.{Bool, cond, List, ℕ, ◌+◌, ◌*◌, ◌/◌, ◌%◌, ◌^◌, nat_lt, length, take}
use Rattle.decision.specs.Refusal.{Outcome, refused, answered, check}
use Rattle.field.specs.Fields.{field}
use Rattle.extent.specs.declared.Extent.{Extent}
use Rattle.extent.specs.Extent.{mib, part}
use Rattle.bitmap.specs.Bitmap.{bit_of, byte_of, lowest_first}
use Rattle.vhdx_facts.specs.declared.Facts.{Facts}
use Rattle.vhdx_facts.specs.Geometry.{ratio, block_entry, bitmap_entry}
use Rattle.vhdx_fit.specs.Fit.{fits}
use Rattle.vhdx_map.specs.Entry.{state, offset_of, meaning, stored_rule, bitmap_rule}
use Rattle.vhdx_map.specs.declared.entry.Meaning.{Meaning}
use Rattle.vhdx_map.specs.declared.entry.Meaning.TheVariants.{ReadsZero, ReadsParent, FullyPresent, PartiallyPresent, Invalid}
use Rattle.vhdx_map.specs.declared.Place.{Place}
use Rattle.vhdx_map.specs.declared.Place.TheVariants.{File, Zero, Parent}

-- ---- the sector's block, its entry, its bitmap's entry

-- the block, and how far into it the sector starts
unfoldable pub block_of : Facts → ℕ → ℕ
block_of f s = s * f.logical_sector_size / f.block_size

unfoldable pub into_block : Facts → ℕ → ℕ
into_block f s = s * f.logical_sector_size % f.block_size

-- "Block b has entry .."; "chunk c's bitmap has entry ..", and block b is in chunk floor(b / ratio)
unfoldable pub payload_index : Facts → ℕ → ℕ
payload_index f s = block_entry (ratio f) (block_of f s)

unfoldable pub bitmap_index : Facts → ℕ → ℕ
bitmap_index f s = bitmap_entry (ratio f) (block_of f s / ratio f)

-- entry i of the BAT region, "entries of 8 bytes"
unfoldable pub bat_entry : Facts → List ℕ → ℕ → ℕ
bat_entry f image i = field (part image f.bat) (8 * i) 8

-- the sector's two entries
unfoldable pub payload_of : Facts → List ℕ → ℕ → ℕ
payload_of f image s = bat_entry f image (payload_index f s)

unfoldable pub bitmap_of : Facts → List ℕ → ℕ → ℕ
bitmap_of f image s = bat_entry f image (bitmap_index f s)

-- "The bit of sector s is number s mod 2^23"
abbrev pub bit_number : ℕ → ℕ
bit_number s = s % 2 ^ 23

-- where the bitmap of a bitmap entry b is, and its one byte that has the sector's bit
abbrev pub bitmap_extent : ℕ → Extent
bitmap_extent b = record { offset = offset_of b; length = mib }

unfoldable pub bitmap_byte : List ℕ → ℕ → ℕ → ℕ
bitmap_byte image b s = field (part image (bitmap_extent b)) (byte_of (bit_number s)) 1

-- ---- the answer

-- what the payload entry e says on this disk
abbrev pub says : Facts → ℕ → Meaning
says f e = meaning f.has_parent (state e)

-- 17: "sector number not below disk size / logical sector size"
unfoldable pub sector_rule : Facts → ℕ → Bool
sector_rule f s = nat_lt s (f.disk_size / f.logical_sector_size)

-- in the block that entry e stores
abbrev pub in_block : Facts → ℕ → ℕ → Place
in_block f s e = File (offset_of e + into_block f s)

-- "bitmap bit 1 file, 0 parent", "lowest bit of each byte first"
abbrev pub by_bit : Facts → ℕ → ℕ → ℕ → Place
by_bit f s e byte = cond (bit_of byte (lowest_first (bit_number s))) (in_block f s e) Parent

-- 19: "state 6 or 7, and the block starts below 1 MiB or ends past the image"
abbrev pub full : ℕ → Facts → ℕ → ℕ → Outcome Place
full n f s e = check (stored_rule n f.block_size e) (refused 19) (answered (in_block f s e))

-- 20: "state 7, and the bitmap entry is not state 6, or .."
abbrev pub partial : ℕ → Facts → ℕ → ℕ → ℕ → ℕ → Outcome Place
partial n f s e b byte =
    check (stored_rule n f.block_size e) (refused 19) (check (bitmap_rule n b) (refused 20) (answered (by_bit f s e byte)))

-- the same, with what an image says of the bitmap
unfoldable pub partial_in : Facts → List ℕ → ℕ → ℕ → Outcome Place
partial_in f image s e = let b = bitmap_of f image s in partial (length image) f s e b (bitmap_byte image b s)

-- by the payload entry e, the bitmap entry b and the bitmap's byte, in an image of n bytes. 18: "state 4 or 5, or state 7 without a
-- parent"
unfoldable pub located : ℕ → Facts → ℕ → ℕ → ℕ → ℕ → Meaning → Outcome Place
located n f s e b byte ReadsZero = answered Zero
located n f s e b byte ReadsParent = answered Parent
located n f s e b byte Invalid = refused 18
located n f s e b byte FullyPresent = full n f s e
located n f s e b byte PartiallyPresent = partial n f s e b byte

-- what the image says of a sector that the disk has
unfoldable pub in_image_at : Facts → List ℕ → ℕ → Outcome Place
in_image_at f image s =
    let e = payload_of f image s in
    let b = bitmap_of f image s in
    located (length image) f s e b (bitmap_byte image b s) (says f e)

-- the lookup. The image is the first n bytes of the buffer
unfoldable pub lookup : Facts → List ℕ → ℕ → ℕ → Outcome Place
lookup f buffer n s =
    check (fits (length buffer) n f) (refused 16) (check (sector_rule f s) (refused 17) (in_image_at f (take n buffer) s))

-- an answer in two figures, as it is told to a program: 0 refused, by this number; 1 in the file, at this offset; 2 zero; 3 the
-- parent's
abbrev pub figures : Outcome Place → ℕ × ℕ
figures (refused c) = (0, c)
figures (answered (File at)) = (1, at)
figures (answered Zero) = (2, 0)
figures (answered Parent) = (3, 0)
