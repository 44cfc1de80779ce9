-- The block allocation table's layout (document 01, "From sector to place").
-- Assumes nothing.
use Rattle.std.specs.Prelude.{Bool, ℕ, ◌+◌, ◌-◌, ◌*◌, ◌/◌, ◌^◌, nat_le}
use Rattle.vhdx_facts.specs.declared.Facts.{Facts}

-- "rounded up"
abbrev pub rounded_up : ℕ → ℕ → ℕ
rounded_up a b = (a + (b - 1)) / b

-- "Ratio = 2^23 x logical sector size / block size.": the payload blocks of a chunk
unfoldable pub ratio : Facts → ℕ
ratio f = 2 ^ 23 * f.logical_sector_size / f.block_size

-- "Blocks = disk size / block size, rounded up."
unfoldable pub blocks : Facts → ℕ
blocks f = rounded_up f.disk_size f.block_size

-- "Chunks = blocks / ratio, rounded up."
unfoldable pub chunks : Facts → ℕ
chunks f = rounded_up (blocks f) (ratio f)

-- "The BAT region must hold chunks x (ratio + 1) entries of 8 bytes, for every kind of disk.": how many entries
unfoldable pub needed_entries : Facts → ℕ
needed_entries f = chunks f * (ratio f + 1)

-- that it holds them. Refusals 15 and 16 cite it
unfoldable pub bat_rule : Facts → Bool
bat_rule f = nat_le (needed_entries f * 8) f.bat.length

-- "Block b has entry b + floor(b / ratio)"
unfoldable pub block_entry : ℕ → ℕ → ℕ
block_entry ratio b = b + b / ratio

-- "chunk c's bitmap has entry c x (ratio + 1) + ratio"
unfoldable pub bitmap_entry : ℕ → ℕ → ℕ
bitmap_entry ratio c = c * (ratio + 1) + ratio
