-- The facts of a disk, and the ranges of its sizes (document 01, "What the gate does", and "Regions and items": "Ranges").
-- Refusals 14 and 16 cite them.
-- Assumes nothing.
use Rattle.std.specs.Prelude.{Bool, false, ◌&&◌, ◌||◌, ℕ, ◌*◌, ◌%◌, ◌^◌, nat_eq, nat_le}
use Rattle.extent.specs.Extent.{mib, nowhere}
use Rattle.vhdx_facts.specs.declared.Facts.{Facts}

-- "On a refusal every fact is zero"
abbrev pub no_facts : Facts
no_facts =
    record {
      logical_sector_size = 0;
      physical_sector_size = 0;
      block_size = 0;
      disk_size = 0;
      has_parent = false;
      disk_id = record { low = 0; high = 0 };
      bat = nowhere;
      metadata = nowhere;
      locator = nowhere;
    }

-- "sector sizes 512 or 4,096"
abbrev pub sector_size_rule : ℕ → Bool
sector_size_rule n = nat_eq n 512 || nat_eq n 4096

-- "block size a power of two from 1 to 256 MiB": 2^k MiB
abbrev pub block_size_rule : ℕ → Bool
block_size_rule n =
    nat_eq n (2 ^ 0 * mib) || (nat_eq n (2 ^ 1 * mib) || (nat_eq n (2 ^ 2 * mib) || (nat_eq n (2 ^ 3 * mib) || (nat_eq n (2 ^ 4 * mib)
    || (nat_eq n (2 ^ 5 * mib) || (nat_eq n (2 ^ 6 * mib) || (nat_eq n (2 ^ 7 * mib) || nat_eq n (2 ^ 8 * mib))))))))

-- "at most 64 TiB"
abbrev pub disk_size_limit : ℕ
disk_size_limit = 64 * 2 ^ 40

-- "disk size a multiple of the logical sector size, at least one sector, at most 64 TiB"
unfoldable pub disk_size_rule : ℕ → ℕ → Bool
disk_size_rule log_sector_size n = nat_eq (n % log_sector_size) 0 && (nat_le log_sector_size n && nat_le n disk_size_limit)

-- all four
unfoldable pub sizes_rule : Facts → Bool
sizes_rule f =
    sector_size_rule f.logical_sector_size
    && (sector_size_rule f.physical_sector_size
    && (block_size_rule f.block_size && disk_size_rule f.logical_sector_size f.disk_size))
