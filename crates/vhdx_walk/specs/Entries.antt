-- The entries of a sequence that is already found, and the sectors that their descriptors name (document 01, "The log",
-- "Work"). All is over plain values.
-- Assumes nothing.
use Rattle.std.specs.Prelude.{cond, List, [], ◌∷◌, ◌++◌, ℕ, zero, suc, ◌+◌, ◌*◌, ◌/◌, ◌^◌, max, nat_eq, replicate}
use Rattle.vhdx_entry.specs.Ring.{log_sector_size}

-- a descriptor: the file offset and the sector's bytes of a data descriptor; the file offset and the ZeroLength of a zero
-- descriptor
pub data Descriptor : Type 0 where
  writes : ℕ → List ℕ → Descriptor
  zeros : ℕ → ℕ → Descriptor

-- an entry: FlushedFileOffset, LastFileOffset, and its descriptors in order
pub record LogEntry : Type 0 where
  pub flushed : ℕ
  pub last : ℕ
  pub descriptors : List Descriptor

-- "a non-empty list of valid entries"
pub data Entries : Type 0 where
  only : LogEntry → Entries
  then : LogEntry → Entries → Entries

-- "The last is its head."
abbrev pub head : Entries → LogEntry
head (only e) = e
head (then e es) = head es

-- "from the first entry on, each descriptor"
abbrev pub all_descriptors : Entries → List Descriptor
all_descriptors (only e) = e.descriptors
all_descriptors (then e es) = e.descriptors ++ all_descriptors es

-- a sector to write: its offset in the file, and its bytes
pub record Sector : Type 0 where
  pub offset : ℕ
  pub bytes : List ℕ

-- so many sectors, one behind the other, all with these bytes
unfoldable pub sectors_at : ℕ → ℕ → List ℕ → List Sector
sectors_at zero offset bytes = []
sectors_at (suc k) offset bytes = record { offset = offset; bytes = bytes } ∷ sectors_at k (offset + log_sector_size) bytes

-- a sector of zeros
unfoldable pub zero_sector : List ℕ
zero_sector = replicate log_sector_size 0

-- "A zero descriptor of N x 4,096 bytes is N steps; with length 0 it names nothing."
abbrev pub sectors_of : Descriptor → List Sector
sectors_of (writes offset bytes) = sectors_at 1 offset bytes
sectors_of (zeros offset n) = sectors_at (n / log_sector_size) offset zero_sector

-- "each descriptor's sectors are written in order"
abbrev pub sectors : List Descriptor → List Sector
sectors [] = []
sectors (d ∷ ds) = sectors_of d ++ sectors ds

-- the end of a descriptor that names at least one sector, else 0
abbrev pub end : Descriptor → ℕ
end (writes offset bytes) = offset + log_sector_size
end (zeros offset n) = cond (nat_eq n 0) 0 (offset + n)

-- the greatest of them
abbrev pub furthest : List Descriptor → ℕ
furthest [] = 0
furthest (d ∷ ds) = max (end d) (furthest ds)

-- "128 TiB (house limit)", of refusal 8
abbrev pub length_limit : ℕ
length_limit = 128 * 2 ^ 40
