-- The log as a ring (document 01, "The log"). A log is the list of its bytes, a whole number of sectors; an offset in it
-- that an entry starts at is a multiple of 4,096, and is counted in sectors.
-- Assumes nothing.
use Rattle.std.specs.Prelude.{List, ◌++◌, ◌≡◌, ℕ, ◌+◌, ◌*◌, ◌/◌, ◌%◌, ◌<◌, length, take, drop}
use Rattle.vhdx_entry.specs.declared.ring.RingPos.{RingPos}

-- "A valid entry starts at a multiple of 4,096"
abbrev pub log_sector_size : ℕ
log_sector_size = 4096

-- how many sectors the log has
abbrev pub sector_count : List ℕ → ℕ
sector_count log = length log / log_sector_size

-- "The log is a ring; an entry may run past its end and go on at its start.": the log's bytes from sector s on, once round
unfoldable pub ring : List ℕ → ℕ → List ℕ
ring log s = drop (s * log_sector_size) log ++ take (s * log_sector_size) log

-- sector s of a list of bytes
unfoldable pub sector_at : List ℕ → ℕ → List ℕ
sector_at bytes s = take log_sector_size (drop (s * log_sector_size) bytes)

-- the position so many sectors on, past the ring's end at its start again
abbrev pub advanced : RingPos → ℕ → RingPos
advanced p by = record { at = (p.at + by) % p.len; len = p.len }

-- where in the log byte n of what starts at a position stands
abbrev pub offset_in : RingPos → ℕ → ℕ
offset_in p n = (advanced p (n / log_sector_size)).at * log_sector_size + n % log_sector_size

-- a position is one of the log's ring
abbrev pub On : List ℕ → RingPos → Type 0
On log p = (p.at < p.len) × (length log ≡ p.len * log_sector_size)
