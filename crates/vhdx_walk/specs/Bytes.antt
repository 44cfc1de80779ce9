-- The entries of a found sequence from the log's bytes: a data sector's bytes, an entry's descriptors, and the entries from a
-- sector on (document 01, "The log").
-- Assumes nothing.
use Rattle.std.specs.Prelude.{cond, List, [], ◌∷◌, ◌++◌, ℕ, zero, suc, ◌+◌, take, drop}
use Rattle.vhdx_entry.specs.Ring.{ring}
use Rattle.vhdx_entry.specs.Entry.{descriptor, is_data_descriptor, trailing_bytes, leading_bytes, zero_length, file_offset, data_before, data_sector, descriptor_count, flushed_file_offset, last_file_offset, behind}
use Rattle.vhdx_walk.specs.Entries.{Descriptor, writes, zeros, LogEntry, Entries, only, then}

-- "A data sector is LeadingBytes, the 4,084 bytes, TrailingBytes.": of a data descriptor d and its data sector s
unfoldable pub sector_bytes : List ℕ → List ℕ → List ℕ
sector_bytes d s = leading_bytes d ++ (take 4084 (drop 8 s) ++ trailing_bytes d)

-- descriptor i of the entry r: the data sector of a data descriptor is that of its rank among them
unfoldable pub descriptor_of : List ℕ → ℕ → Descriptor
descriptor_of r i =
    let d = descriptor r i in
    cond (is_data_descriptor d) (writes (file_offset d) (sector_bytes d (data_sector r (data_before r i)))) (zeros (file_offset d) (zero_length d))

-- m descriptors from number i on
unfoldable pub descriptors_from : List ℕ → ℕ → ℕ → List Descriptor
descriptors_from r i zero = []
descriptors_from r i (suc m) = descriptor_of r i ∷ descriptors_from r (i + 1) m

-- what the work takes of the entry r
abbrev pub log_entry : List ℕ → LogEntry
log_entry r =
    record { flushed = flushed_file_offset r; last = last_file_offset r; descriptors = descriptors_from r 0 (descriptor_count r) }

-- the entry at sector s of the log and the k after it, "each starting where the one before ended"
unfoldable pub entries_from : List ℕ → ℕ → ℕ → Entries
entries_from log s zero = only (log_entry (ring log s))
entries_from log s (suc k) = then (log_entry (ring log s)) (entries_from log (behind log s) k)
