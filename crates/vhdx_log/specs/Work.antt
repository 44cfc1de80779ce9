-- The log's work for a sequence that is already found, and refusals 6 to 8 (document 01, "The log", "Work", and "When the
-- gate says no"). All is over plain values: the found entries, the log's extent, the image's length n, the buffer's length.
-- Assumes nothing.
use Rattle.std.specs.Prelude.{Bool, false, not, ◌&&◌, ◌||◌, List, [], ◌∷◌, ℕ, max, nat_le, length}
use Rattle.decision.specs.Refusal.{check}
use Rattle.extent.specs.declared.Extent.{Extent}
use Rattle.extent.specs.Extent.{mib, shares}
use Rattle.vhdx_entry.specs.Ring.{log_sector_size}
use Rattle.vhdx_walk.specs.Entries.{Entries, head, all_descriptors, Sector, sectors, furthest, length_limit}

-- "the greatest of its length, the head's LastFileOffset, and the end of each descriptor that names at least one sector"
abbrev pub final_length : Entries → ℕ → ℕ
final_length es n = max n (max (head es).last (furthest (all_descriptors es)))

-- "lies in the first MiB or in the log": shares a byte with it
abbrev pub lies : Extent → ℕ → ℕ → Bool
lies log offset n = shares offset n 0 mib || shares offset n log.offset log.length

-- some sector does
abbrev pub some_lies : Extent → List Sector → Bool
some_lies log [] = false
some_lies log (s ∷ ss) = lies log s.offset log_sector_size || some_lies log ss

-- what is decided before anything is written: a refusal's number, or the final length and the sectors to write, in order
pub data Plan : Type 0 where
  refused : ℕ → Plan
  apply : ℕ → List Sector → Plan

-- the sectors that a plan writes
abbrev pub sectors_planned : Plan → List Sector
sectors_planned (refused c) = []
sectors_planned (apply n ss) = ss

-- "The count equals the definition's steps after step 0."
abbrev pub count : Plan → ℕ
count (refused c) = 0
count (apply n ss) = length ss

-- 8: "the final length is above the buffer's or above 128 TiB"
abbrev pub apply_within : ℕ → ℕ → List Sector → Plan
apply_within capacity final ss = check (nat_le final capacity && nat_le final length_limit) (refused 8) (apply final ss)

-- 6: "length below the active head's FlushedFileOffset"; 7: "a sector to be written lies in the first MiB or in the log"
unfoldable pub work : Extent → Entries → ℕ → ℕ → Plan
work log es n capacity =
    check (nat_le (head es).flushed n) (refused 6)
    (check (not (some_lies log (sectors (all_descriptors es)))) (refused 7)
    (apply_within capacity (final_length es n) (sectors (all_descriptors es))))
