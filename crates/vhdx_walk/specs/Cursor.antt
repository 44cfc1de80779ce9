-- The cursor over the descriptors of a found sequence: what a run of sectors stands for, which descriptors a cursor has before
-- it, and what a move of it does.
-- Assumes nothing.
use Rattle.std.specs.Prelude.{true, List, [], ◌∷◌, ◌++◌, ◌≡◌, ℕ, zero, suc, ◌+◌, ◌-◌, ◌*◌, ◌%◌, ◌≤◌, ◌<◌, length, take, drop}
use Rattle.extent.specs.Extent.{mib}
use Rattle.vhdx_entry.specs.Ring.{log_sector_size, sector_count, ring, On}
use Rattle.vhdx_entry.specs.Entry.{data_before, descriptor_count, behind, fits_rule, entry_length_rule, descriptors_rule}
use Rattle.vhdx_walk.specs.declared.run.Source.{Source}
use Rattle.vhdx_walk.specs.declared.run.Source.TheVariants.{Zeros, Data}
use Rattle.vhdx_walk.specs.declared.run.Run.{Run}
use Rattle.vhdx_walk.specs.declared.cursor.Cursor.{Cursor}
use Rattle.vhdx_walk.specs.declared.cursor.Move.{Move}
use Rattle.vhdx_walk.specs.declared.cursor.Move.TheVariants.{Done, Entry, Descriptor as Named}
use Rattle.vhdx_walk.specs.Entries.{Descriptor, writes, zeros, zero_sector}
use Rattle.vhdx_walk.specs.Bytes.{sector_bytes, descriptors_from}

-- ---- runs

-- the bytes of each of a run's sectors
abbrev pub bytes_of : List ℕ → Source → List ℕ
bytes_of log Zeros = zero_sector
bytes_of log (Data descriptor sector) = sector_bytes (take 32 (drop descriptor log)) (take log_sector_size (drop sector log))

-- the descriptor that a run of this source, at this offset and of this length, is
abbrev pub descriptor_by : List ℕ → Source → ℕ → ℕ → Descriptor
descriptor_by log Zeros offset n = zeros offset n
descriptor_by log (Data descriptor sector) offset n = writes offset (bytes_of log (Data descriptor sector))

-- of a run
abbrev pub descriptor_in : List ℕ → Run → Descriptor
descriptor_in log run = descriptor_by log run.source run.offset run.length

-- the bytes of a source are in the log
abbrev pub Held : List ℕ → Source → Type 0
Held log Zeros = Unit {0}
Held log (Data descriptor sector) = (descriptor + 32 ≤ length log) × (sector + log_sector_size ≤ length log)

-- whole sectors, and just one where the log holds its bytes
abbrev pub ProperBy : List ℕ → Source → ℕ → Type 0
ProperBy log Zeros n = n % log_sector_size ≡ 0
ProperBy log (Data descriptor sector) n = (n ≡ log_sector_size) × Held log (Data descriptor sector)

-- of a run
abbrev pub Proper : List ℕ → Run → Type 0
Proper log run = ProperBy log run.source run.length

-- ---- cursors

-- the descriptors of `left` entries, from number `index` of the one at sector s on
unfoldable pub descriptors_on : List ℕ → ℕ → ℕ → ℕ → List Descriptor
descriptors_on log s index zero = []
descriptors_on log s index (suc left) =
    descriptors_from (ring log s) index (descriptor_count (ring log s) - index) ++ descriptors_on log (behind log s) 0 left

-- those that a cursor has before it
abbrev pub descriptors_left : List ℕ → Cursor → List Descriptor
descriptors_left log c = descriptors_on log c.pos.at c.index c.left

-- what a walk relies on of an entry
pub record Readable (r : List ℕ) : Type 0 where
  pub fits : fits_rule r ≡ true
  pub exact : entry_length_rule r ≡ true
  pub described : descriptors_rule r ≡ true

-- of the k entries from sector s on
unfoldable pub AllReadable : List ℕ → ℕ → ℕ → Type 0
AllReadable log s zero = Unit {0}
AllReadable log s (suc k) = Readable (ring log s) × AllReadable log (behind log s) k

-- in an entry: at one of its descriptors or behind them, with the data descriptors before it counted
pub record Within (log : List ℕ) (c : Cursor) : Type 0 where
  pub on : On log c.pos
  pub within : c.index ≤ descriptor_count (ring log c.pos.at)
  pub rank : c.data ≡ data_before (ring log c.pos.at) c.index

-- what a move relies on: the cursor is in an entry, if any is left, and each of those that are left can be read
pub record Placed (log : List ℕ) (c : Cursor) : Type 0 where
  pub here : 0 < c.left → Within log c
  pub readable : AllReadable log c.pos.at c.left

-- what a move says, and where the moved cursor is
abbrev pub Onward : List ℕ → Cursor → Move → Type 0
Onward log c Done = descriptors_left log c ≡ []
Onward log c (Entry next) = (descriptors_left log c ≡ descriptors_left log next) × Placed log next × (next.left < c.left)
Onward log c (Named run next) =
    (descriptors_left log c ≡ descriptor_in log run ∷ descriptors_left log next) × Placed log next × (next.left ≡ c.left) × Proper log run

-- what is known of the entry at sector s and the `more` after it, where they are a found sequence's: they can be walked, and
-- have few descriptors
pub record Walkable (log : List ℕ) (s more : ℕ) : Type 0 where
  pub whole : length log % log_sector_size ≡ 0
  pub small : length log ≤ 64 * mib
  pub start : s < sector_count log
  pub readable : AllReadable log s (suc more)
  pub short : more < sector_count log
  pub few : length (descriptors_on log s 0 (suc more)) ≤ 128 * sector_count log
