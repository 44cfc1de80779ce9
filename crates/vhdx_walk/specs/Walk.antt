-- The walk over a found sequence's sectors, one after the other: which sectors it has before it, and the sector that it
-- answers.
-- Assumes nothing.
use Rattle.std.specs.Prelude.{List, Option, None, Some, [], ◌++◌, ◌≡◌, ℕ, ◌+◌, ◌/◌, ◌≤◌, ◌<◌, length}
use Rattle.std.proofs.Math.Option as math
use Rattle.vhdx_entry.specs.Ring.{log_sector_size}
use Rattle.vhdx_walk.specs.declared.run.Source.TheVariants.{Zeros}
use Rattle.vhdx_walk.specs.declared.run.Run.{Run}
use Rattle.vhdx_walk.specs.declared.cursor.Cursor.{Cursor}
use Rattle.vhdx_walk.specs.declared.Walk as walk
use Rattle.vhdx_walk.specs.declared.SectorWrite.{SectorWrite}
use Rattle.vhdx_walk.specs.Entries.{Sector, sectors_at, sectors, furthest, length_limit}
use Rattle.vhdx_walk.specs.Cursor.{bytes_of, Held, descriptors_left, Placed}

-- the sectors of a run
abbrev pub sectors_in : List ℕ → Run → List Sector
sectors_in log run = sectors_at (run.length / log_sector_size) run.offset (bytes_of log run.source)

-- the sectors that are still to come: the rest of the run that the walk is in, then those of the descriptors behind it
unfoldable pub sectors_left : List ℕ → walk.Walk → List Sector
sectors_left log w = sectors_in log w.run ++ sectors (descriptors_left log w.cursor)

-- at a cursor, with no run before it
abbrev pub walk_from : Cursor → walk.Walk
walk_from c = record { run = record { offset = 0; length = 0; source = Zeros }; cursor = c }

-- the sector that is answered: its place, and its bytes by where they are
abbrev pub sector_of : List ℕ → SectorWrite → Sector
sector_of log s = record { offset = s.offset; bytes = bytes_of log s.source }

-- the answer: a sector, or none left, as `get_elem?` has it
abbrev pub next_of : List ℕ → Option SectorWrite → math.Option Sector
next_of log (Some s) = math.some (sector_of log s)
next_of log None = math.none

-- the answered sector's bytes are in the log
abbrev pub HeldNext : List ℕ → Option SectorWrite → Type 0
HeldNext log (Some s) = Held log s.source
HeldNext log None = Unit {0}

-- what a walk relies on: no sector ends above the limit of refusal 8, so that no offset wraps
pub record Ready (log : List ℕ) (w : walk.Walk) : Type 0 where
  pub placed : Placed log w.cursor
  pub bounded : furthest (descriptors_left log w.cursor) ≤ length_limit
  pub ends : 0 < w.run.length → w.run.offset + w.run.length ≤ length_limit
  pub held : Held log w.run.source

-- the walk is at a sector, or there is none left
unfoldable pub Settled : List ℕ → walk.Walk → Type 0
Settled log w = (w.run.length < log_sector_size) → sectors_left log w ≡ []

-- what follows from a cursor on: nothing, or a walk that has fewer descriptors or entries before it
abbrev pub Following : List ℕ → Cursor → Option walk.Walk → Type 0
Following log c None = sectors (descriptors_left log c) ≡ []
Following log c (Some w) =
    (sectors (descriptors_left log c) ≡ sectors_left log w) × Ready log w
    × (length (descriptors_left log w.cursor) + w.cursor.left < length (descriptors_left log c) + c.left)
