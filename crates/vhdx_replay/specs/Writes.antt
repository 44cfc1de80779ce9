-- Sectors written one after the other, and when a walk over them may be.
-- Assumes nothing.
use Rattle.std.specs.Prelude.{List, [], ◌∷◌, false, ◌≡◌, ℕ, ◌+◌, ◌≤◌, length}
use Rattle.extent.specs.declared.Extent.{Extent}
use Rattle.extent.specs.Extent.{shares, part}
use Rattle.vhdx_walk.specs.Entries.{Sector}
use Rattle.vhdx_walk.specs.Walk.{sectors_left, Ready, Settled}
use Rattle.vhdx_walk.specs.declared.Walk.{Walk}
use Rattle.vhdx_steps.specs.Buffer.{put}

-- the first of some sectors, if there is one: it ends inside the buffer; and the buffer with it written
abbrev pub first_fits_in : List Sector → ℕ → Type 0
first_fits_in [] capacity = Unit {0}
first_fits_in (s ∷ ss) capacity = s.offset + 4096 ≤ capacity

abbrev pub first_written : List Sector → List ℕ → List ℕ
first_written [] buffer = buffer
first_written (s ∷ ss) buffer = put buffer s.offset s.bytes

-- all of them, in order
abbrev pub all_written : List Sector → List ℕ → List ℕ
all_written [] buffer = buffer
all_written (s ∷ ss) buffer = all_written ss (put buffer s.offset s.bytes)

-- each has 4,096 bytes, inside the buffer and outside the log
abbrev pub Safe : Extent → ℕ → List Sector → Type 0
Safe log capacity [] = Unit {0}
Safe log capacity (s ∷ ss) =
    ((length s.bytes ≡ 4096) × (s.offset + 4096 ≤ capacity) × (shares s.offset 4096 log.offset log.length ≡ false)) × Safe log capacity ss

-- the sectors that a walk has before it can be written
pub record Writable (buffer : List ℕ) (log : Extent) (walk : Walk) : Type 0 where
  pub inside : log.offset + log.length ≤ length buffer
  pub ready : Ready (part buffer log) walk
  pub settled : Settled (part buffer log) walk
  pub safe : Safe log (length buffer) (sectors_left (part buffer log) walk)
