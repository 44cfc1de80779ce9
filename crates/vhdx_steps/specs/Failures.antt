-- Power failures, of which document 01 does not speak: its cuts tear one step at a time, in a buffer of one length. What was written and
-- not yet flushed may be on the disk or not, in any order; and a later call may have another buffer.
--
-- That a failure leaves no more than `Lost` says rests on the disk and the file system: a write damages nothing outside its 4,096
-- bytes, and growth nothing before the old end; a file that was made longer reads as zeros where nothing was written; and it does not
-- become shorter than at its last flush.
-- Assumes nothing.
use Rattle.std.specs.Prelude.{List, ◌≡◌, ℕ, ◌≤◌, ◌<◌, length, get_or}
use Rattle.vhdx_walk.specs.Entries.{Sector}
use Rattle.vhdx_log.specs.Work.{apply, sectors_planned}
use Rattle.vhdx_steps.specs.Steps.{File, Named}
use Rattle.vhdx_steps.specs.Calls.{plan_of, final_length_of, Call}

-- what work that names these sectors and leads to the length m may leave of f where it does not come to its end. In as many of the
-- sectors as it likes, come to or not, there may be any bytes; past the length too
pub record Lost (m : ℕ) (ss : List Sector) (f g : File) : Type 0 where
  -- any length from the given to the final one
  pub from : f.size ≤ g.size
  pub to : g.size ≤ m
  -- below it and outside the sectors the given bytes, then zeros
  pub given : (i : ℕ) → i < f.size → ¬ Named ss i → get_or g.buffer i 0 ≡ get_or f.buffer i 0
  pub zeros : (i : ℕ) → f.size ≤ i → i < g.size → ¬ Named ss i → get_or g.buffer i 0 ≡ 0
  -- in this buffer or another: it holds the final length if this one does
  pub capacity : m ≤ length f.buffer → m ≤ length g.buffer

-- what a power failure may leave of f, whichever call was on the way and however far it had come
abbrev pub Failed : File → File → Type 0
Failed f g = Lost (final_length_of f) (sectors_planned (plan_of f)) f g

-- the same file in another buffer, which holds the final length
pub record Reopened (f g : File) : Type 0 where
  pub same_size : g.size ≡ f.size
  pub same_bytes : (i : ℕ) → i < f.size → get_or g.buffer i 0 ≡ get_or f.buffer i 0
  pub capacity : final_length_of f ≤ length g.buffer

-- of a file that came as o, was d when it was last flushed, and is f now
pub data History (o : File) : File → File → Type 0 where
  -- the file as it came, which is on the disk
  original : History o o o
  -- a call as document 01 has it: run to its end, refused or interrupted
  called : {d f g : File} → History o d f → Call f g → History o d g
  -- a call that ended early, its writes in any order: as where a process is killed that writes each sector once, as it is in the end
  lost : {d f g : File} → History o d f → Failed f g → History o d g
  reopened : {d f g : File} → History o d f → Reopened f g → History o d g
  flushed : {d f : File} → History o d f → History o f f
  -- the power fails: every call since the last flush, whatever it left, may be taken back, whole or in part
  failed : {d f g : File} → History o d f → Failed d g → History o g g

-- every call of document 01, run to its end, refused or interrupted, leaves what a power failure may leave. Proved in proofs/Losses.antt
abbrev pub EveryCallIsALoss : Type 0
EveryCallIsALoss = (f g : File) → Call f g → Failed f g

-- a whole history of a file whose log can be applied leaves no more of it than one power failure may leave. Proved there too
abbrev pub OneFailure : Type 0
OneFailure = (o d f : File) (m : ℕ) (ss : List Sector) → plan_of o ≡ apply m ss → History o d f → Failed o f
