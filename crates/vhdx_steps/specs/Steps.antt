-- The log's work on a file, step by step, and what a torn step leaves (document 01, "The log": "Work", and "Cuts").
-- Assumes nothing.
use Rattle.std.specs.Prelude.{List, [], ◌∷◌, map, ◌⊎◌, ◌≡◌, ℕ, ◌+◌, ◌≤◌, ◌<◌, nat_le, length, get_or}
use Rattle.std.proofs.Math.Option.{Option, none, some}
use Rattle.std.proofs.Math.ListN.{get_elem?}
use Rattle.decision.specs.Refusal.{Outcome, refused, answered, check}
use Rattle.vhdx_walk.specs.Entries.{Sector}
use Rattle.vhdx_log.specs.Work.{Plan, refused as unplanned, apply}
use Rattle.vhdx_steps.specs.Buffer.{put, zeroed}

-- a file in a buffer: the buffer's first `size` bytes
pub record File : Type 0 where
  pub buffer : List ℕ
  pub size : ℕ

-- where a sector ends
abbrev pub end : Sector → ℕ
end s = s.offset + length s.bytes

-- byte i lies in a sector; in one of the sectors
abbrev pub In : ℕ → Sector → Type 0
In i s = (s.offset ≤ i) × (i < end s)

abbrev pub Named : List Sector → ℕ → Type 0
Named [] i = ⊥
Named (s ∷ ss) i = In i s ⊎ Named ss i

-- a step: growth with zeros to a length, or the write of a sector
pub data Step : Type 0 where
  grow : ℕ → Step
  write : Sector → Step

-- the file after a step, and after several
abbrev pub run : Step → File → File
run (grow m) f = record { buffer = zeroed f.buffer f.size m; size = m }
run (write s) f = record { buffer = put f.buffer s.offset s.bytes; size = f.size }

abbrev pub runs : List Step → File → File
runs [] f = f
runs (s ∷ w) f = runs w (run s f)

-- "A cut in step k, k at least 1, leaves any bytes in its sector and all else as given."
pub record TornWrite (s : Sector) (f g : File) : Type 0 where
  pub capacity : length g.buffer ≡ length f.buffer
  pub same_size : g.size ≡ f.size
  pub rest : (i : ℕ) → ¬ In i s → get_or g.buffer i 0 ≡ get_or f.buffer i 0

-- "A cut in step 0 leaves any length from the given to the final one: the given bytes, then zeros; past it the room may hold
-- anything."
pub record TornGrowth (m : ℕ) (f g : File) : Type 0 where
  pub capacity : length g.buffer ≡ length f.buffer
  pub from : f.size ≤ g.size
  pub to : g.size ≤ m
  pub given : (i : ℕ) → i < f.size → get_or g.buffer i 0 ≡ get_or f.buffer i 0
  pub zeros : (i : ℕ) → f.size ≤ i → i < g.size → get_or g.buffer i 0 ≡ 0

abbrev pub Torn : Step → File → File → Type 0
Torn (grow m) f g = TornGrowth m f g
Torn (write s) f g = TornWrite s f g

-- "Each step is whole before the next begins." "A cut attach has any number of its first steps done, and the next not begun or cut."
pub data Ran : List Step → File → File → Type 0 where
  stop : {w : List Step} {f : File} → Ran w f f
  torn : {s : Step} {w : List Step} {f g : File} → Torn s f g → Ran (s ∷ w) f g
  next : {s : Step} {w : List Step} {f g : File} → Ran w (run s f) g → Ran (s ∷ w) f g

-- the length that the log's work leads to, at 1 to 8 the given one
abbrev pub length_after : Plan → ℕ → ℕ
length_after (unplanned c) n = n
length_after (apply m ss) n = m

-- the steps of attach: none where it is refused before
abbrev pub steps : Plan → List Step
steps (unplanned c) = []
steps (apply m ss) = grow m ∷ map write ss

-- 21: "k above the number of sectors to write"; 22: "k at least 1 and that sector ends past the given length"
abbrev pub admitted : ℕ → Option Step → Outcome Step
admitted size none = refused 21
admitted size (some (grow m)) = answered (grow m)
admitted size (some (write s)) = check (nat_le (end s) size) (refused 22) (answered (write s))

-- step k of the plan on a file of this size, or the refusal; 1 to 8 come first
abbrev pub chosen : Plan → ℕ → ℕ → Outcome Step
chosen (unplanned c) k size = refused c
chosen (apply m ss) k size = admitted size (get_elem? (steps (apply m ss)) k)

-- a refused step is no step
abbrev pub steps_of : Outcome Step → List Step
steps_of (refused c) = []
steps_of (answered s) = s ∷ []

-- the steps of a call that does step k alone
abbrev pub single : Plan → ℕ → ℕ → List Step
single p k size = steps_of (chosen p k size)
