-- The scan that finds the active log sequence: its state, and what a turn does to it. A place on the scan's way is counted
-- on past the ring's end: place u is sector u % n of a log of n sectors.
-- Assumes nothing.
use Rattle.std.specs.Prelude.{Bool, cond, ◌&&◌, ◌||◌, List, Option, None, ◌≡◌, ℕ, ◌+◌, ◌-◌, ◌%◌, ◌^◌, ◌≤◌, ◌<◌, nat_le, nat_lt, nat_eq}
use Rattle.decision.specs.Bounded.{only_if}
use Rattle.vhdx_entry.specs.declared.Entry.{Entry}
use Rattle.vhdx_entry.specs.Ring.{sector_at, advanced, On}
use Rattle.vhdx_entry.specs.Entry.{signature_rule, sequence_number_of}
use Rattle.vhdx_sequence.specs.Sequence.{better}
use Rattle.vhdx_sequence.specs.declared.Sequence.{Sequence}
use Rattle.vhdx_sequence.specs.declared.lap.Place.{Place}
use Rattle.vhdx_sequence.specs.declared.scan.Trace.{Trace}

-- a place on the way over a ring of n sectors
abbrev pub Placed : ℕ → Place → Type 0
Placed n p = (p.pos.at ≡ p.count % n) × (p.pos.len ≡ n)

-- the place so many sectors on
abbrev pub moved : Place → ℕ → Place
moved p by = record { pos = advanced p.pos by; count = p.count + by }

-- how many sectors on in a ring of n sectors sector t lies from sector s
abbrev pub away : ℕ → ℕ → ℕ → ℕ
away n s t = (t + (n - s)) % n

-- the place where the run of entries that the scan is in began, the place where its last entry ends, and that entry's
-- number; the best sequence so far
pub record State : Type 0 where
  pub start : ℕ
  pub next : ℕ
  pub number : ℕ
  pub best : Option Sequence

-- what the code keeps of it
abbrev pub state_of : Trace → State
state_of t = record { start = t.start.count; next = t.next; number = t.number; best = t.best }

-- before the first entry
abbrev pub fresh : State
fresh = record { start = 0; next = 0; number = 0; best = None }

-- where the run began that an entry with this number at place u is in: it goes on with the state's run, or begins one
abbrev pub run_from : ℕ → State → ℕ → ℕ
run_from u st number = cond (nat_eq u st.next && nat_eq number (st.number + 1)) st.start u

-- the sequence whose head is the entry e at place u, in the run from place r on: the sector at its Tail is marked "loge" and
-- lies in the run, not past u. `marked` and `first`: whether that sector is marked, and the sequence number in it
abbrev pub headed_by : ℕ → ℕ → ℕ → Entry → Bool → ℕ → Option Sequence
headed_by n u r e marked first =
    only_if (marked && nat_le (away n (r % n) e.tail) (u - r))
    (record { start = e.tail; more = e.number - first; number = e.number })

-- the state after the entry e at place u, in the run from place r on; `marked` and `first` as above
abbrev pub taken_by : ℕ → ℕ → ℕ → State → Entry → Bool → ℕ → State
taken_by n u r st e marked first =
    record { start = r; next = u + e.size; number = e.number; best = better st.best (headed_by n u r e marked first) }

-- the first lap is not done, or a run that began in it goes on
abbrev pub goes_on : ℕ → ℕ → State → Bool
goes_on n u st = nat_lt u n || (nat_le u st.next && nat_lt st.start n)

-- whether sector s of the log is marked "loge"
abbrev pub mark_at : List ℕ → ℕ → Bool
mark_at log s = signature_rule (sector_at log s)

-- the sequence number that stands in sector s of the log, if an entry starts there
abbrev pub number_at : List ℕ → ℕ → ℕ
number_at log s = sequence_number_of (sector_at log s)

-- the state after the entry e at place u of a log of n sectors
abbrev pub taken : List ℕ → ℕ → ℕ → State → Entry → State
taken log n u st e = taken_by n u (run_from u st e.number) st e (mark_at log e.tail) (number_at log e.tail)

-- an entry at a place may be taken up: its Tail is a sector of the ring, the run that it is in began at a place that the scan
-- came past, and the places can be counted
pub record Taking (place : Place) (t : Trace) (e : Entry) : Type 0 where
  pub here : Placed place.pos.len place
  pub there : Placed place.pos.len t.start
  pub tail : e.tail < place.pos.len
  pub few : place.pos.len < 2 ^ 32
  pub run : run_from place.count (state_of t) e.number ≤ place.count
  pub countable : place.count + e.size < 2 ^ 64

-- and the place is one of the log's ring
pub record Takes (log : List ℕ) (place : Place) (t : Trace) (e : Entry) : Type 0 where
  pub on : On log place.pos
  pub taking : Taking place t e
