-- The scan for the active log sequence, in pieces: what a scanner wants, and what it does with it. A trace and a place are told
-- by the state that they stand for: `trace_of`, `place_at`.
-- Assumes nothing.
use Rattle.std.specs.Prelude.{cond, ◌&&◌, List, Option, None, Some, ◌≡◌, ℕ, ◌+◌, ◌-◌, ◌*◌, ◌%◌, ◌^◌, ◌≤◌, ◌<◌, nat_lt, length}
use Rattle.std.specs.declared.ops.ControlFlow.{ControlFlow}
use Rattle.std.specs.declared.ops.ControlFlow.TheVariants.{Continue, Break}
use Rattle.field.specs.declared.Guid.{Guid}
use Rattle.vhdx_entry.specs.declared.Entry.{Entry}
use Rattle.vhdx_entry.specs.Ring.{sector_count, sector_at}
use Rattle.vhdx_entry.specs.Entry.{signature_rule, sequence_number_of}
use Rattle.vhdx_sequence.specs.declared.Sequence.{Sequence}
use Rattle.vhdx_sequence.specs.declared.lap.Place.{Place}
use Rattle.vhdx_sequence.specs.declared.scan.Trace.{Trace}
use Rattle.vhdx_sequence.specs.Sequence.{active_sequence}
use Rattle.vhdx_sequence.specs.Scan.{Placed, State, state_of, fresh, run_from, taken_by, goes_on}
use Rattle.vhdx_pieces_entry.specs.Pass.{Progress}
use Rattle.vhdx_pieces_entry.specs.Pass as pass
use Rattle.vhdx_pieces_scan.specs.declared.Stage.{Stage}
use Rattle.vhdx_pieces_scan.specs.declared.Stage.TheVariants.{First, Inside, Tail}
use Rattle.vhdx_pieces_scan.specs.declared.Scanner.{Scanner}

-- a sector is wanted, or the scan has ended
abbrev pub Step : Type 0
Step = ControlFlow (Option Sequence) Scanner

-- place u on the way over a ring of n sectors
abbrev pub place_at : ℕ → ℕ → Place
place_at n u = record { pos = record { at = u % n; len = n }; count = u }

-- the trace of a state
abbrev pub trace_of : ℕ → State → Trace
trace_of n st = record { start = place_at n st.start; next = st.next; number = st.number; best = st.best }

abbrev pub scanner_at : ℕ → ℕ → State → Stage → Scanner
scanner_at n u st stage = record { trace = trace_of n st; place = place_at n u; stage = stage }

-- the sector of the log that is wanted
abbrev pub wanted_in : ℕ → ℕ → Stage → ℕ
wanted_in n at First = at
wanted_in n at (Inside x) = (at + x.read) % n
wanted_in n at (Tail e) = e.tail

abbrev pub wanted_of : Scanner → ℕ
wanted_of s = wanted_in s.place.pos.len s.place.pos.at s.stage

-- at the next place, if the scan goes on
unfoldable pub resumed : ℕ → ℕ → State → Step
resumed n u st = cond (goes_on n u st && nat_lt u (n + n)) (Continue (scanner_at n u st First)) (Break st.best)

abbrev pub progressed : ℕ → ℕ → State → Progress → Step
progressed n u st (Continue x) = Continue (scanner_at n u st (Inside x))
progressed n u st (Break (Some e)) = Continue (scanner_at n u st (Tail e))
progressed n u st (Break None) = resumed n (u + 1) st

abbrev pub taking : ℕ → ℕ → State → Entry → List ℕ → Step
taking n u st e s = resumed n (u + e.size) (taken_by n u (run_from u st e.number) st e (signature_rule s) (sequence_number_of s))

abbrev pub step_in : Guid → ℕ → ℕ → State → Stage → List ℕ → Step
step_in guid n u st First s = progressed n u st (pass.first guid n s)
step_in guid n u st (Inside x) s = progressed n u st (pass.further n x s)
step_in guid n u st (Tail e) s = taking n u st e s

unfoldable pub step_of : Guid → Scanner → List ℕ → Step
step_of guid s p = step_in guid s.place.pos.len s.place.count (state_of s.trace) s.stage p

-- ---- what a scanner keeps to, whatever is fed

pub record Upright (t : Trace) (p : Place) : Type 0 where
  pub few : p.pos.len < 1048576
  pub here : Placed p.pos.len p
  pub there : Placed p.pos.len t.start
  pub behind : t.start.count ≤ p.count
  pub laps : p.count < p.pos.len + p.pos.len

abbrev pub Staged : ℕ → Stage → Type 0
Staged n First = Unit {0}
Staged n (Inside x) = pass.Sane n x
Staged n (Tail e) = (0 < e.size) × (e.size ≤ n) × (e.tail < n)

pub record Sane (s : Scanner) : Type 0 where
  pub upright : Upright s.trace s.place
  pub staged : Staged s.place.pos.len s.stage

-- it may be fed again, over the same number of sectors
abbrev pub Onward : ℕ → Step → Type 0
Onward n (Continue s) = Sane s × (s.place.pos.len ≡ n)
Onward n (Break q) = Unit {0}

-- ---- how many sectors it still asks for, at most

-- at a place of a ring of n sectors: an entry has at most n, and one more is at its Tail
abbrev pub left_in : ℕ → Stage → ℕ
left_in n First = n + 1
left_in n (Inside x) = n + 1 - x.read
left_in n (Tail e) = 1

-- at place u, and at each place after it in two laps
abbrev pub left_at : ℕ → ℕ → Stage → ℕ
left_at n u stage = (n + n - (u + 1)) * (n + 1) + left_in n stage

abbrev pub left_of : Step → ℕ
left_of (Continue s) = left_at s.place.pos.len s.place.count s.stage
left_of (Break q) = 0

-- ---- the theorems

-- whatever is fed, it may be fed again, and asks for less
abbrev pub ScanAdvances : Type 0
ScanAdvances =
    (guid : Guid) (s : Scanner) (p : List ℕ) → Sane s
    → Onward s.place.pos.len (step_of guid s p) × (left_of (step_of guid s p) < left_of (Continue s))

-- at the start, over n sectors
abbrev pub ScanStarts : Type 0
ScanStarts = (n : ℕ) → n < 1048576 → Onward n (resumed n 0 fresh) × (left_of (resumed n 0 fresh) ≤ (n + n) * (n + 1))

-- fed the sectors of a log that it wants, it ends with this sequence
pub data Scans (log : List ℕ) (guid : Guid) : Step → Option Sequence → Type 0 where
  stop : {q : Option Sequence} → Scans log guid (Break q) q
  next : {s : Scanner} {o : Option Sequence} → wanted_of s < sector_count log → Scans log guid (step_of guid s (sector_at log (wanted_of s))) o → Scans log guid (Continue s) o

abbrev pub ScansActive : Type 0
ScansActive =
    (log : List ℕ) (guid : Guid) → length log % 4096 ≡ 0 → length log < 2 ^ 32
    → Scans log guid (resumed (sector_count log) 0 fresh) (active_sequence log guid)
