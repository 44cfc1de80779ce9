-- The log's work planned in pieces: what a planner wants, and what it does with it.
-- Assumes nothing.
use Rattle.std.specs.Prelude.{false, not, cond, ◌&&◌, List, Option, None, Some, Result, Ok, Err, ◌≡◌, ℕ, ◌+◌, ◌*◌, ◌/◌, ◌≤◌, ◌<◌, max, nat_eq, nat_le, nat_lt, length}
use Rattle.std.specs.declared.ops.ControlFlow.{ControlFlow}
use Rattle.std.specs.declared.ops.ControlFlow.TheVariants.{Continue, Break}
use Rattle.decision.specs.declared.Refusal.{Refusal}
use Rattle.decision.specs.declared.Refusal.TheVariants.{HeaderField, NoLogSequence, ShorterThanFlushed, ForbiddenSector, FinalLength}
use Rattle.decision.specs.Refusal.{check, number}
use Rattle.extent.specs.declared.Extent.{Extent}
use Rattle.extent.specs.Extent.{inside, nowhere, part}
use Rattle.vhdx_header.specs.declared.Header.{Header}
use Rattle.vhdx_sequence.specs.declared.Sequence.{Sequence}
use Rattle.vhdx_sequence.specs.Scan.{fresh}
use Rattle.vhdx_walk.specs.Entries.{sectors, furthest, length_limit}
use Rattle.vhdx_walk.specs.Cursor.{descriptors_on, AllReadable}
use Rattle.vhdx_log.specs.Work.{Plan, refused, apply, count, some_lies}
use Rattle.vhdx_log.specs.Plan.{plan}
use Rattle.vhdx_log.specs.Answers.{log_of}
use Rattle.vhdx_pieces_header.specs.declared.Stage.{Stage}
use Rattle.vhdx_pieces_header.specs.declared.Stage.TheVariants as stage
use Rattle.vhdx_pieces_header.specs.Finding as finding
use Rattle.vhdx_pieces_scan.specs.Scanning as scanning
use Rattle.vhdx_pieces_survey.specs.declared.Report.{Report}
use Rattle.vhdx_pieces_survey.specs.Touring as touring
use Rattle.vhdx_pieces_plan.specs.declared.Context.{Context}
use Rattle.vhdx_pieces_plan.specs.declared.Phase.{Phase}
use Rattle.vhdx_pieces_plan.specs.declared.Phase.TheVariants as phase
use Rattle.vhdx_pieces_plan.specs.declared.Planner.{Planner}
use Rattle.vhdx_pieces_plan.specs.declared.Order.{Order}

-- what it ends with: an order, or why there is none
abbrev pub Outcome : Type 0
Outcome = Result Order Refusal

-- bytes of the file are wanted, or how it ended
abbrev pub Step : Type 0
Step = ControlFlow Outcome Planner

abbrev pub sectors_of : Extent → ℕ
sectors_of log = log.length / 4096

abbrev pub sector_in : Extent → ℕ → Extent
sector_in log k = record { offset = log.offset + 4096 * k; length = 4096 }

-- ---- what is wanted

abbrev pub wanted_in : Extent → Phase → Extent
wanted_in log (phase.Header s) = record { offset = finding.offset_of s; length = finding.size_of s }
wanted_in log (phase.Scan s) = sector_in log (scanning.wanted_of s)
wanted_in log (phase.Survey s) = sector_in log (touring.wanted_of s.tour)

abbrev pub wanted_of : Planner → Extent
wanted_of p = wanted_in p.context.log p.phase

-- ---- what is done

-- before the log is known
abbrev pub unknown : ℕ → ℕ → Context
unknown n capacity = record { length = n; capacity = capacity; log = nowhere; guid = record { low = 0; high = 0 } }

-- 6 to 8
abbrev pub judged : Context → Sequence → Report → Outcome
judged c q r =
    check (nat_le r.flushed c.length) (Err ShorterThanFlushed)
    (check (not r.found.lies) (Err ForbiddenSector)
    (check (nat_le (max c.length (max r.last r.found.end)) c.capacity && nat_le (max c.length (max r.last r.found.end)) length_limit) (Err FinalLength)
    (Ok
    (record { length = max c.length (max r.last r.found.end); count = r.found.count; log = c.log; start = q.start; left = q.more + 1 }))))

abbrev pub toured : Context → Sequence → touring.Step → Step
toured c q (Continue t) = Continue (record { context = c; phase = phase.Survey (record { found = q; tour = t }) })
toured c q (Break (Some r)) = Break (judged c q r)
toured c q (Break None) = Break (Err NoLogSequence)

abbrev pub sought : Context → Option Sequence → Step
sought c None = Break (Err NoLogSequence)
sought c (Some q) =
    check (nat_lt q.start (sectors_of c.log) && nat_lt q.more (sectors_of c.log)) (Break (Err NoLogSequence))
    (toured c q (touring.started (record { at = q.start; len = sectors_of c.log }) q.more))

abbrev pub scanned : Context → scanning.Step → Step
scanned c (Continue s) = Continue (record { context = c; phase = phase.Scan s })
scanned c (Break q) = sought c q

-- 8 still applies to the length itself
abbrev pub without_log : Context → Outcome
without_log c =
    check (nat_le c.length c.capacity && nat_le c.length length_limit) (Err FinalLength) (Ok (record { length = c.length; count = 0; log = c.log; start = 0; left = 0 }))

abbrev pub with_log : Context → Step
with_log c =
    cond (nat_eq c.guid.low 0 && nat_eq c.guid.high 0)
    (Break (without_log c))
    (scanned c (scanning.resumed (sectors_of c.log) 0 fresh))

abbrev pub context_of : ℕ → ℕ → Header → Context
context_of n capacity h = record { length = n; capacity = capacity; log = record { offset = h.log_offset; length = h.log_length }; guid = h.log_guid }

abbrev pub with_header : ℕ → ℕ → Header → Step
with_header n capacity h =
    check (nat_lt h.log_length 4294967296 && inside h.log_offset h.log_length n) (Break (Err HeaderField)) (with_log (context_of n capacity h))

abbrev pub answered : ℕ → ℕ → Result Header Refusal → Step
answered n capacity (Err r) = Break (Err r)
answered n capacity (Ok h) = with_header n capacity h

abbrev pub headed : ℕ → ℕ → finding.Step → Step
headed n capacity (Continue s) = Continue (record { context = unknown n capacity; phase = phase.Header s })
headed n capacity (Break a) = answered n capacity a

abbrev pub started : ℕ → ℕ → Step
started n capacity = headed n capacity (finding.started n capacity)

abbrev pub step_in : Context → Phase → List ℕ → Step
step_in c (phase.Header s) p = headed c.length c.capacity (finding.step_of c.length s p)
step_in c (phase.Scan s) p = scanned c (scanning.step_of c.guid s p)
step_in c (phase.Survey s) p = toured c s.found (touring.step_of c.log s.tour p)

unfoldable pub step_of : Planner → List ℕ → Step
step_of x p = step_in x.context x.phase p

-- ---- what a planner keeps to, whatever is fed

pub record Bounded (c : Context) : Type 0 where
  pub short : c.log.length < 4294967296
  pub inside : c.log.offset + c.log.length ≤ c.length
  pub few : c.length < 18446744073709551616

abbrev pub SaneIn : Context → Phase → Type 0
SaneIn c (phase.Header s) = (1048576 ≤ c.length) × (c.length < 18446744073709551616)
SaneIn c (phase.Scan s) = Bounded c × scanning.Sane s × (s.place.pos.len ≡ sectors_of c.log)
SaneIn c (phase.Survey s) =
    Bounded c × touring.Sane s.tour × (s.tour.pos.len ≡ sectors_of c.log) × (s.found.start < sectors_of c.log) × (s.found.more < sectors_of c.log)

abbrev pub Sane : Planner → Type 0
Sane p = SaneIn p.context p.phase

-- an order of work on a file of n bytes
pub record OrderFor (n : ℕ) (w : Order) : Type 0 where
  pub longer : n ≤ w.length
  pub limited : w.length ≤ length_limit
  pub short : w.log.length < 4294967296
  pub inside : w.log.offset + w.log.length ≤ n
  pub left : w.left ≤ sectors_of w.log
  pub start : 0 < w.left → w.start < sectors_of w.log

abbrev pub Ordered : ℕ → Outcome → Type 0
Ordered n (Err r) = Unit {0}
Ordered n (Ok w) = OrderFor n w

-- it may be fed again, for a file of the same length; or what it ordered can be done
abbrev pub Kept : ℕ → Step → Type 0
Kept n (Continue p) = Sane p × (p.context.length ≡ n)
Kept n (Break o) = Ordered n o

-- ---- how many pieces it still asks for, at most

abbrev pub headers_left : Stage → ℕ
headers_left stage.Identifier = 3
headers_left stage.First = 2
headers_left (stage.Second c) = 1

-- of a log of fewer than 2^20 sectors
abbrev pub scan_most : ℕ
scan_most = 2097152 * 1048576

abbrev pub survey_most : ℕ
survey_most = 1048576 * 1048576

abbrev pub plan_most : ℕ
plan_most = 3 + scan_most + survey_most

abbrev pub left_in : Phase → ℕ
left_in (phase.Header s) = headers_left s + scan_most + survey_most
left_in (phase.Scan s) = scanning.left_of (Continue s) + survey_most
left_in (phase.Survey s) = touring.left_of (Continue s.tour)

abbrev pub left_of : Step → ℕ
left_of (Continue p) = left_in p.phase
left_of (Break o) = 0

-- ---- the theorems

-- whatever is fed, it may be fed again and asks for less, or has ended with what can be done
abbrev pub PlanAdvances : Type 0
PlanAdvances = (x : Planner) (p : List ℕ) → Sane x → Kept x.context.length (step_of x p) × (left_of (step_of x p) < left_of (Continue x))

-- at the start
abbrev pub PlanStarts : Type 0
PlanStarts = (n capacity : ℕ) → n < 18446744073709551616 → Kept n (started n capacity) × (left_of (started n capacity) ≤ plan_most)

-- what is wanted: 1 to 65,536 bytes of the file
abbrev pub PlanWants : Type 0
PlanWants =
    (x : Planner) → Sane x
    → (1 ≤ (wanted_of x).length) × ((wanted_of x).length ≤ 65536) × ((wanted_of x).offset + (wanted_of x).length ≤ x.context.length)

-- a refusal has a number of 1 to 8
abbrev pub NumberedIn : Outcome → Type 0
NumberedIn (Err r) = (1 ≤ number r) × (number r ≤ 8)
NumberedIn (Ok w) = Unit {0}

abbrev pub Numbered : Step → Type 0
Numbered (Continue p) = Unit {0}
Numbered (Break o) = NumberedIn o

abbrev pub PlanRefuses : Type 0
PlanRefuses = ((n capacity : ℕ) → Numbered (started n capacity)) × ((x : Planner) (p : List ℕ) → Numbered (step_of x p))

-- fed the bytes of b that it wants, all of them among its first n and at most 64 KiB at once, it ends with this outcome
pub data Plans (b : List ℕ) (n : ℕ) : Step → Outcome → Type 0 where
  stop : {o : Outcome} → Plans b n (Break o) o
  next : {p : Planner} {o : Outcome} → p.context.length ≡ n → (wanted_of p).offset + (wanted_of p).length ≤ n → (wanted_of p).length ≤ 65536
      → Plans b n (step_of p (part b (wanted_of p))) o → Plans b n (Continue p) o

-- the plan that an outcome is, the log's bytes being these
abbrev pub plan_in : List ℕ → Outcome → Plan
plan_in log (Err r) = refused (number r)
plan_in log (Ok w) = apply w.length (sectors (descriptors_on log w.start 0 w.left))

abbrev pub count_of : Outcome → ℕ
count_of (Err r) = 0
count_of (Ok w) = w.count

-- what is known of an order where it is the plan: the log is where it says, its entries can be walked, no sector lies in the first MiB
-- or the log, none ends above the final length
pub record Walks (n : ℕ) (b log : List ℕ) (w : Order) : Type 0 where
  pub inside : w.log.offset + w.log.length ≤ n
  pub log_is : part b w.log ≡ log
  pub whole : length log ≡ sectors_of w.log * 4096
  pub start : w.start < sectors_of w.log
  pub readable : AllReadable log w.start w.left
  pub bounded : furthest (descriptors_on log w.start 0 w.left) ≤ w.length
  pub apart : some_lies w.log (sectors (descriptors_on log w.start 0 w.left)) ≡ false

abbrev pub WalksIn : ℕ → List ℕ → List ℕ → Outcome → Type 0
WalksIn n b log (Err r) = Unit {0}
WalksIn n b log (Ok w) = 0 < w.left → Walks n b log w

-- an outcome is the plan of the image that is the first n bytes of b
pub record Decides (b : List ℕ) (n : ℕ) (o : Outcome) : Type 0 where
  pub same : plan_in (log_of b n) o ≡ plan b n
  pub counted : count_of o ≡ count (plan b n)
  pub walks : WalksIn n b (log_of b n) o

-- of a file of n bytes that is the beginning of a buffer, whose length is the capacity
abbrev pub PlansAll : Type 0
PlansAll = (b : List ℕ) (n : ℕ) → (o : Outcome) × Plans b n (started n (length b)) o × Decides b n o
