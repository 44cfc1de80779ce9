-- What a planner asks for lies in the file, and its refusals are 1 to 8.
-- Assumes nothing.
use mathlib.Core.Bool.{not, ◌&&◌}
use mathlib.Core.List.{List}
use Prim.Native.Nat.{ℕ, ◌+◌, ◌*◌, ◌/◌, ◌≤◌, ◌<◌, max}
use native.Mathlib.Nat.{mod-lt}
use native.Mathlib.Omega.{arith}
use lib.Dec.{eqb, leb, ltb, lit≤}
use Rattle.std.specs.Prelude.{Option, None, Some, Result, Ok, Err}
use Rattle.std.specs.declared.ops.ControlFlow.TheVariants.{Continue, Break}
use Rattle.decision.specs.declared.Refusal.{Refusal}
use Rattle.decision.specs.Refusal.{number}
use Rattle.extent.specs.Extent.{mib, inside}
use Rattle.field.specs.Fields.{starts}
use Rattle.vhdx_header.specs.declared.choice.Slot.{Slot}
use Rattle.vhdx_header.specs.declared.choice.Slot.TheVariants as slot
use Rattle.vhdx_header.specs.declared.Header.{Header}
use Rattle.vhdx_header.specs.Header.{inside_rule}
use Rattle.vhdx_header.specs.Current.{vhdxfile, slot2, chosen_slot, within_image}
use Rattle.vhdx_sequence.specs.declared.Sequence.{Sequence}
use Rattle.vhdx_sequence.specs.Scan.{fresh}
use Rattle.vhdx_walk.specs.Entries.{length_limit}
use Rattle.vhdx_pieces_header.specs.declared.Candidate.{Candidate}
use Rattle.vhdx_pieces_header.specs.declared.Stage.{Stage}
use Rattle.vhdx_pieces_header.specs.declared.Stage.TheVariants as stage
use Rattle.vhdx_pieces_header.specs.Finding as finding
use Rattle.vhdx_pieces_entry.proofs.Laws.{chosen}
use Rattle.vhdx_pieces_scan.specs.declared.Stage as scan
use Rattle.vhdx_pieces_scan.specs.declared.Stage.TheVariants as scan_stage
use Rattle.vhdx_pieces_scan.specs.declared.Scanner.{Scanner}
use Rattle.vhdx_pieces_scan.specs.Scanning as scans
use Rattle.vhdx_pieces_scan.proofs.Turns.{on-ring}
use Rattle.vhdx_pieces_survey.specs.declared.Report.{Report}
use Rattle.vhdx_pieces_survey.specs.Touring as touring
use Rattle.vhdx_pieces_plan.specs.declared.Context.{Context}
use Rattle.vhdx_pieces_plan.specs.declared.Phase.{Phase}
use Rattle.vhdx_pieces_plan.specs.declared.Phase.TheVariants as phase
use Rattle.vhdx_pieces_plan.specs.declared.Planner.{Planner}
use Rattle.vhdx_pieces_plan.specs.Planning.{sectors_of, wanted_in, judged, toured, sought, scanned, with_log, context_of, answered, headed, step_in, step_of, Bounded, SaneIn, NumberedIn, Numbered, PlanWants, PlanRefuses}
use Rattle.vhdx_pieces_plan.proofs.Advancing.{checked}

-- ---- what is wanted

scan-wants : (s : Scanner) → scans.Sane s → scans.wanted_of s < s.place.pos.len
scan-wants s h = go s.stage h.staged
  where
    on : s.place.pos.at < s.place.pos.len
    on = on-ring h.upright

    go : (x : scan.Stage) → scans.Staged s.place.pos.len x → scans.wanted_in s.place.pos.len s.place.pos.at x < s.place.pos.len
    go scan_stage.First k = on
    go (scan_stage.Inside x) k = mod-lt _ (omega (arith, on))
    go (scan_stage.Tail e) k = k.2

header-wants : (s : Stage) → (1 ≤ finding.size_of s) × (finding.size_of s ≤ 65536) × (finding.offset_of s + finding.size_of s ≤ 1048576)
header-wants stage.Identifier = (lit≤ tt, lit≤ tt, lit≤ tt)
header-wants stage.First = (lit≤ tt, lit≤ tt, lit≤ tt)
header-wants (stage.Second c) = (lit≤ tt, lit≤ tt, lit≤ tt)

-- a sector of the log
sector-inside : (c : Context) (k : ℕ) → Bounded c → k < sectors_of c.log → c.log.offset + 4096 * k + 4096 ≤ c.length
sector-inside c k b l = let l2 : k < c.log.length / 4096 = l in omega (arith, b.inside)

wants-in : (c : Context) (x : Phase) → SaneIn c x
    → (1 ≤ (wanted_in c.log x).length) × ((wanted_in c.log x).length ≤ 65536) × ((wanted_in c.log x).offset + (wanted_in c.log x).length ≤ c.length)
wants-in c (phase.Header s) h = ((header-wants s).0, (header-wants s).1, omega (arith, (header-wants s).2, h.0))
wants-in c (phase.Scan s) h =
    (lit≤ tt, lit≤ tt, sector-inside c (scans.wanted_of s) h.0 (omega (arith, scan-wants s h.1, h.2)))
wants-in c (phase.Survey s) h =
    let t = s.tour in
    let l : touring.wanted_of t < t.pos.len = mod-lt _ (omega (arith, h.1.standing.on)) in
    (lit≤ tt, lit≤ tt, sector-inside c (touring.wanted_of t) h.0 (omega (arith, l, h.2)))

pub plan-wants : PlanWants
plan-wants x h = wants-in x.context x.phase h

-- ---- the numbers of refusals

module _ (c : Context) where
  judged-so : (q : Sequence) (r : Report) → NumberedIn (judged c q r)
  judged-so q r =
      let m = max c.length (max r.last r.found.end) in
      checked NumberedIn (leb r.flushed c.length) _ _ (lit≤ tt, lit≤ tt)
      (λ _. checked NumberedIn (not r.found.lies) _ _ (lit≤ tt, lit≤ tt)
      (λ _. checked NumberedIn (leb m c.capacity && leb m length_limit) _ _ (lit≤ tt, lit≤ tt) (λ _. tt)))

  toured-so : (q : Sequence) (r : touring.Step) → Numbered (toured c q r)
  toured-so q (Continue t) = tt
  toured-so q (Break (Some r)) = judged-so q r
  toured-so q (Break None) = (lit≤ tt, lit≤ tt)

  sought-so : (q : Option Sequence) → Numbered (sought c q)
  sought-so None = (lit≤ tt, lit≤ tt)
  sought-so (Some q) =
      let n = sectors_of c.log in
      checked Numbered (ltb q.start n && ltb q.more n) _ _ (lit≤ tt, lit≤ tt)
      (λ _. toured-so q (touring.started (record { at = q.start; len = n }) q.more))

  scanned-so : (r : scans.Step) → Numbered (scanned c r)
  scanned-so (Continue s) = tt
  scanned-so (Break q) = sought-so q

  log-so : Numbered (with_log c)
  log-so =
      chosen Numbered (eqb c.guid.low 0 && eqb c.guid.high 0) _ _
      (λ _. checked NumberedIn (leb c.length c.capacity && leb c.length length_limit) _ _ (lit≤ tt, lit≤ tt) (λ _. tt))
      (λ _. scanned-so (scans.resumed (sectors_of c.log) 0 fresh))

-- a header's answer
abbrev Told : Result Header Refusal → Type 0
Told (Err r) = (1 ≤ number r) × (number r ≤ 8)
Told (Ok h) = Unit {0}

chosen-so : (s : Option Slot) (a b : Candidate) → Told (finding.chosen_by s a b)
chosen-so None a b = (lit≤ tt, lit≤ tt)
chosen-so (Some slot.First) a b = checked Told a.rules _ _ (lit≤ tt, lit≤ tt) (λ _. tt)
chosen-so (Some slot.Second) a b = checked Told b.rules _ _ (lit≤ tt, lit≤ tt) (λ _. tt)

within-so : (n : ℕ) (a : Result Header Refusal) → Told a → Told (within_image n a)
within-so n (Err r) h = h
within-so n (Ok x) h = checked Told (inside_rule x n) _ _ (lit≤ tt, lit≤ tt) (λ _. tt)

module _ (n capacity : ℕ) where
  answered-so : (a : Result Header Refusal) → Told a → Numbered (answered n capacity a)
  answered-so (Err r) h = h
  answered-so (Ok x) h =
      checked Numbered (ltb x.log_length 4294967296 && inside x.log_offset x.log_length n) _ _ (lit≤ tt, lit≤ tt)
      (λ _. log-so (context_of n capacity x))

  headed-so : (s : Stage) (p : List ℕ) → Numbered (headed n capacity (finding.step_of n s p))
  unfolding finding.step_of
  headed-so stage.Identifier p = checked (λ (r : finding.Step). Numbered (headed n capacity r)) (starts p vhdxfile) _ _ (lit≤ tt, lit≤ tt) (λ _. tt)
  headed-so stage.First p = tt
  headed-so (stage.Second c) p =
      let a = finding.candidate_of slot2 p in
      answered-so (within_image n (finding.chosen c a))
      (within-so n (finding.chosen c a)
      (chosen-so (chosen_slot c.valid a.valid c.header.sequence_number a.header.sequence_number) c a))

  started-so : Numbered (headed n capacity (finding.started n capacity))
  started-so = checked (λ (r : finding.Step). Numbered (headed n capacity r)) (leb n capacity && leb mib n) _ _ (lit≤ tt, lit≤ tt) (λ _. tt)

step_so : (c : Context) (x : Phase) (p : List ℕ) → Numbered (step_in c x p)
step_so c (phase.Header s) p = headed-so c.length c.capacity s p
step_so c (phase.Scan s) p = scanned-so c (scans.step_of c.guid s p)
step_so c (phase.Survey s) p = toured-so c s.found (touring.step_of c.log s.tour p)

stepped-so : (x : Planner) (p : List ℕ) → Numbered (step_of x p)
unfolding step_of
stepped-so x p = step_so x.context x.phase p

pub plan-refuses : PlanRefuses
plan-refuses = (started-so, stepped-so)
