-- Fed a file faithfully, the planner ends with the plan of the whole-buffer form.
-- Assumes nothing.
use mathlib.Core.Path.{◌≡◌, refl, sym, ap, ◌∙◌, subst}
use mathlib.Core.Bool.{Bool, true, false, not, cond, ◌&&◌, and-eq-true_iff}
use mathlib.Core.List.{List, []}
use Prim.Native.Nat.{ℕ, ◌+◌, ◌*◌, ◌/◌, ◌%◌, ◌≤◌, ◌<◌, max}
use native.Mathlib.Numerals.{add-one}
use native.Mathlib.Omega.{arith}
use lib.Dec.{eqb, leb, ltb, lit≤}
use lib.ListN.{length, take, drop}
use lib.Seq.{drop-drop}
use borrow.Author.Tests.{leb-true, leb-false, le-leb, lt-ltb}
use Rattle.std.specs.Prelude.{Option, None, Some, Result, Ok, Err}
use Rattle.std.specs.declared.ops.ControlFlow.TheVariants.{Break}
use Rattle.decision.specs.declared.Refusal.{Refusal}
use Rattle.decision.specs.declared.Refusal.TheVariants.{NoLogSequence, ShorterThanFlushed, ForbiddenSector, FinalLength}
use Rattle.decision.specs.Refusal.{check, number}
use Rattle.extent.specs.declared.Extent.{Extent}
use Rattle.extent.specs.Extent.{part, mib}
use Rattle.vhdx_header.specs.declared.Header.{Header}
use Rattle.vhdx_header.specs.Current.{current_header}
use Rattle.vhdx_header.proofs.Laws.{accepted}
use Rattle.vhdx_entry.specs.Ring.{sector_count, sector_at}
use Rattle.vhdx_entry.proofs.Laws.{within-take}
use Rattle.vhdx_sequence.specs.declared.Sequence.{Sequence}
use Rattle.vhdx_sequence.specs.Sequence.{active_sequence}
use Rattle.vhdx_sequence.specs.Scan.{fresh}
use Rattle.vhdx_sequence.proofs.Laws as sequences
use Rattle.vhdx_walk.specs.Entries.{Descriptor, Entries, head, all_descriptors, sectors, furthest, length_limit}
use Rattle.vhdx_walk.specs.Bytes.{entries_from}
use Rattle.vhdx_walk.specs.Cursor.{descriptors_on, AllReadable, Walkable}
use Rattle.vhdx_walk.proofs.Chains.{walkable, first-descriptors, chain-descriptors}
use Rattle.vhdx_log.specs.Survey.{capped}
use Rattle.vhdx_log.specs.Work.{Plan, refused, apply, count, some_lies, apply_within, work}
use Rattle.vhdx_log.specs.Plan.{log_bytes, extent_of, plan_sequence, plan_log, plan_header, plan}
use Rattle.vhdx_log.specs.Answers.{log_of}
use Rattle.vhdx_log.proofs.Decisions.{refused-6, refused-7, refused-8, applied, exact-count, exact}
use Rattle.vhdx_log.proofs.Answering.{zero_number, log-length, plan-refused, log_is}
use Rattle.vhdx_pieces_header.specs.declared.Stage.{Stage}
use Rattle.vhdx_pieces_header.specs.declared.Stage.TheVariants as stage
use Rattle.vhdx_pieces_header.specs.Finding as finding
use Rattle.vhdx_pieces_header.proofs.Found.{finds-header}
use Rattle.vhdx_pieces_scan.specs.Scanning as scanning
use Rattle.vhdx_pieces_scan.proofs.Scanned.{scans-active}
use Rattle.vhdx_pieces_survey.specs.declared.Report.{Report}
use Rattle.vhdx_pieces_survey.specs.Touring as touring
use Rattle.vhdx_pieces_survey.proofs.Toured.{surveys-all}
use Rattle.vhdx_pieces_plan.specs.declared.Context.{Context}
use Rattle.vhdx_pieces_plan.specs.declared.Phase.TheVariants as phase
use Rattle.vhdx_pieces_plan.specs.declared.Order.{Order}
use Rattle.vhdx_pieces_plan.specs.Planning.{Outcome, Step, sectors_of, sector_in, unknown, judged, toured, sought, scanned, without_log, context_of, with_header, answered, headed, step_of, Plans, stop, next, plan_in, count_of, WalksIn, Decides, PlansAll}

-- ---- from a part's run to the planner's

size_small : (s : Stage) → finding.size_of s ≤ 4096
size_small stage.Identifier = lit≤ tt
size_small stage.First = lit≤ tt
size_small (stage.Second c) = lit≤ tt

module _ (b : List ℕ) (n : ℕ) where
  lift-header : (capacity : ℕ) {st : finding.Step} {a : Result Header Refusal} {o : Outcome} → finding.Finds b n st a → Plans b n (answered n capacity a) o → Plans b n (headed n capacity st) o
  unfolding step_of part
  lift-header capacity finding.stop h = h
  lift-header capacity {o = o} (finding.next {s} inside r) h =
      next {p = record { context = unknown n capacity; phase = phase.Header s }} {o = o} refl inside (omega (arith, size_small s)) (lift-header capacity r h)

  -- sector k of the log
  sector-part : (log : Extent) (k : ℕ) → k < sectors_of log → part b (sector_in log k) ≡ sector_at (part b log) k
  unfolding part sector_at
  sector-part log k h =
      sym
      (within-take 4096 (k * 4096) log.length (drop log.offset b) (omega arith)
      ∙ ap (take 4096) (drop-drop (k * 4096) log.offset b ∙ ap (λ (x : ℕ). drop x b) {x = log.offset + k * 4096} {y = log.offset + 4096 * k} (omega arith)))

  module _ (c : Context) (sized : c.length ≡ n) (inside : c.log.offset + c.log.length ≤ n) (whole : sector_count (part b c.log) ≡ sectors_of c.log) where
    fits : (k : ℕ) → k < sector_count (part b c.log) → (sector_in c.log k).offset + 4096 ≤ n
    fits k h = omega arith

    lift-scan : {st : scanning.Step} {q : Option Sequence} {o : Outcome} → scanning.Scans (part b c.log) c.guid st q → Plans b n (sought c q) o → Plans b n (scanned c st) o
    unfolding step_of
    lift-scan scanning.stop h = h
    lift-scan {o = o} (scanning.next {s} below r) h =
        next {p = record { context = c; phase = phase.Scan s }} {o = o} sized (fits (scanning.wanted_of s) below) (lit≤ tt)
        (subst (λ (x : List ℕ). Plans b n (scanned c (scanning.step_of c.guid s x)) o) (sym (sector-part c.log (scanning.wanted_of s) (omega arith))) (lift-scan r h))

    lift-survey : (q : Sequence) {st : touring.Step} {r : Report} {o : Outcome} → touring.Surveys (part b c.log) c.log st r → Plans b n (Break (judged c q r)) o → Plans b n (toured c q st) o
    unfolding step_of
    lift-survey q touring.stop h = h
    lift-survey q {o = o} (touring.next {t} below r) h =
        next {p = record { context = c; phase = phase.Survey (record { found = q; tour = t }) }} {o = o} sized (fits (touring.wanted_of t) below) (lit≤ tt)
        (subst (λ (x : List ℕ). Plans b n (toured c q (touring.step_of c.log t x)) o) (sym (sector-part c.log (touring.wanted_of t) (omega arith))) (lift-survey q r h))

-- ---- the decision

-- an outcome stands for a plan, the log's bytes being these
record Standing (n : ℕ) (b log : List ℕ) (o : Outcome) (p : Plan) : Type 0 where
  same : plan_in log o ≡ p
  counted : count_of o ≡ count p
  walks : WalksIn n b log o

refusal : (n : ℕ) (b log : List ℕ) {r : Refusal} {p : Plan} → refused (number r) ≡ p → Standing n b log (Err r) p
refusal n b log e = record { same = e; counted = ap count e; walks = tt }

module _ (b log : List ℕ) (c : Context) (q : Sequence) (w : Walkable log q.start q.more) (here : c.log.offset + c.log.length ≤ c.length) (log-here : part b c.log ≡ log) (sized : length log ≡ sectors_of c.log * 4096) where
  abbrev es : Entries
  es = entries_from log q.start q.more

  few : length (all_descriptors es) ≤ 2097152
  few = omega (arith, w.few, w.small, ap length (chain-descriptors log q.start q.more))

  abbrev final : ℕ
  final = max c.length (max (head es).last (capped (furthest (all_descriptors es))))

  abbrev order : Order
  order = record { length = final; count = capped (length (sectors (all_descriptors es))); log = c.log; start = q.start; left = q.more + 1 }

  module _ (flushed : (head es).flushed ≤ c.length) (apart : some_lies c.log (sectors (all_descriptors es)) ≡ false) where
    by_8 : (t : Bool) → (leb final c.capacity && leb final length_limit) ≡ t → Standing c.length b log (check t (Err FinalLength) (Ok order)) (work c.log es c.length c.capacity)
    by_8 false h = refusal c.length b log (refused-8 c.log es c.length c.capacity flushed apart final refl h)
    by_8 true h =
        let done = applied c.log es c.length c.capacity flushed apart final refl h in
        let all = first-descriptors log q.start q.more w in
        let l : final ≤ length_limit = leb-true final length_limit ((and-eq-true_iff (leb final c.capacity) (leb final length_limit)).0 h).1 in
        let x = (exact c.length (head es).last (furthest (all_descriptors es)) l).0 in
        record {
          same = ap (λ (ds : List Descriptor). apply final (sectors ds)) all ∙ done;
          counted = exact-count c.log es c.length c.capacity flushed apart final refl h few ∙ ap count done;
          walks = λ _.
              record {
                inside = here;
                log_is = log-here;
                whole = sized;
                start = omega (arith, w.start, sized);
                readable = subst (AllReadable log q.start) (sym (add-one q.more)) w.readable;
                bounded = omega (arith, x, ap furthest all);
                apart = ap (λ (ds : List Descriptor). some_lies c.log (sectors ds)) all ∙ apart;
              };
        }

  by-7 : (head es).flushed ≤ c.length → (t : Bool) → some_lies c.log (sectors (all_descriptors es)) ≡ t
      → Standing c.length b log (check (not t) (Err ForbiddenSector) (check (leb final c.capacity && leb final length_limit) (Err FinalLength) (Ok order))) (work c.log es c.length c.capacity)
  by-7 f true h = refusal c.length b log (refused-7 c.log es c.length c.capacity f h)
  by-7 f false h = by_8 f h (leb final c.capacity && leb final length_limit) refl

  by-6 : (t : Bool) → leb (head es).flushed c.length ≡ t
      → Standing c.length b log (check t (Err ShorterThanFlushed) (check (not (some_lies c.log (sectors (all_descriptors es)))) (Err ForbiddenSector) (check (leb final c.capacity && leb final length_limit) (Err FinalLength) (Ok order)))) (work c.log es c.length c.capacity)
  by-6 false h = refusal c.length b log (refused-6 c.log es c.length c.capacity (leb-false _ _ h))
  by-6 true h = by-7 (leb-true _ _ h) (some_lies c.log (sectors (all_descriptors es))) refl

  decided : Standing c.length b log (judged c q (touring.report_of log c.log q.start q.more)) (work c.log es c.length c.capacity)
  decided = by-6 (leb (head es).flushed c.length) refl

-- ---- the log of a header

module _ (b : List ℕ) (n : ℕ) (h : Header) (current : current_header b n ≡ Ok h) where
  abbrev context : Context
  context = context_of n (length b) h

  abbrev log : List ℕ
  log = part b context.log

  log-same : log_bytes h b ≡ log
  unfolding log_bytes part
  log-same = refl

  log-sized : length log ≡ h.log_length
  log-sized = sym (ap length log-same) ∙ log-length b n h current

  counts : sector_count log ≡ sectors_of context.log
  counts = ap (λ (x : ℕ). x / 4096) log-sized

  log-whole : length log % 4096 ≡ 0
  log-whole = let a = (accepted b n current).placed in omega (arith, a.length_whole, log-sized)

  log-small : length log ≤ 64 * mib
  log-small = let a = (accepted b n current).placed in omega (arith, a.limit, log-sized)

  inside : context.log.offset + context.log.length ≤ n
  inside = (accepted b n current).inside

  -- a result for a step, with the plan of this log
  abbrev Reached : Step → Plan → Type 0
  Reached s p = (o : Outcome) × Plans b n s o × Standing n b log o p

  after-scan : (x : Option Sequence) → active_sequence log h.log_guid ≡ x → Reached (sought context x) (plan_sequence (extent_of h) log n (length b) x)
  unfolding plan_sequence
  after-scan None e = (Err NoLogSequence, stop, refusal n b log refl)
  after-scan (Some q) e =
      let f = sequences.found log h.log_guid q log-whole e in
      let w = walkable log h.log_guid q.start q.more log-whole log-small f.0 f.1 f.2 in
      let s : q.start < sectors_of context.log = omega (arith, f.0, counts) in
      let k : q.more < sectors_of context.log = omega (arith, w.short, counts) in
      let runs = subst (λ (m : ℕ). touring.Surveys log context.log (touring.started (record { at = q.start; len = m }) q.more) (touring.report_of log context.log q.start q.more)) counts (surveys-all log context.log q.start q.more w) in (
        judged context q (touring.report_of log context.log q.start q.more),
        rw (lt-ltb q.start (sectors_of context.log) s, lt-ltb q.more (sectors_of context.log) k) (lift-survey b n context refl inside counts q runs stop),
        decided b log context q w inside refl (omega (arith, counts, log-whole)),
      )

  scans : scanning.Scans log h.log_guid (scanning.resumed (sectors_of context.log) 0 fresh) (active_sequence log h.log_guid)
  scans = subst (λ (m : ℕ). scanning.Scans log h.log_guid (scanning.resumed m 0 fresh) (active_sequence log h.log_guid)) counts (scans-active log h.log_guid log-whole (omega (arith, log-small)))

  without : (t : Bool) → (leb n (length b) && leb n length_limit) ≡ t
      → Standing n b log (check t (Err FinalLength) (Ok (record { length = n; count = 0; log = context.log; start = 0; left = 0 }))) (check t (refused 8) (apply n []))
  unfolding descriptors_on
  without true e = record { same = refl; counted = refl; walks = λ k. absurd (omega (arith, k)) }
  without false e = refusal n b log refl

  by-guid : (t : Bool) → (eqb h.log_guid.low 0 && eqb h.log_guid.high 0) ≡ t
      → Reached (cond t (Break (without_log context)) (scanned context (scanning.resumed (sectors_of context.log) 0 fresh)))
      (cond t (apply_within (length b) n []) (plan_sequence (extent_of h) log n (length b) (active_sequence log h.log_guid)))
  by-guid true e = (_, stop, without (leb n (length b) && leb n length_limit) refl)
  by-guid false e =
      let r = after-scan (active_sequence log h.log_guid) refl in
      (r.0, lift-scan b n context refl inside counts scans r.1, r.2)

  logs : log_of b n ≡ log
  logs = sym (log_is b n current) ∙ log-same

  plan-is : plan_log h log n (length b) ≡ plan b n
  unfolding plan plan_header
  plan-is = ap (λ (l : List ℕ). plan_log h l n (length b)) (sym log-same) ∙ sym (ap (λ (a : Result Header Refusal). plan_header a b n) current)

  decides : (o : Outcome) → Standing n b log o (plan_log h log n (length b)) → Decides b n o
  decides o s =
      record {
        same = ap (λ (l : List ℕ). plan_in l o) logs ∙ s.same ∙ plan-is;
        counted = s.counted ∙ ap count plan-is;
        walks = subst (λ (l : List ℕ). WalksIn n b l o) (sym logs) s.walks;
      }

  guarded : (ltb h.log_length 4294967296 && leb (h.log_offset + h.log_length) n) ≡ true
  guarded = let a = accepted b n current in rw (lt-ltb h.log_length 4294967296 (omega (arith, a.placed.limit)), le-leb (h.log_offset + h.log_length) n a.inside)

  with-header : (o : Outcome) × Plans b n (with_header n (length b) h) o × Decides b n o
  unfolding plan_log
  with-header =
      let r = by-guid (eqb h.log_guid.low 0 && eqb h.log_guid.high 0) refl in (
        r.0,
        rw guarded r.1,
        decides r.0
            (subst (λ (p : Plan). Standing n b log r.0 p) (ap (λ (t : Bool). cond t (apply_within (length b) n []) (plan_sequence (extent_of h) log n (length b) (active_sequence log h.log_guid))) (zero_number h.log_guid)) r.2),
      )

pub plans-all : PlansAll
plans-all b n = let r = go (current_header b n) refl in (r.0, lift-header b n (length b) (finds-header b n) r.1, r.2)
  where
    go : (a : Result Header Refusal) → current_header b n ≡ a → (o : Outcome) × Plans b n (answered n (length b) (current_header b n)) o × Decides b n o
    go (Err r) e =
        (Err r, rw e stop, record { same = plan-refused b n r e; counted = ap count (plan-refused b n r e); walks = tt })
    go (Ok h) e = let r = with-header b n h e in (r.0, rw e r.1, r.2)
