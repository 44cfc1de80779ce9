-- Whatever is fed, a planner keeps to its bounds, and asks for less.
-- Assumes nothing.
use mathlib.Core.Path.{◌≡◌, refl, subst}
use mathlib.Core.Bool.{Bool, true, false, not, ◌&&◌, and-eq-true_iff}
use mathlib.Core.List.{List}
use Prim.Native.Nat.{ℕ, ◌+◌, ◌*◌, ◌≤◌, ◌<◌, max}
use native.Mathlib.Nat.{mul-le-mul}
use native.Mathlib.Omega.{arith}
use lib.Dec.{eqb, leb, ltb}
use borrow.Author.Tests.{leb-true, ltb-true}
use Rattle.std.specs.Prelude.{Option, None, Some, Result, Ok, Err}
use Rattle.std.specs.declared.ops.ControlFlow.TheVariants.{Continue, Break}
use Rattle.decision.specs.declared.Refusal.{Refusal}
use Rattle.decision.specs.Refusal.{check}
use Rattle.extent.specs.Extent.{mib, inside}
use Rattle.field.specs.Fields.{starts}
use Rattle.vhdx_header.specs.Current.{vhdxfile, slot2, within_image}
use Rattle.vhdx_header.specs.declared.Header.{Header}
use Rattle.vhdx_entry.specs.declared.ring.RingPos.{RingPos}
use Rattle.vhdx_sequence.specs.declared.Sequence.{Sequence}
use Rattle.vhdx_sequence.specs.Scan.{fresh}
use Rattle.vhdx_walk.specs.Entries.{length_limit}
use Rattle.vhdx_pieces_header.specs.declared.Stage.{Stage}
use Rattle.vhdx_pieces_header.specs.declared.Stage.TheVariants as stage
use Rattle.vhdx_pieces_header.specs.Finding as finding
use Rattle.vhdx_pieces_entry.proofs.Laws.{chosen}
use Rattle.vhdx_pieces_scan.specs.Scanning as scanning
use Rattle.vhdx_pieces_scan.proofs.Advancing.{scan-advances, scan-starts}
use Rattle.vhdx_pieces_survey.specs.declared.Report.{Report}
use Rattle.vhdx_pieces_survey.specs.Touring as touring
use Rattle.vhdx_pieces_survey.proofs.Advancing.{survey-advances, survey-starts}
use Rattle.vhdx_pieces_plan.specs.declared.Context.{Context}
use Rattle.vhdx_pieces_plan.specs.declared.Phase.{Phase}
use Rattle.vhdx_pieces_plan.specs.declared.Phase.TheVariants as phase
use Rattle.vhdx_pieces_plan.specs.Planning.{Step, sectors_of, judged, toured, sought, scanned, with_log, context_of, answered, headed, step_in, step_of, Bounded, SaneIn, Ordered, Kept, scan_most, survey_most, plan_most, left_in, left_of, PlanAdvances, PlanStarts}

-- as `chosen`, of a test that refuses where it fails
pub checked : {A : Type 0} (P : A → Type 0) (b : Bool) (x y : A) → P x → (b ≡ true → P y) → P (check b x y)
checked P true x y f g = g refl
checked P false x y f g = f

-- for a file of n bytes it may be fed again, or what it ordered can be done, less than m being left
abbrev Below : ℕ → ℕ → Step → Type 0
Below n m r = Kept n r × (left_of r < m)

within : (n capacity : ℕ) → (leb n capacity && leb n length_limit) ≡ true → n ≤ length_limit
within n capacity h = leb-true n length_limit ((and-eq-true_iff (leb n capacity) (leb n length_limit)).0 h).1

few-sectors : (c : Context) → Bounded c → sectors_of c.log < 1048576
few-sectors c b = omega (arith, b.short)

module _ (c : Context) (b : Bounded c) where
  -- ---- the survey

  module _ (q : Sequence) (st : q.start < sectors_of c.log) (mo : q.more < sectors_of c.log) where
    ordered : (r : Report) → Ordered c.length (judged c q r)
    ordered r =
        let P = Ordered c.length in
        let m = max c.length (max r.last r.found.end) in
        checked P (leb r.flushed c.length) _ _ tt
        (λ _. checked P (not r.found.lies) _ _ tt
        (λ _. checked P (leb m c.capacity && leb m length_limit) _ _ tt
        (λ t. record { longer = omega arith; limited = within m c.capacity t; short = b.short; inside = b.inside; left = omega arith; start = λ _. st })))

    tours : (m : ℕ) (r : touring.Step) → touring.Onward (sectors_of c.log) r → touring.left_of r < m → Below c.length m (toured c q r)
    tours m (Continue t) o l = (((b, o.0, o.1, st, mo), refl), l)
    tours m (Break (Some r)) o l = (ordered r, l)
    tours m (Break None) o l = (tt, l)

  -- ---- the scan

  seeks : (m : ℕ) (q : Option Sequence) → 0 < m → Below c.length (m + survey_most) (sought c q)
  seeks m None p = (tt, omega arith)
  seeks m (Some q) p =
      let n = sectors_of c.log in
      checked (Below c.length (m + survey_most)) (ltb q.start n && ltb q.more n) _ _ (tt, omega arith)
      (λ t.
      let both = (and-eq-true_iff (ltb q.start n) (ltb q.more n)).0 t in
      let st : q.start < n = ltb-true _ _ both.0 in
      let mo : q.more < n = ltb-true _ _ both.1 in
      let pos : RingPos = record { at = q.start; len = n } in
      let h = survey-starts pos q.more st (few-sectors c b) mo in
      let most : n * n ≤ survey_most = mul-le-mul {n₂ = 1048576} {m₂ = 1048576} (omega (arith, few-sectors c b)) (omega (arith, few-sectors c b)) in
      tours q st mo (m + survey_most) (touring.started pos q.more) h.0 (omega (arith, h.1)))

  scans : (m : ℕ) (r : scanning.Step) → scanning.Onward (sectors_of c.log) r → scanning.left_of r < m → Below c.length (m + survey_most) (scanned c r)
  scans m (Continue s) o l = (((b, o.0, o.1), refl), omega arith)
  scans m (Break q) o l = seeks m q l

  -- ---- the header

  logs : Below c.length (1 + scan_most + survey_most) (with_log c)
  logs =
      let n = sectors_of c.log in
      chosen (Below c.length (1 + scan_most + survey_most)) (eqb c.guid.low 0 && eqb c.guid.high 0) _ _
      (λ _. (
        checked (Ordered c.length) (leb c.length c.capacity && leb c.length length_limit) _ _ tt
            (λ t. record {
              longer = omega arith;
              limited = within c.length c.capacity t;
              short = b.short;
              inside = b.inside;
              left = omega arith;
              start = λ k. absurd (omega (arith, k));
            }),
        omega arith,
      ))
      (λ _.
      let h = scan-starts n (few-sectors c b) in
      let most : (n + n) * (n + 1) ≤ scan_most = mul-le-mul {n₂ = 2097152} {m₂ = 1048576} (omega (arith, few-sectors c b)) (omega (arith, few-sectors c b)) in
      scans (1 + scan_most) (scanning.resumed n 0 fresh) h.0 (omega (arith, h.1)))

module _ (n capacity : ℕ) (few : n < 18446744073709551616) where
  answers : (a : Result Header Refusal) → Below n (1 + scan_most + survey_most) (answered n capacity a)
  answers (Err r) = (tt, omega arith)
  answers (Ok h) =
      checked (Below n (1 + scan_most + survey_most)) (ltb h.log_length 4294967296 && inside h.log_offset h.log_length n) _ _ (tt, omega arith)
      (λ t.
      let both = (and-eq-true_iff (ltb h.log_length 4294967296) (inside h.log_offset h.log_length n)).0 t in
      logs (context_of n capacity h) (record { short = ltb-true _ _ both.0; inside = leb-true _ _ both.1; few = few }))

  heads : 1048576 ≤ n → (s : Stage) (p : List ℕ) → Below n (left_in (phase.Header s)) (headed n capacity (finding.step_of n s p))
  unfolding finding.step_of
  heads long stage.Identifier p =
      checked (λ (r : finding.Step). Below n (left_in (phase.Header stage.Identifier)) (headed n capacity r)) (starts p vhdxfile) _ _ (tt, omega arith)
      (λ _. (((long, few), refl), omega arith))
  heads long stage.First p = (((long, few), refl), omega arith)
  heads long (stage.Second c) p = answers (within_image n (finding.chosen c (finding.candidate_of slot2 p)))

steps : (c : Context) (x : Phase) (p : List ℕ) → SaneIn c x → Below c.length (left_in x) (step_in c x p)
steps c (phase.Header s) p h = heads c.length c.capacity h.1 h.0 s p
steps c (phase.Scan s) p h =
    let r = scanning.step_of c.guid s p in
    let a = scan-advances c.guid s p h.1 in
    scans c h.0 (scanning.left_of (Continue s)) r (subst (λ (n : ℕ). scanning.Onward n r) h.2 a.0) a.1
steps c (phase.Survey s) p h =
    let r = touring.step_of c.log s.tour p in
    let a = survey-advances c.log s.tour p h.1 in
    tours c h.0 s.found h.3 h.4 (touring.left_of (Continue s.tour)) r (subst (λ (n : ℕ). touring.Onward n r) h.2 a.0) a.1

pub plan-advances : PlanAdvances
unfolding step_of
plan-advances x p h = steps x.context x.phase p h

pub plan-starts : PlanStarts
plan-starts n capacity few =
    checked (λ (r : finding.Step). Kept n (headed n capacity r) × (left_of (headed n capacity r) ≤ plan_most)) (leb n capacity && leb mib n) _ _ (tt, omega arith)
    (λ t. (((leb-true mib n ((and-eq-true_iff (leb n capacity) (leb mib n)).0 t).1, few), refl), omega arith))
