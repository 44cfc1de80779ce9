-- Closing, from what its parts promise: a refusal, and planned work that is done with or without the header behind it.
-- Assumes nothing.
use mathlib.Core.Path.{◌≡◌, refl, sym, ap, ap₂, subst, ◌∙◌}
use mathlib.Core.Bool.{Bool, true, false, cond}
use mathlib.Core.List.{List, [], ◌∷◌, ◌++◌}
use mathlib.Core.Logic.{inl, inr, ⊎_elim}
use Prim.Native.Nat.{ℕ, ◌+◌, ◌<◌}
use native.Mathlib.Omega.{arith}
use lib.Dec.{eqb, ltb}
use lib.ListN.{take}
use borrow.Author.Tests.{ltb-true}
use Rattle.std.specs.Prelude.{Result, Ok, Err}
use Rattle.decision.specs.declared.Refusal.{Refusal}
use Rattle.decision.specs.declared.Refusal.TheVariants.{SequenceNumberSpent}
use Rattle.decision.specs.Refusal.{number as number_of, check}
use Rattle.field.specs.Fields.{number}
use Rattle.vhdx_header.specs.Header.{sequence_number_of}
use Rattle.vhdx_header.specs.declared.Header.{Header}
use Rattle.vhdx_header.specs.Current.{header_at, first_mib, current_header, other_slot}
use Rattle.vhdx_header.proofs.Laws.{accepted}
use Rattle.vhdx_header.proofs.Standing.{standing}
use Rattle.vhdx_walk.specs.Entries.{Sector}
use Rattle.vhdx_log.specs.Work.{Plan, refused, apply}
use Rattle.vhdx_log.specs.Plan.{plan, plan_header}
use Rattle.vhdx_steps.specs.Buffer.{put}
use Rattle.vhdx_steps.specs.Steps.{File, grow, run, runs, steps}
use Rattle.vhdx_steps.specs.Calls.{file}
use Rattle.vhdx_replay.proofs.Applying.{planned, plan-is}
use Rattle.vhdx_replay.proofs.Done.{done, same-buffer, long, same_start}
use Rattle.vhdx_close.specs.declared.Job.{Job}
use Rattle.vhdx_rewrite.specs.Rewrite.{greatest, closed_header}
use Rattle.vhdx_close_steps.specs.Close.{slot_in, header_sector, with_header, closing, close_plan, after_close}
use Rattle.vhdx_rewrite.specs.Writing.{Closable, header_written}
use Rattle.vhdx_close.specs.Deciding.{ending_of, Doable}
use Rattle.vhdx_close_steps.proofs.Order.{runs-snoc}

-- ---- what is decided

-- the plan by what comes behind the last sector
plan_behind : Result Bool Refusal → Plan → Sector → Plan
plan_behind e (refused n) c = refused n
plan_behind (Err r) (apply m ss) c = refused (number_of r)
plan_behind (Ok false) (apply m ss) c = apply m ss
plan_behind (Ok true) (apply m ss) c = apply m (ss ++ (c ∷ []))

behind : (h : Header) (c : Sector) (p : Plan) → with_header h c p ≡ plan_behind (ending_of h) p c
unfolding plan_behind
behind h c (refused n) = refl
behind h c (apply m ss) = go (eqb (number h.log_guid) 0) (ltb h.sequence_number greatest)
  where
    go : (s t : Bool) → cond s (apply m ss) (check t (refused 23) (apply m (ss ++ (c ∷ [])))) ≡ plan_behind (cond s (Ok false) (cond t (Ok true) (Err SequenceNumberSpent))) (apply m ss) c
    go true t = refl
    go false true = refl
    go false false = refl

module _ (identifier b : List ℕ) (n : ℕ) where
  pub no_header : {r : Refusal} → Err r ≡ current_header b n → refused (number_of r) ≡ close_plan identifier (file b n)
  unfolding close_plan plan plan_header
  no_header e = ap (λ (a : Result Header Refusal). closing a identifier (file b n) (plan_header a b n)) e

  module _ (h : Header) (k : current_header b n ≡ Ok h) where
    closes_by : close_plan identifier (file b n) ≡ plan_behind (ending_of h) (plan b n) (header_sector identifier (file b n) h)
    unfolding close_plan
    closes_by = ap (λ (a : Result Header Refusal). closing a identifier (file b n) (plan b n)) k ∙ behind h (header_sector identifier (file b n) h) (plan b n)

    pub no-plan : {c : ℕ} → refused c ≡ plan b n → refused c ≡ close_plan identifier (file b n)
    unfolding plan_behind
    no-plan {c} e = sym (closes_by ∙ ap (λ (p : Plan). plan_behind (ending_of h) p (header_sector identifier (file b n) h)) (sym e) ∙ go (ending_of h))
      where
        go : (x : Result Bool Refusal) → plan_behind x (refused c) (header_sector identifier (file b n) h) ≡ refused c
        go (Err r) = refl
        go (Ok false) = refl
        go (Ok true) = refl

    pub too-great : {m : ℕ} {ss : List Sector} {r : Refusal} → plan b n ≡ apply m ss → Err r ≡ ending_of h → refused (number_of r) ≡ close_plan identifier (file b n)
    unfolding plan_behind
    too-great e x = sym (closes_by ∙ ap₂ (λ (y : Result Bool Refusal) (p : Plan). plan_behind y p (header_sector identifier (file b n) h)) (sym x) e)

-- ---- the work, done

module _ (identifier b : List ℕ) (n : ℕ) (job : Job) (d : Doable b n job) where
  pub ss : List Sector
  ss = planned b job.log job.work

  unfoldable pub c : Sector
  c = header_sector identifier (file b n) d.header

  pub log-plan : plan b n ≡ apply job.work.length ss
  unfolding ss
  log-plan = plan-is b n job.log job.work d.planned

  pub plain-plan : job.rewrite ≡ false → close_plan identifier (file b n) ≡ plan b n
  unfolding plan_behind
  plain-plan r =
      closes_by identifier b n d.header d.current
      ∙ ap₂ (λ (x : Result Bool Refusal) (p : Plan). plan_behind x p (header_sector identifier (file b n) d.header)) (d.ends ∙ ap Ok r) log-plan
      ∙ sym log-plan

  pub header-plan : job.rewrite ≡ true → close_plan identifier (file b n) ≡ apply job.work.length (ss ++ (c ∷ []))
  unfolding plan_behind c
  header-plan r =
      closes_by identifier b n d.header d.current
      ∙ ap₂ (λ (x : Result Bool Refusal) (p : Plan). plan_behind x p (header_sector identifier (file b n) d.header)) (d.ends ∙ ap Ok r) log-plan

  pub below : job.rewrite ≡ true → sequence_number_of (slot_in (file b n) d.header.slot) < greatest
  below r = go (eqb (number d.header.log_guid) 0) (ltb d.header.sequence_number greatest) refl (d.ends ∙ ap Ok r)
    where
      go : (s t : Bool) → ltb d.header.sequence_number greatest ≡ t → cond s (Ok false) (cond t (Ok true) (Err SequenceNumberSpent)) ≡ Ok true → sequence_number_of (slot_in (file b n) d.header.slot) < greatest
      go true t e x = let z : ◌≡◌ {A = ℕ} 0 1 = cc in absurd (omega arith)
      go false false e x = let z : ◌≡◌ {A = ℕ} 0 1 = cc in absurd (omega arith)
      go false true e x =
          omega (arith, ap (λ (y : Header). y.sequence_number) (standing b n d.current).same, ltb-true d.header.sequence_number greatest e)

  -- before the work, and after it
  pub closable-before : job.rewrite ≡ true → Closable b job.slot
  closable-before r =
      record {
        large = omega (arith, (accepted b n d.current).holds_first, (accepted b n d.current).fits);
        placed = ⊎_elim (λ x. inl (d.slot_is ∙ x.0)) (λ x. inr (d.slot_is ∙ x.0)) (standing b n d.current).slots;
        below = subst (λ (s : ℕ). sequence_number_of (header_at (first_mib b) s) < greatest) (sym d.slot_is) (below r);
      }

  module _ (g : List ℕ) (did : g ≡ (runs (take (job.work.count + 1) (steps (plan b n))) (file b n)).buffer) where
    first-same : first_mib g ≡ first_mib b
    first-same = same_start b n job.log job.work d.planned g did

    pub done_plain : job.rewrite ≡ false → g ≡ (after_close identifier (file b n)).buffer
    unfolding after_close
    done_plain r = done b n job.log job.work d.planned g did ∙ ap (λ (p : Plan). (runs (steps p) (file b n)).buffer) (sym (plain-plan r))

    pub closable : job.rewrite ≡ true → Closable g job.slot
    closable r =
        let before = closable-before r in
        record {
          large = omega (arith, before.large, long b n job.log job.work d.planned g did);
          placed = before.placed;
          below = subst (λ (m : List ℕ). sequence_number_of (header_at m job.slot) < greatest) (sym first-same) before.below;
        }

    pub done-header : (g' : List ℕ) → job.rewrite ≡ true → g' ≡ header_written g job.slot identifier → g' ≡ (after_close identifier (file b n)).buffer
    unfolding after_close header_written c ss
    done-header g' r e =
        e
        ∙ ap (λ (m : List ℕ). put g (other_slot job.slot) (closed_header (header_at m job.slot) identifier)) first-same
        ∙ ap (λ (s : ℕ). put g (other_slot s) (closed_header (header_at (first_mib b) s) identifier)) d.slot_is
        ∙ ap (λ (x : List ℕ). put x (other_slot d.header.slot) (closed_header (header_at (first_mib b) d.header.slot) identifier)) (same-buffer b n job.log job.work d.planned g did)
        ∙ ap (λ (f : File). f.buffer) (sym (runs-snoc ss c (run (grow job.work.length) (file b n))))
        ∙ ap (λ (p : Plan). (runs (steps p) (file b n)).buffer) (sym (header-plan r))
