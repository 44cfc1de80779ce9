-- Demand 3 and power failures, proved: the plan is made again after every history of calls, the steps done again leave the same image,
-- and what is answered of it depends on nothing else.
-- Assumes nothing.
use mathlib.Core.Path.{◌≡◌, refl, sym, ap, subst, ◌∙◌}
use mathlib.Core.List.{List}
use mathlib.Core.Logic.{inl, inr}
use Rattle.std.specs.Prelude.{None, Ok}
use Prim.Native.Nat.{ℕ, ◌≤◌}
use native.Mathlib.Omega.{arith}
use lib.ListN.{length, take}
use Rattle.extent.specs.declared.Extent.{Extent}
use Rattle.extent.specs.Extent.{part}
use Rattle.vhdx_header.specs.declared.Header.{Header}
use Rattle.vhdx_header.specs.Current.{current_header}
use Rattle.vhdx_header.proofs.Laws.{accepted}
use Rattle.vhdx_walk.specs.Entries.{Sector}
use Rattle.vhdx_log.specs.Work.{Plan, refused, apply, sectors_planned}
use Rattle.vhdx_log.specs.Plan.{extent_of}
use Rattle.vhdx_steps.specs.Steps.{File, Named, runs, steps, single}
use Rattle.vhdx_steps.specs.Calls.{plan_of, attach, step}
use Rattle.vhdx_steps.specs.Failures.{Lost, original}
use Rattle.vhdx_replay.specs.Planned.{log_extent}
use Rattle.vhdx_replay.proofs.Applying.{extent-is}
use Rattle.vhdx_steps.proofs.Reading.{header_of, reads, same-part, same_first}
use Rattle.vhdx_steps.proofs.Restart.{whole, planned, untouched, same-file}
use Rattle.vhdx_steps.proofs.Losses.{same-capacity, as-history, left}
use Rattle.vhdx.specs.Attach.{Attached, image_of, after_attach, read, told, answer_by, attach_answer}
use Rattle.vhdx.specs.Step.{after_step}
use Rattle.vhdx.specs.Refusals.{refusal_of_plan}
use Rattle.vhdx.specs.CrashSafety.{PlannedExactlyThen, Restarts, CrashSafe, PowerSafe, RunToTheEnd}
use Rattle.vhdx.proofs.Refusals.{by-the-table}

applies : (p : Plan) → refusal_of_plan p ≡ None → (m : ℕ) × (ss : List Sector) × (p ≡ apply m ss)
applies (refused c) e = let z : ◌≡◌ {A = ℕ} 0 1 = cc in absurd (omega arith)
applies (apply m ss) e = (m, ss, refl)

-- what attach answers and leaves where the plan is this one
module _ (m : ℕ) (ss : List Sector) (f : File) (e : plan_of f ≡ apply m ss) where
  leaves : after_attach f ≡ runs (steps (apply m ss)) f
  unfolding after_attach
  leaves = ap (λ (p : Plan). runs (steps p) f) e

  answers : attach_answer f ≡ told (read (image_of (runs (steps (apply m ss)) f))) (runs (steps (apply m ss)) f).size (length ss)
  unfolding attach_answer after_attach
  answers = ap (λ (p : Plan). answer_by p (runs (steps p) f)) e

module _ (o f : File) (m : ℕ) (ss : List Sector) (e : plan_of o ≡ apply m ss) (h : Header) (k : current_header o.buffer o.size ≡ Ok h) (kept : Lost m ss o f) where
  again : plan_of f ≡ apply m ss
  again = planned (reads o h k e) kept

  same-image : ((runs (steps (apply m ss)) f).size ≡ (runs (steps (apply m ss)) o).size) × (image_of (runs (steps (apply m ss)) f) ≡ image_of (runs (steps (apply m ss)) o))
  same-image = same-file (reads o h k e) kept

  same_answer : attach_answer f ≡ attach_answer o
  same_answer =
      answers m ss f again
      ∙ ap (λ (i : List ℕ). told (read i) (runs (steps (apply m ss)) f).size (length ss)) same-image.1
      ∙ ap (λ (n : ℕ). told (read (image_of (runs (steps (apply m ss)) o))) n (length ss)) same-image.0
      ∙ sym (answers m ss o e)

  -- the image up to the answered length
  image-of : (g : File) → plan_of g ≡ apply m ss → take (attach_answer g).length (after_attach g).buffer ≡ image_of (runs (steps (apply m ss)) g)
  image-of g q =
      ap (λ (a : Attached). take a.length (after_attach g).buffer) (answers m ss g q)
      ∙ ap (λ (x : File). take (runs (steps (apply m ss)) g).size x.buffer) (leaves m ss g q)

  restarts : Restarts o f
  unfolding part
  restarts =
      let a = accepted o.buffer o.size k in
      let R = reads o h k e in
      let fits : m ≤ length f.buffer = kept.capacity R.fits in
      let log = log_extent o.buffer o.size in
      let here : log ≡ extent_of h = extent-is o.buffer o.size k in
      record {
        same_length = ap (λ (x : Attached). x.length) same_answer;
        same_bytes = image-of f again ∙ same-image.1 ∙ sym (image-of o e);
        same_count = ap (λ (x : Attached). x.count) same_answer;
        same_refusal = ap (λ (x : Attached). x.refusal) same_answer;
        same_facts = ap (λ (x : Attached). x.facts) same_answer;
        no_shorter = kept.from;
        same_elsewhere = λ i l n. kept.given i l (subst (λ (p : Plan). ¬ Named (sectors_planned p) i) e n);
        first_kept = same_first o.buffer f.buffer (omega (arith, a.holds_first, R.grows, fits)) (omega (arith, a.holds_first, a.fits)) (λ i l. untouched R kept i (inl l));
        log_kept = subst (λ (x : Extent). part f.buffer x ≡ part o.buffer x) (sym here)
            (same-part h.log_offset h.log_length o.buffer f.buffer (omega (arith, a.inside, R.grows, fits)) (omega (arith, a.inside, a.fits))
            (λ i from to. untouched R kept i (inr (from, to))));
      }

pub planned-exactly-then : PlannedExactlyThen
planned-exactly-then f = (λ x. sym (by-the-table f) ∙ ap refusal_of_plan x.2, λ a. applies (plan_of f) (by-the-table f ∙ a))

pub power-safe : PowerSafe
power-safe o d f a x =
    let p = (planned-exactly-then o).1 a in
    let h = header_of o.buffer o.size p.2 in
    restarts o f p.0 p.1 p.2 h.0 h.1 (left (reads o h.0 h.1 p.2) x).1

pub crash-safe : CrashSafe
crash-safe o f a cs = (same-capacity cs, power-safe o o f a (as-history original cs))

pub run-to-the-end : RunToTheEnd
unfolding after_attach after_step
run-to-the-end f = (attach (whole (steps (plan_of f)) f), λ k. step k (whole (single (plan_of f) k f.size) f))
