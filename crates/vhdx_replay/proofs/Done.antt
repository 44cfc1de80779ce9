-- Planned work that is done, as every call that replays a log needs it: what the plan's answer says, what the steps leave of the length,
-- the buffer and the first MiB.
-- Assumes nothing.
use mathlib.Core.Path.{◌≡◌, refl, sym, ap, subst, ◌∙◌}
use mathlib.Core.Bool.{Bool, true, false}
use mathlib.Core.List.{List, [], ◌∷◌, map}
use mathlib.Core.Logic.{inl}
use Prim.Native.Nat.{ℕ, zero, suc, ◌+◌, ◌≤◌}
use native.Mathlib.Omega.{arith}
use lib.Dec.{leb}
use lib.ListN.{length, take, get_or, get_elem?}
use Rattle.std.specs.Prelude.{Result, Ok, Err}
use Rattle.decision.specs.declared.Refusal.{Refusal}
use Rattle.decision.specs.Refusal.{number, refused as declined, answered, check}
use Rattle.extent.specs.declared.Extent.{Extent}
use Rattle.extent.specs.Extent.{mib}
use Rattle.vhdx_header.specs.Current.{first_mib}
use Rattle.vhdx_header.proofs.Laws.{accepted}
use Rattle.vhdx_walk.specs.Entries.{Sector}
use Rattle.vhdx_log.specs.declared.Work.{Work}
use Rattle.vhdx_log.specs.Work.{Plan, refused, apply, count}
use Rattle.vhdx_log.specs.Plan.{plan}
use Rattle.vhdx_log.specs.Answers.{log_of, plan_in, count_of, ReadyIn, plan_of}
use Rattle.vhdx_steps.specs.Buffer.{put, zeroed}
use Rattle.vhdx_steps.specs.Steps.{File, Step, write, end, runs, steps, admitted, steps_of}
use Rattle.vhdx_steps.specs.Calls.{file}
use Rattle.vhdx_replay.specs.Planned.{log_extent, Planned}
use Rattle.vhdx_replay.proofs.Applying.{planned, header, plan-is, known, all-steps}
use Rattle.vhdx_steps.proofs.Reading.{same_first, reads}
use Rattle.vhdx_steps.specs.Failures.{Lost}
use Rattle.vhdx_steps.proofs.Restart.{ran, whole, good, untouched}

-- ---- what the plan's answer says

module _ (b : List ℕ) (n : ℕ) (r : Result Work Refusal) (promised : (plan_of b n r ≡ plan b n) × ((count_of r ≡ count (plan b n)) × ReadyIn (log_of b n) r)) where
  pub plan-refused : {why : Refusal} → r ≡ Err why → refused (number why) ≡ plan b n
  plan-refused e = sym (ap (plan_in (log_of b n)) e) ∙ promised.0

  pub work-planned : {w : Work} → r ≡ Ok w → {log : Extent} → log ≡ log_extent b n → Planned b n log w
  work-planned e here =
      record {
        here = here;
        same = sym (ap (plan_in (log_of b n)) e) ∙ promised.0;
        counted = sym (ap count_of e) ∙ promised.1.0;
        ready = subst (ReadyIn (log_of b n)) e promised.1.1;
      }

-- ---- lengths

-- sectors that are written leave the length
pub written-size : (ss : List Sector) (f : File) → (runs (map write ss) f).size ≡ f.size
written-size [] f = refl
written-size (s ∷ ss) f = written-size ss (record { buffer = put f.buffer s.offset s.bytes; size = f.size })

-- so does a single one
pub admitted-size : (f : File) (size : ℕ) (ss : List Sector) (i : ℕ) → (runs (steps_of (admitted size (get_elem? (map write ss) i))) f).size ≡ f.size
admitted-size f size [] i = refl
admitted-size f size (s ∷ ss) zero = go (leb (end s) size)
  where
    go : (t : Bool) → (runs (steps_of (check t (declined 22) (answered (write s)))) f).size ≡ f.size
    go true = refl
    go false = refl
admitted-size f size (s ∷ ss) (suc i) = admitted-size f size ss i

-- ---- the work, done

module _ (b : List ℕ) (n : ℕ) (log : Extent) (w : Work) (p : Planned b n log w) where
  pub done-size : (runs (steps (apply w.length (planned b log w))) (file b n)).size ≡ w.length
  done-size = written-size (planned b log w) (record { buffer = zeroed b n w.length; size = w.length })

  kept : (length (runs (steps (apply w.length (planned b log w))) (file b n)).buffer ≡ length b)
      × Lost w.length (planned b log w) (file b n) (runs (steps (apply w.length (planned b log w))) (file b n))
  kept =
      let R = reads (file b n) (header b n log w p).0 (header b n log w p).1 (plan-is b n log w p) in
      ran w.length (planned b log w) (good R) R.grows R.fits (whole (steps (apply w.length (planned b log w))) (file b n))

  pub holds_first : mib ≤ w.length
  holds_first = omega (arith, (accepted b n (header b n log w p).1).holds_first, (known b n log w p).grows)

  -- g is the buffer as the code leaves it
  module _ (g : List ℕ) (did : g ≡ (runs (take (w.count + 1) (steps (plan b n))) (file b n)).buffer) where
    pub done : g ≡ (runs (steps (plan b n)) (file b n)).buffer
    done = did ∙ ap (λ (v : List Step). (runs v (file b n)).buffer) (all-steps b n log w p)

    pub same-buffer : g ≡ (runs (steps (apply w.length (planned b log w))) (file b n)).buffer
    same-buffer = done ∙ ap (λ (x : Plan). (runs (steps x) (file b n)).buffer) (plan-is b n log w p)

    pub long : length g ≡ length b
    long = ap length same-buffer ∙ kept.0

    pub fits : w.length ≤ length g
    fits = omega (arith, (known b n log w p).fits, long)

    pub same_start : first_mib g ≡ first_mib b
    same_start =
        let R = reads (file b n) (header b n log w p).0 (header b n log w p).1 (plan-is b n log w p) in
        same_first b g (omega (arith, holds_first, fits)) (omega (arith, holds_first, (known b n log w p).fits))
        (λ i l. ap (λ (x : List ℕ). get_or x i 0) same-buffer ∙ untouched R kept.1 i (inl l))
