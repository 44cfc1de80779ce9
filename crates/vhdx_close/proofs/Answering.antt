-- What closing and a single step of it answer, from what their parts promise.
-- Assumes nothing.
use mathlib.Core.Path.{◌≡◌, refl, sym, ap, ap₂, ◌∙◌}
use mathlib.Core.Bool.{Bool, true, false}
use mathlib.Core.List.{List, [], ◌∷◌, ◌++◌, map}
use mathlib.Core.Option.{none, some}
use Prim.Native.Nat.{ℕ, zero, suc, ◌+◌, ◌-◌, ◌≤◌, ◌<◌}
use native.Mathlib.Numerals.{add-one}
use native.Mathlib.Omega.{arith}
use lib.ListN.{length, take, get_elem?, length-append}
use borrow.Author.Tests.{le-leb}
use Rattle.decision.specs.Refusal.{Outcome, refused as declined, answered, check, refusal_of}
use Rattle.vhdx_header.specs.Current.{header_at, first_mib, other_slot}
use Rattle.vhdx_header.proofs.Laws.{accepted}
use Rattle.vhdx_header.proofs.Standing.{standing}
use Rattle.vhdx_walk.specs.Entries.{Sector}
use Rattle.vhdx_log.specs.Work.{Plan, refused, apply, count}
use Rattle.vhdx_log.specs.Plan.{plan}
use Rattle.vhdx_steps.specs.Buffer.{put}
use Rattle.vhdx_steps.specs.Steps.{Step, grow, write, run, runs, end, steps, admitted, chosen, steps_of, single}
use Rattle.vhdx_steps.specs.Calls.{file}
use Rattle.vhdx_close_steps.specs.Close.{Closed}
use Rattle.vhdx_steps.specs.Stepped.{Stepped}
use Rattle.vhdx_close.specs.declared.Job.{Job}
use Rattle.vhdx_rewrite.specs.Rewrite.{closed_header}
use Rattle.vhdx_close_steps.specs.Close.{close_plan, after_close, after_close_step, closed_by, close_answer, close_step_answer}
use Rattle.vhdx_rewrite.specs.Writing.{header_written}
use Rattle.vhdx_close.specs.Deciding.{Doable}
use Rattle.vhdx_replay.proofs.Done.{written-size, admitted-size}
use Rattle.vhdx_rewrite.proofs.Slots.{slots-low}
use Rattle.vhdx_close.proofs.Doing.{ss, c, log-plan, plain-plan, header-plan}

-- ---- lists of sectors

nth_left : (us : List Sector) (x : Sector) (i : ℕ) → i < length us → get_elem? (map write (us ++ (x ∷ []))) i ≡ get_elem? (map write us) i
nth_left [] x i h = absurd (omega arith)
nth_left (u ∷ us) x zero h = refl
nth_left (u ∷ us) x (suc i) h = nth_left us x i (omega arith)

nth_end : (us : List Sector) (x : Sector) (i : ℕ) → i ≡ length us → get_elem? (map write (us ++ (x ∷ []))) i ≡ some (write x)
nth_end [] x zero h = refl
nth_end [] x (suc i) h = absurd (omega arith)
nth_end (u ∷ us) x zero h = absurd (omega arith)
nth_end (u ∷ us) x (suc i) h = nth_end us x i (omega arith)

nth-none : (us : List Sector) (i : ℕ) → length us ≤ i → get_elem? (map write us) i ≡ none
nth-none [] i h = refl
nth-none (u ∷ us) zero h = absurd (omega arith)
nth-none (u ∷ us) (suc i) h = nth-none us i (omega arith)

-- ---- a refusal

module _ (identifier b : List ℕ) (n x : ℕ) (e : refused x ≡ close_plan identifier (file b n)) where
  pub refused-close : (◌≡◌ {A = Closed} (record { refusal = x; length = n; count = 0 }) (close_answer identifier (file b n))) × (b ≡ (after_close identifier (file b n)).buffer)
  unfolding close_answer after_close
  refused-close = (
    ap (λ (p : Plan). closed_by p (runs (steps p) (file b n)) (count (plan b n))) e,
    ap (λ (p : Plan). (runs (steps p) (file b n)).buffer) e,
  )

  pub refused-step : (k : ℕ) → (◌≡◌ {A = Stepped} (record { refusal = x; length = n }) (close_step_answer identifier k (file b n))) × (b ≡ (after_close_step identifier k (file b n)).buffer)
  unfolding close_step_answer after_close_step
  refused-step k = (
    ap (λ (p : Plan). says p) e,
    ap (λ (p : Plan). (runs (single p k n) (file b n)).buffer) e,
  )
    where
      says : Plan → Stepped
      says p = record { refusal = refusal_of (chosen p k n); length = (runs (single p k n) (file b n)).size }

-- ---- the work

module _ (identifier b : List ℕ) (n : ℕ) (job : Job) (d : Doable b n job) where
  -- whether the header is behind it or not, its plan is growth to the same length, and some sectors
  plan-some : (us : List Sector) × (close_plan identifier (file b n) ≡ apply job.work.length us)
  plan-some = go job.rewrite refl
    where
      go : (t : Bool) → job.rewrite ≡ t → (us : List Sector) × (close_plan identifier (file b n) ≡ apply job.work.length us)
      go true r = (ss identifier b n job d ++ (c identifier b n job d ∷ []), header-plan identifier b n job d r)
      go false r = (ss identifier b n job d, plain-plan identifier b n job d r ∙ log-plan identifier b n job d)

  counted : job.work.count ≡ count (plan b n)
  counted = d.planned.counted

  pub done-answer : ◌≡◌ {A = Closed} (record { refusal = 0; length = job.work.length; count = job.work.count }) (close_answer identifier (file b n))
  unfolding close_answer after_close
  done-answer =
      let us = plan-some.0 in
      sym (ap (λ (p : Plan). closed_by p (runs (steps p) (file b n)) (count (plan b n))) plan-some.1
      ∙ ap₂ (λ (l k : ℕ). record { refusal = 0; length = l; count = k }) (written-size us (run (grow job.work.length) (file b n))) (sym counted))

  -- ---- step 0

  pub grown-step : (k : ℕ) (g : List ℕ) → k ≡ 0 → g ≡ (runs (take (0 + 1) (steps (plan b n))) (file b n)).buffer
      → (◌≡◌ {A = Stepped} (record { refusal = 0; length = job.work.length }) (close_step_answer identifier k (file b n))) × (g ≡ (after_close_step identifier k (file b n)).buffer)
  unfolding close_step_answer after_close_step
  grown-step k g z e = (
    sym (ap₂ (λ (j : ℕ) (p : Plan). record { refusal = refusal_of (chosen p j n); length = (runs (single p j n) (file b n)).size }) z plan-some.1),
    e ∙ ap (λ (p : Plan). (runs (take 1 (steps p)) (file b n)).buffer) (log-plan identifier b n job d)
        ∙ sym (ap₂ (λ (j : ℕ) (p : Plan). (runs (single p j n) (file b n)).buffer) z plan-some.1),
  )

  -- ---- a later step: its number is i + 1

  long-ss : job.work.count ≡ length (ss identifier b n job d)
  long-ss = counted ∙ ap count (log-plan identifier b n job d)

  module _ (i : ℕ) where
    -- by what stands there
    by-nth : (us : List Sector) → close_plan identifier (file b n) ≡ apply job.work.length us → chosen (close_plan identifier (file b n)) (i + 1) n ≡ admitted n (get_elem? (map write us) i)
    by-nth us e =
        ap (λ (p : Plan). chosen p (i + 1) n) e
        ∙ ap (λ (j : ℕ). admitted n (get_elem? (steps (apply job.work.length us)) j)) (add-one i)

    log-nth : chosen (plan b n) (i + 1) n ≡ admitted n (get_elem? (map write (ss identifier b n job d)) i)
    log-nth =
        ap (λ (p : Plan). chosen p (i + 1) n) (log-plan identifier b n job d)
        ∙ ap (λ (j : ℕ). admitted n (get_elem? (steps (apply job.work.length (ss identifier b n job d))) j)) (add-one i)

    same-choice : i < job.work.count → chosen (plan b n) (i + 1) n ≡ chosen (close_plan identifier (file b n)) (i + 1) n
    same-choice l = go job.rewrite refl
      where
        go : (t : Bool) → job.rewrite ≡ t → chosen (plan b n) (i + 1) n ≡ chosen (close_plan identifier (file b n)) (i + 1) n
        go false r = sym (ap (λ (p : Plan). chosen p (i + 1) n) (plain-plan identifier b n job d r))
        go true r =
            log-nth
            ∙ ap (admitted n) (sym (nth_left (ss identifier b n job d) (c identifier b n job d) i (omega (arith, l, long-ss))))
            ∙ sym (by-nth (ss identifier b n job d ++ (c identifier b n job d ∷ [])) (header-plan identifier b n job d r))

    pub sector-step : (r : ℕ) (g : List ℕ) → i < job.work.count → r ≡ refusal_of (chosen (plan b n) (i + 1) n) → g ≡ (runs (single (plan b n) (i + 1) n) (file b n)).buffer
        → (r ≡ refusal_of (chosen (close_plan identifier (file b n)) (i + 1) n)) × (g ≡ (after_close_step identifier (i + 1) (file b n)).buffer)
    unfolding after_close_step
    sector-step r g l er eg = (er ∙ ap refusal_of (same-choice l), eg ∙ ap (λ (x : Outcome Step). (runs (steps_of x) (file b n)).buffer) (same-choice l))

    none-there : (us : List Sector) → close_plan identifier (file b n) ≡ apply job.work.length us → length us ≤ i → declined 21 ≡ chosen (close_plan identifier (file b n)) (i + 1) n
    none-there us e l = sym (by-nth us e ∙ ap (admitted n) (nth-none us i l))

    21-step : (declined 21 ≡ chosen (close_plan identifier (file b n)) (i + 1) n) → (21 ≡ refusal_of (chosen (close_plan identifier (file b n)) (i + 1) n)) × (b ≡ (after_close_step identifier (i + 1) (file b n)).buffer)
    unfolding after_close_step
    21-step e = (ap refusal_of e, ap (λ (x : Outcome Step). (runs (steps_of x) (file b n)).buffer) e)

    -- no header, or not yet behind it
    pub no_step : job.work.count ≤ i → (job.rewrite ≡ true → job.work.count < i)
        → (21 ≡ refusal_of (chosen (close_plan identifier (file b n)) (i + 1) n)) × (b ≡ (after_close_step identifier (i + 1) (file b n)).buffer)
    no_step l m = 21-step (go job.rewrite refl)
      where
        go : (t : Bool) → job.rewrite ≡ t → declined 21 ≡ chosen (close_plan identifier (file b n)) (i + 1) n
        go false r = none-there (ss identifier b n job d) (plain-plan identifier b n job d r ∙ log-plan identifier b n job d) (omega (arith, l, long-ss))
        go true r =
            none-there (ss identifier b n job d ++ (c identifier b n job d ∷ [])) (header-plan identifier b n job d r)
            (omega (arith, m r, long-ss, length-append (ss identifier b n job d) (c identifier b n job d ∷ [])))

    -- the header
    module _ (r : job.rewrite ≡ true) where
      module _ (wide : length (closed_header (header_at (first_mib b) job.slot) identifier) ≡ 4096) (z : i ≡ job.work.count) where
        fits : end (c identifier b n job d) ≤ n
        unfolding c
        fits =
            let low = slots-low (standing b n d.current).slots in
            omega (
              arith,
              low.3,
              (accepted b n d.current).holds_first,
              ap (λ (s : ℕ). length (closed_header (header_at (first_mib b) s) identifier)) (sym d.slot_is) ∙ wide,
            )

        header-choice : answered (write (c identifier b n job d)) ≡ chosen (close_plan identifier (file b n)) (i + 1) n
        header-choice =
            sym (by-nth (ss identifier b n job d ++ (c identifier b n job d ∷ [])) (header-plan identifier b n job d r)
            ∙ ap (admitted n) (nth_end (ss identifier b n job d) (c identifier b n job d) i (z ∙ long-ss))
            ∙ ap (λ (t : Bool). check t (declined 22) (answered (write (c identifier b n job d)))) (le-leb (end (c identifier b n job d)) n fits))

        pub header-step : (g : List ℕ) → g ≡ header_written b job.slot identifier
            → (0 ≡ refusal_of (chosen (close_plan identifier (file b n)) (i + 1) n)) × (g ≡ (after_close_step identifier (i + 1) (file b n)).buffer)
        unfolding after_close_step header_written c
        header-step g e = (
          ap refusal_of header-choice,
          e ∙ ap (λ (s : ℕ). put b (other_slot s) (closed_header (header_at (first_mib b) s) identifier)) d.slot_is
              ∙ ap (λ (x : Outcome Step). (runs (steps_of x) (file b n)).buffer) header-choice,
        )

  -- ---- as a single step is answered

  module _ (k : ℕ) (h : 0 < k) where
    back : k - 1 + 1 ≡ k
    back = omega arith

    size-kept : (after_close_step identifier (k - 1 + 1) (file b n)).size ≡ n
    unfolding after_close_step
    size-kept = ap (λ (x : Outcome Step). (runs (steps_of x) (file b n)).size) (by-nth (k - 1) plan-some.0 plan-some.1) ∙ admitted-size (file b n) n plan-some.0 (k - 1)

    pub later-step : (r : ℕ) (g : List ℕ) → r ≡ refusal_of (chosen (close_plan identifier (file b n)) (k - 1 + 1) n) → g ≡ (after_close_step identifier (k - 1 + 1) (file b n)).buffer
        → (◌≡◌ {A = Stepped} (record { refusal = r; length = n }) (close_step_answer identifier k (file b n))) × (g ≡ (after_close_step identifier k (file b n)).buffer)
    unfolding close_step_answer
    later-step r g er eg = (
      ap₂ (λ (x y : ℕ). record { refusal = x; length = y }) er (sym size-kept)
          ∙ ap (λ (j : ℕ). record { refusal = refusal_of (chosen (close_plan identifier (file b n)) j n); length = (after_close_step identifier j (file b n)).size }) back,
      eg ∙ ap (λ (j : ℕ). (after_close_step identifier j (file b n)).buffer) back,
    )
