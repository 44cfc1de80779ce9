-- A single step, from what its parts promise: a refusal, growth, or a sector.
-- Assumes nothing.
use mathlib.Core.Path.{◌≡◌, sym, ap, ◌∙◌}
use mathlib.Core.List.{List}
use Prim.Native.Nat.{ℕ, ◌+◌, ◌-◌, ◌<◌}
use native.Mathlib.Numerals.{add-one}
use native.Mathlib.Omega.{arith}
use lib.ListN.{take}
use Rattle.decision.specs.Refusal.{refusal_of}
use Rattle.extent.specs.declared.Extent.{Extent}
use Rattle.vhdx_log.specs.declared.Work.{Work}
use Rattle.vhdx_log.specs.Work.{Plan, refused as unplanned, apply}
use Rattle.vhdx_log.specs.Plan.{plan}
use Rattle.vhdx_steps.specs.Steps.{File, runs, steps, chosen, single}
use Rattle.vhdx_steps.specs.Calls.{file}
use Rattle.vhdx_replay.specs.Planned.{Planned}
use Rattle.vhdx_steps.specs.Stepped.{Stepped}
use Rattle.vhdx_replay.proofs.Applying.{planned, plan-is}
use Rattle.vhdx_replay.proofs.Done.{admitted-size}
use Rattle.vhdx.specs.Step.{after_step, step_answer}

-- what a step on a file with this plan says and leaves
says : Plan → ℕ → File → Stepped
says p k f = record { refusal = refusal_of (chosen p k f.size); length = (runs (single p k f.size) f).size }

module _ (b : List ℕ) (n k : ℕ) where
  module _ (c : ℕ) (e : unplanned c ≡ plan b n) where
    pub refused-step : ◌≡◌ {A = Stepped} (record { refusal = c; length = n }) (step_answer k (file b n))
    unfolding step_answer after_step says
    refused-step = ap (λ (p : Plan). says p k (file b n)) e

    pub refused-after : b ≡ (after_step k (file b n)).buffer
    unfolding after_step
    refused-after = ap (λ (p : Plan). (runs (single p k n) (file b n)).buffer) e

  module _ (log : Extent) (w : Work) (p : Planned b n log w) where
    -- step 0
    module _ (z : k ≡ 0) where
      grow-chosen : apply w.length (planned b log w) ≡ plan b n
      grow-chosen = sym (plan-is b n log w p)

      pub grown-step : ◌≡◌ {A = Stepped} (record { refusal = 0; length = w.length }) (step_answer k (file b n))
      unfolding step_answer after_step says
      grown-step = ap (λ (x : Plan). says x 0 (file b n)) grow-chosen ∙ ap (λ (j : ℕ). says (plan b n) j (file b n)) (sym z)

      pub grown-after : (g : List ℕ) → g ≡ (runs (take (0 + 1) (steps (plan b n))) (file b n)).buffer → g ≡ (after_step k (file b n)).buffer
      unfolding after_step
      grown-after g e =
          e ∙ ap (λ (x : Plan). (runs (take 1 (steps x)) (file b n)).buffer) (sym grow-chosen)
          ∙ ap (λ (x : Plan). (runs (single x 0 n) (file b n)).buffer) grow-chosen
          ∙ ap (λ (j : ℕ). (runs (single (plan b n) j n) (file b n)).buffer) (sym z)

    module _ (h : 0 < k) where
      from_one : k - 1 + 1 ≡ k
      from_one = omega arith

      sector-size : (runs (single (plan b n) (k - 1 + 1) n) (file b n)).size ≡ n
      sector-size =
          ap (λ (x : Plan). (runs (single x (k - 1 + 1) n) (file b n)).size) (plan-is b n log w p)
          ∙ ap (λ (j : ℕ). (runs (single (apply w.length (planned b log w)) j n) (file b n)).size) (add-one (k - 1))
          ∙ admitted-size (file b n) n (planned b log w) (k - 1)

      pub sector-step : (r : ℕ) → r ≡ refusal_of (chosen (plan b n) (k - 1 + 1) n) → ◌≡◌ {A = Stepped} (record { refusal = r; length = n }) (step_answer k (file b n))
      unfolding step_answer after_step says
      sector-step r e =
          ap (λ (c : ℕ). record { refusal = c; length = n }) e
          ∙ ap (λ (m : ℕ). record { refusal = refusal_of (chosen (plan b n) (k - 1 + 1) n); length = m }) (sym sector-size)
          ∙ ap (λ (j : ℕ). says (plan b n) j (file b n)) from_one

      pub sector-after : (g : List ℕ) → g ≡ (runs (single (plan b n) (k - 1 + 1) n) (file b n)).buffer → g ≡ (after_step k (file b n)).buffer
      unfolding after_step
      sector-after g e = e ∙ ap (λ (j : ℕ). (runs (single (plan b n) j n) (file b n)).buffer) from_one
