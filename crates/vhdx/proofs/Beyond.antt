-- No call that is run to its end changes a byte past the final length.
-- Assumes nothing.
use mathlib.Core.Path.{◌≡◌, refl}
use Prim.Native.Nat.{ℕ, ◌≤◌}
use lib.ListN.{get_or}
use Rattle.vhdx_log.specs.Work.{Plan, refused, apply}
use Rattle.vhdx_steps.specs.Steps.{length_after, runs, steps, single}
use Rattle.vhdx_steps.specs.Calls.{plan_of}
use Rattle.vhdx_steps.proofs.Reading.{header_of, reads}
use Rattle.vhdx_steps.proofs.Restart.{Good, good, admitted-good, beyond}
use Rattle.vhdx.specs.Attach.{after_attach}
use Rattle.vhdx.specs.Step.{after_step}
use Rattle.vhdx.specs.CrashSafety.{NothingBeyond}

pub nothing-beyond : NothingBeyond
unfolding after_attach after_step
nothing-beyond f i = go (plan_of f) refl
  where
    go : (p : Plan) → plan_of f ≡ p → length_after p f.size ≤ i
        → (get_or (runs (steps p) f).buffer i 0 ≡ get_or f.buffer i 0) × ((k : ℕ) → get_or (runs (single p k f.size) f).buffer i 0 ≡ get_or f.buffer i 0)
    go (refused c) e h = (refl, λ k. refl)
    go (apply m ss) e h =
        let c = header_of f.buffer f.size e in
        let R = reads f c.0 c.1 e in (
          beyond m ss i h (steps (apply m ss)) f (good R) R.grows R.fits,
          λ k. beyond m ss i h (single (apply m ss) k f.size) f (admitted-good (Good m ss) (steps (apply m ss)) k f.size (good R)) R.grows R.fits,
        )
