-- A single step (document 01, "What the gate does": "One step does step k of the log's work alone and answers the length after
-- it.").
-- Assumes nothing.
use Rattle.std.specs.Prelude.{ℕ}
use Rattle.decision.specs.Refusal.{refusal_of}
use Rattle.vhdx_steps.specs.Steps.{File, runs, chosen, single}
use Rattle.vhdx_steps.specs.Calls.{plan_of}
use Rattle.vhdx_steps.specs.Stepped.{Stepped}

-- none where 1 to 8, 21 or 22 refuse
unfoldable pub after_step : ℕ → File → File
after_step k f = runs (single (plan_of f) k f.size) f

unfoldable pub step_answer : ℕ → File → Stepped
step_answer k f = record { refusal = refusal_of (chosen (plan_of f) k f.size); length = (after_step k f).size }
