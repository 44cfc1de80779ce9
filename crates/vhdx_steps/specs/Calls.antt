-- Lists of calls, each run to its end or torn (document 01, "Cuts": "Demand 3 is a single claim about the whole list").
-- Assumes nothing.
use Rattle.std.specs.Prelude.{List, ℕ}
use Rattle.vhdx_log.specs.Work.{Plan}
use Rattle.vhdx_log.specs.Plan.{plan}
use Rattle.vhdx_steps.specs.Steps.{File, Ran, length_after, steps, single}

-- the first n bytes of a buffer
abbrev pub file : List ℕ → ℕ → File
file buffer n = record { buffer = buffer; size = n }

-- what the headers and the log say of a file
abbrev pub plan_of : File → Plan
plan_of f = plan f.buffer f.size

-- the length to which the log's work leads a file
abbrev pub final_length_of : File → ℕ
final_length_of f = length_after (plan_of f) f.size

-- a call takes f to g: an attach, or a step with any k
pub data Call (f g : File) : Type 0 where
  attach : Ran (steps (plan_of f)) f g → Call f g
  step : (k : ℕ) → Ran (single (plan_of f) k f.size) f g → Call f g

-- any list of calls, each on what the one before left
pub data Calls : File → File → Type 0 where
  none : {f : File} → Calls f f
  then : {f g h : File} → Call f g → Calls g h → Calls f h
