-- What the code of closing relies on: all is decided before anything is written.
-- Assumes nothing.
use Rattle.std.specs.Prelude.{Bool, true, false, cond, List, ◌≡◌, ℕ, nat_eq, nat_lt, Result, Ok, Err}
use Rattle.decision.specs.declared.Refusal.{Refusal}
use Rattle.decision.specs.declared.Refusal.TheVariants.{SequenceNumberSpent}
use Rattle.decision.specs.Refusal.{number as number_of}
use Rattle.field.specs.Fields.{number}
use Rattle.vhdx_header.specs.declared.Header.{Header}
use Rattle.vhdx_header.specs.Current.{current_header}
use Rattle.vhdx_log.specs.Work.{refused}
use Rattle.vhdx_steps.specs.Calls.{file}
use Rattle.vhdx_replay.specs.Planned.{Planned}
use Rattle.vhdx_rewrite.specs.Rewrite.{greatest}
use Rattle.vhdx_close_steps.specs.Close.{close_plan}
use Rattle.vhdx_close.specs.declared.Job.{Job}

-- what comes after the last sector, by the current header: whether the other header is written, or 23
abbrev pub ending_of : Header → Result Bool Refusal
ending_of h = cond (nat_eq (number h.log_guid) 0) (Ok false) (cond (nat_lt h.sequence_number greatest) (Ok true) (Err SequenceNumberSpent))

-- a job that can be done: the log's planned work, and whether the header is written behind it
pub record Doable (buffer : List ℕ) (n : ℕ) (job : Job) : Type 0 where
  pub header : Header
  pub current : current_header buffer n ≡ Ok header
  pub slot_is : job.slot ≡ header.slot
  pub planned : Planned buffer n job.log job.work
  pub ends : ending_of header ≡ Ok job.rewrite

-- no identifier changes a refusal
abbrev pub Decided : List ℕ → ℕ → Result Job Refusal → Type 0
Decided buffer n (Err r) = (identifier : List ℕ) → refused (number_of r) ≡ close_plan identifier (file buffer n)
Decided buffer n (Ok job) = Doable buffer n job
