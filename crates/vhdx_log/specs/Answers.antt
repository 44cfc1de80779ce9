-- What an answer of the plan stands for: document 01's number, or the final length, the sectors to write and their count.
-- Assumes nothing.
use Rattle.std.specs.Prelude.{List, [], ◌≡◌, ℕ, Result, Ok, Err}
use Rattle.decision.specs.declared.Refusal.{Refusal}
use Rattle.decision.specs.Refusal.{number}
use Rattle.vhdx_header.specs.declared.Header.{Header}
use Rattle.vhdx_header.specs.Current.{current_header}
use Rattle.vhdx_walk.specs.Entries.{sectors}
use Rattle.vhdx_walk.specs.Cursor.{descriptors_left}
use Rattle.vhdx_walk.specs.Walk.{walk_from, Ready}
use Rattle.vhdx_log.specs.declared.Work.{Work}
use Rattle.vhdx_log.specs.Work.{Plan, refused, apply, count}
use Rattle.vhdx_log.specs.Plan.{log_bytes}

-- the log's bytes in a buffer: where the current header says, none without one
abbrev pub log_by : Result Header Refusal → List ℕ → List ℕ
log_by (Err r) buffer = []
log_by (Ok h) buffer = log_bytes h buffer

-- of the image that is the buffer's first n bytes
unfoldable pub log_of : List ℕ → ℕ → List ℕ
log_of buffer n = log_by (current_header buffer n) buffer

-- the plan that an answer is, the log's bytes being these
abbrev pub plan_in : List ℕ → Result Work Refusal → Plan
plan_in log (Err r) = refused (number r)
plan_in log (Ok w) = apply w.length (sectors (descriptors_left log w.cursor))

-- the count that is answered
abbrev pub count_of : Result Work Refusal → ℕ
count_of (Err r) = 0
count_of (Ok w) = w.count

-- the sectors from the answered cursor on can be walked
abbrev pub ReadyIn : List ℕ → Result Work Refusal → Type 0
ReadyIn log (Err r) = Unit {0}
ReadyIn log (Ok w) = Ready log (walk_from w.cursor)

-- an answer stands for a plan
pub record Stands (log : List ℕ) (answer : Result Work Refusal) (p : Plan) : Type 0 where
  pub same : plan_in log answer ≡ p
  pub counted : count_of answer ≡ count p
  pub ready : ReadyIn log answer

-- the plan that an answer is, of the image that is the buffer's first n bytes
abbrev pub plan_of : List ℕ → ℕ → Result Work Refusal → Plan
plan_of buffer n answer = plan_in (log_of buffer n) answer
