-- The plan as a call: what attach would do with a file's log, and nothing done (document 01, "The log", "Work", and "When the gate says
-- no", 1 to 8).
-- Assumes nothing.
use Rattle.std.specs.Prelude.{cond, List, ◌⊎◌, ◌≡◌, ℕ, nat_le, length, Result, Ok, Err}
use Rattle.decision.specs.declared.Refusal.{Refusal}
use Rattle.decision.specs.Refusal.{number}
use Rattle.vhdx_log.specs.Work.{Plan, refused, apply}
use Rattle.vhdx_steps.specs.Steps.{File}
use Rattle.vhdx_steps.specs.Calls.{plan_of}
use Rattle.vhdx_close_steps.specs.Close.{Closed, close_answer}
use Rattle.vhdx.specs.declared.Planned.{Planned as Answer}
use Rattle.vhdx.specs.Attach.{Attached, attach_answer}

-- what plan answers, in numbers
pub record Planned : Type 0 where
  -- document 01's, 1 to 8, or 0
  pub refusal : ℕ
  -- of the image as attach would leave it
  pub length : ℕ
  -- how many sectors the log's replay would write
  pub count : ℕ

-- the code's answer, n the given length
abbrev pub planned_numbers : ℕ → Result Answer Refusal → Planned
planned_numbers n (Err r) = record { refusal = number r; length = n; count = 0 }
planned_numbers n (Ok p) = record { refusal = 0; length = p.length; count = p.count }

-- n is the given length. At 1 to 8 "the given length and count 0"; else the length that step 0 grows the image to, and "the
-- definition's steps after step 0"
abbrev pub planned_by : Plan → ℕ → Planned
planned_by (refused c) n = record { refusal = c; length = n; count = 0 }
planned_by (apply m ss) n = record { refusal = 0; length = m; count = length ss }

-- of the plan that attach follows
unfoldable pub plan_answer : File → Planned
plan_answer f = planned_by (plan_of f) f.size

-- what of attach's refusal a plan can say: 1 to 8, which come before any step; 9 to 15 judge the tables as the log leaves them. 0 is no
-- refusal
abbrev pub foretold : ℕ → ℕ
foretold c = cond (nat_le c 8) c 0

-- attach answers what was planned: the length, the count, and a number of 1 to 8 exactly where the plan has it
pub record AsPlanned (p : Planned) (a : Attached) : Type 0 where
  pub same_length : a.length ≡ p.length
  pub same_count : a.count ≡ p.count
  pub same_refusal : foretold a.refusal ≡ p.refusal

-- of every file. Proved in proofs/Foretelling.antt
abbrev pub Foretells : Type 0
Foretells = (f : File) → AsPlanned (plan_answer f) (attach_answer f)

-- Closing (change request Q-6) "refuses as 1 to 8 .. and answers as attach does in length and count": it answers what was planned, unless
-- 23 refuses it. Proved in proofs/CloseForetelling.antt
abbrev pub planned_of : Closed → Planned
planned_of c = record { refusal = c.refusal; length = c.length; count = c.count }

abbrev pub ForetellsClose : Type 0
ForetellsClose = (identifier : List ℕ) (f : File) → ((close_answer identifier f).refusal ≡ 23) ⊎ (planned_of (close_answer identifier f) ≡ plan_answer f)
