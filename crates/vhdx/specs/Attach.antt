-- Attach (document 01, "What the gate does" and "When the gate says no"): what it answers, and what it leaves in the buffer. The
-- image is the buffer's first `size` bytes.
-- Assumes nothing.
use Rattle.std.specs.Prelude.{List, ℕ, length, take}
use Rattle.decision.specs.Refusal.{Outcome, refusal_of, outcome}
use Rattle.vhdx_facts.specs.declared.Facts.{Facts}
use Rattle.vhdx_facts.specs.Ranges.{no_facts}
use Rattle.vhdx_tables.specs.Tables.{tables, facts_told}
use Rattle.vhdx_log.specs.Work.{Plan, refused, apply}
use Rattle.vhdx_steps.specs.Steps.{File, runs, steps}
use Rattle.vhdx_steps.specs.Calls.{plan_of}
use Rattle.vhdx_replay.specs.Planned.{log_extent}
use Rattle.vhdx.specs.declared.Attached.{Attached as Answer}

-- "the image is that many first bytes"
abbrev pub image_of : File → List ℕ
image_of f = take f.size f.buffer

-- "It applies the log": all steps of the plan, none where 1 to 8 refuse. "Refusals 1 to 8 .. change no byte."
unfoldable pub after_attach : File → File
after_attach f = runs (steps (plan_of f)) f

-- "then reads the tables": 9 to 15 or the facts, of an image whose log is applied. The log that a region must not touch is where the
-- image's current header says
unfoldable pub read : List ℕ → Outcome Facts
read image = tables image (log_extent image (length image))

-- what attach answers, in numbers and facts
pub record Attached : Type 0 where
  -- document 01's number, or 0
  pub refusal : ℕ
  -- of the image as attach leaves it
  pub length : ℕ
  -- how many sectors the log's replay wrote
  pub count : ℕ
  pub facts : Facts

-- with the length and the count
abbrev pub told : Outcome Facts → ℕ → ℕ → Attached
told o n count = record { refusal = refusal_of o; length = n; count = count; facts = facts_told o }

-- the code's answer
abbrev pub attached_numbers : Answer → Attached
attached_numbers a = told (outcome a.facts) a.length a.count

-- f is the file that attach leaves. At 1 to 8 "Attach then answers the given length and count 0"; "Refusals 9 to 15 leave the image
-- with its log applied, and answer its length and the count."; "The count equals the definition's steps after step 0."
abbrev pub answer_by : Plan → File → Attached
answer_by (refused c) f = record { refusal = c; length = f.size; count = 0; facts = no_facts }
answer_by (apply m ss) f = told (read (image_of f)) f.size (length ss)

unfoldable pub attach_answer : File → Attached
attach_answer f = answer_by (plan_of f) (after_attach f)
