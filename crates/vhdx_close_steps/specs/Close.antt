-- Closing a log (change request Q-6): the log's work as attach does it, then one header. Its plan is a plan like the log's, with the
-- header's slot as one more sector behind the last, so the steps of closing are `steps`, `chosen` and `single` of vhdx_steps too.
-- An identifier is the list of its 16 bytes: the file-write identifier that the caller hands in.
-- Assumes nothing.
use Rattle.std.specs.Prelude.{cond, List, [], ◌∷◌, ◌++◌, ℕ, nat_eq, nat_lt, Result, Ok, Err}
use Rattle.decision.specs.declared.Refusal.{Refusal}
use Rattle.decision.specs.Refusal.{number as number_of, check, refusal_of}
use Rattle.field.specs.Fields.{number}
use Rattle.vhdx_header.specs.declared.Header.{Header}
use Rattle.vhdx_header.specs.Current.{header_at, first_mib, current_header, other_slot}
use Rattle.vhdx_walk.specs.Entries.{Sector}
use Rattle.vhdx_log.specs.Work.{Plan, refused, apply, count}
use Rattle.vhdx_steps.specs.Stepped.{Stepped}
use Rattle.vhdx_steps.specs.Steps.{File, runs, steps, chosen, single}
use Rattle.vhdx_steps.specs.Calls.{plan_of}
use Rattle.vhdx_rewrite.specs.Rewrite.{greatest, closed_header}
use Rattle.vhdx_close_steps.specs.declared.Closed.{Closed as Figures}

-- the header at an offset of a file
abbrev pub slot_in : File → ℕ → List ℕ
slot_in f at = header_at (first_mib f.buffer) at

-- "the header that isn't current is rewritten": its slot, and the bytes, made of the current header h
abbrev pub header_sector : List ℕ → File → Header → Sector
header_sector identifier f h = record { offset = other_slot h.slot; bytes = closed_header (slot_in f h.slot) identifier }

-- c is the header's write. "If the log identifier is already zero it succeeds and changes nothing": the log's plan has no work then;
-- "otherwise a sequence number at its greatest value is refused as 23, after 8"; "the header is the step after the last sector's"
abbrev pub with_header : Header → Sector → Plan → Plan
with_header h c (refused n) = refused n
with_header h c (apply m ss) =
    cond (nat_eq (number h.log_guid) 0) (apply m ss)
    (check (nat_lt h.sequence_number greatest) (refused 23) (apply m (ss ++ (c ∷ []))))

abbrev pub closing : Result Header Refusal → List ℕ → File → Plan → Plan
closing (Err r) identifier f p = p
closing (Ok h) identifier f p = with_header h (header_sector identifier f h) p

-- "The call refuses as 1 to 8", then as 23; else the work
unfoldable pub close_plan : List ℕ → File → Plan
close_plan identifier f = closing (current_header f.buffer f.size) identifier f (plan_of f)

-- the file after closing, at a refusal as it was
unfoldable pub after_close : List ℕ → File → File
after_close identifier f = runs (steps (close_plan identifier f)) f

-- what closing answers, in numbers
pub record Closed : Type 0 where
  -- the refusal's, or 0
  pub refusal : ℕ
  -- of the image as closing leaves it
  pub length : ℕ
  -- how many sectors the log's replay wrote, the header not counted
  pub count : ℕ

-- the code's answer, n the given length
abbrev pub closed_numbers : ℕ → Result Figures Refusal → Closed
closed_numbers n (Err r) = record { refusal = number_of r; length = n; count = 0 }
closed_numbers n (Ok c) = record { refusal = 0; length = c.length; count = c.count }

-- g is the file that closing leaves, n the count of the log's sectors: it "answers as attach does in length and count, the header not
-- counted"; 23 is refused "with 8's image and answers"
abbrev pub closed_by : Plan → File → ℕ → Closed
closed_by (refused c) g n = record { refusal = c; length = g.size; count = 0 }
closed_by (apply m ss) g n = record { refusal = 0; length = g.size; count = n }

unfoldable pub close_answer : List ℕ → File → Closed
close_answer identifier f = closed_by (close_plan identifier f) (after_close identifier f) (count (plan_of f))

-- "The call has a step form as attach has": the file after step k alone, and the answer. With the header "counted as one more sector
-- for 21"
unfoldable pub after_close_step : List ℕ → ℕ → File → File
after_close_step identifier k f = runs (single (close_plan identifier f) k f.size) f

unfoldable pub close_step_answer : List ℕ → ℕ → File → Stepped
close_step_answer identifier k f = record { refusal = refusal_of (chosen (close_plan identifier f) k f.size); length = (after_close_step identifier k f).size }
