-- Power failures while a log is closed, of which document 02 does not speak. What is lost, flushed and reopened is said in vhdx_steps,
-- specs/Failures.antt, and what that rests on.
--
-- Of the caller this supposes one thing more, a flush between the last sector and the header: a header on the disk that says "no log"
-- before the sectors that the log holds would lose them.
-- Assumes nothing.
use Rattle.std.specs.Prelude.{List, ◌≡◌, ℕ, zero, Result, Ok, Err}
use Rattle.decision.specs.declared.Refusal.{Refusal}
use Rattle.vhdx_header.specs.declared.Header.{Header}
use Rattle.vhdx_header.specs.Current.{current_header, other_slot}
use Rattle.vhdx_log.specs.Work.{sectors_planned}
use Rattle.vhdx_steps.specs.Steps.{File, length_after, Ran, steps}
use Rattle.vhdx_steps.specs.Failures.{Lost, Reopened}
use Rattle.vhdx_close_steps.specs.Close.{slot_in, close_plan}
use Rattle.vhdx_close_steps.specs.Calls.{WholeIfValid, Call}

-- the slot of the header that isn't current in f is in g as it was
abbrev pub SlotKeptBy : Result Header Refusal → File → File → Type 0
SlotKeptBy (Err r) f g = Unit {0}
SlotKeptBy (Ok h) f g = slot_in g (other_slot h.slot) ≡ slot_in f (other_slot h.slot)

abbrev pub SlotKept : File → File → Type 0
SlotKept f g = SlotKeptBy (current_header f.buffer f.size) f g

-- what a power failure may leave of f, whichever call was on the way and however far it had come
pub data Failed (identifier : List ℕ) (f g : File) : Type 0 where
  -- before that flush: any of the sectors torn, and the header's slot as it was
  sectors-lost : Lost (length_after (close_plan identifier f) f.size) (sectors_planned (close_plan identifier f)) f g → SlotKept f g → Failed identifier f g
  -- after it: all sectors whole, and the slot as it was, torn, which is not valid then, or as it will be. So a close leaves it that is
  -- interrupted at its last step; one that is interrupted before it need not be left out
  header-lost : Ran (steps (close_plan identifier f)) f g → WholeIfValid identifier f g → Failed identifier f g

-- of a file that came as o, was d when it was last flushed, and is f now, where step e is next in order
pub data History (identifier : List ℕ) (o : File) : File → ℕ → File → Type 0 where
  original : History identifier o o zero o
  called : {d f g : File} {e e' : ℕ} → History identifier o d e f → Call identifier e f e' g → History identifier o d e' g
  -- a call that ended early, its writes in any order but for the header's, which is the last
  lost : {d f g : File} {e : ℕ} → History identifier o d e f → Failed identifier f g → History identifier o d zero g
  reopened : {d f g : File} {e : ℕ} → History identifier o d e f → Reopened f g → History identifier o d e g
  flushed : {d f : File} {e : ℕ} → History identifier o d e f → History identifier o f e f
  -- the power fails: every call since the last flush, whatever it left, may be taken back, whole or in part
  failed : {d f g : File} {e : ℕ} → History identifier o d e f → Failed identifier d g → History identifier o g zero g
