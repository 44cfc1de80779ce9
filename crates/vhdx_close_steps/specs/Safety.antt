-- Demand 3 for closing, power failures too, and that closing closes (change request Q-6). The premise that the log can be applied is
-- stated by the plan here; `vhdx` states it by document 01's table (specs/CloseSafety.antt there).
-- Assumes nothing.
use Rattle.std.specs.Prelude.{List, [], ◌≡◌, ℕ, zero, ◌+◌, ◌≤◌, ◌<◌, length, take, get_or, Ok}
use Rattle.field.specs.Fields.{number}
use Rattle.extent.specs.Extent.{mib, part}
use Rattle.vhdx_header.specs.declared.Header.{Header}
use Rattle.vhdx_header.specs.Current.{current_header, other_slot}
use Rattle.vhdx_walk.specs.Entries.{Sector}
use Rattle.vhdx_log.specs.Work.{apply, sectors_planned}
use Rattle.vhdx_steps.specs.Steps.{File, Named}
use Rattle.vhdx_steps.specs.Calls.{plan_of}
use Rattle.vhdx_replay.specs.Planned.{log_extent}
use Rattle.field.specs.Fields.{Bytes}
use Rattle.vhdx_close_steps.specs.Close.{close_plan, after_close, after_close_step, close_answer}
use Rattle.vhdx_close_steps.specs.Calls.{Calls}
use Rattle.vhdx_close_steps.specs.Failures.{History}

-- what holds of the file f that calls left of the original o
pub record Recloses (identifier : List ℕ) (o f : File) : Type 0 where
  -- "only length and bytes compared": what one more close, undisturbed, leaves
  pub same_length : (close_answer identifier f).length ≡ (close_answer identifier o).length
  pub same_bytes : take (close_answer identifier f).length (after_close identifier f).buffer ≡ take (close_answer identifier o).length (after_close identifier o).buffer
  -- "one header slot besides the named sectors touched": the plan's last sector is that slot
  pub no_shorter : o.size ≤ f.size
  pub same_elsewhere : (i : ℕ) → i < o.size → ¬ Named (sectors_planned (close_plan identifier o)) i → get_or f.buffer i 0 ≡ get_or o.buffer i 0
  -- of the first MiB that slot alone is touched, and the log not at all
  pub first_kept : (h : Header) → current_header o.buffer o.size ≡ Ok h
      → (i : ℕ) → i < mib → ¬ ((other_slot h.slot ≤ i) × (i < other_slot h.slot + 4096)) → get_or f.buffer i 0 ≡ get_or o.buffer i 0
  pub log_kept : part f.buffer (log_extent o.buffer o.size) ≡ part o.buffer (log_extent o.buffer o.size)

-- the same identifier, of 16 bytes, for every call; 23 may apply, then nothing ever changes. Document 01: "in the same room". Proved in
-- proofs/Safety.antt
abbrev pub CloseSafe : Type 0
CloseSafe =
    (identifier : List ℕ) → length identifier ≡ 16 → Bytes identifier
    → (o f : File) → Bytes o.buffer → (m : ℕ) (ss : List Sector) → plan_of o ≡ apply m ss
    → Calls identifier zero o f → (length f.buffer ≡ length o.buffer) × Recloses identifier o f

-- and after every history of calls, flushes and power failures, in whatever buffers that hold the final length
abbrev pub ClosePowerSafe : Type 0
ClosePowerSafe =
    (identifier : List ℕ) → length identifier ≡ 16 → Bytes identifier
    → (o d f : File) (e : ℕ) → Bytes o.buffer → (m : ℕ) (ss : List Sector) → plan_of o ≡ apply m ss
    → History identifier o d e f → Recloses identifier o f

-- document 01: "No call run to its end changes bytes past the final length."
abbrev pub NothingBeyondClose : Type 0
NothingBeyondClose =
    (identifier : List ℕ) → length identifier ≡ 16 → (f : File) (i : ℕ) → (close_answer identifier f).length ≤ i
    → (get_or (after_close identifier f).buffer i 0 ≡ get_or f.buffer i 0) × ((k : ℕ) → get_or (after_close_step identifier k f).buffer i 0 ≡ get_or f.buffer i 0)

-- a file whose log is closed: the current header names none, and an attach plans neither growth nor a sector
pub record HasNoLog (f : File) : Type 0 where
  pub header : Header
  pub current : current_header f.buffer f.size ≡ Ok header
  pub no_identifier : number header.log_guid ≡ 0
  pub no_work : plan_of f ≡ apply f.size []

-- "Close the log for good": a close that is not refused leaves such a file. Without this, a close that wrote an invalid header would
-- be as safe
abbrev pub ClosesForGood : Type 0
ClosesForGood =
    (identifier : List ℕ) → length identifier ≡ 16 → Bytes identifier → (o : File) → Bytes o.buffer
    → (m : ℕ) (us : List Sector) → close_plan identifier o ≡ apply m us → HasNoLog (after_close identifier o)
