-- Demand 3: after any list of attaches and steps, each run to its end or interrupted, one undisturbed attach gives what an attach of
-- the original gives, and nothing else was touched on the way. `CrashSafe` is the claim, as document 01 words it; `PowerSafe` says the
-- same of power failures, and `CrashSafe` follows from it, since every call leaves what a power failure may leave. Both are proved in
-- proofs/CrashSafety.antt, and are about the definitions that the contracts of `attach` and `step` cite (`RunToTheEnd`).
--
-- What an interrupted call leaves is defined in vhdx_steps, specs/Steps.antt (`Ran`): some first steps are whole, and the next is not
-- begun or torn. That a call which really stops leaves one of these states rests on two things that the code shows and no contract
-- says: growth writes upward from the given length (`store::zeros`), and the write of a sector stores only inside it
-- (`sector::write`).
--
-- What a power failure leaves is defined there too, specs/Failures.antt (`Lost`). That it leaves no more than this rests on the disk and
-- the file system: a write damages nothing outside its 4,096 bytes, and growth nothing before the old end; a file that was made longer
-- reads as zeros where nothing was written; and it does not become shorter than at its last flush.
-- Assumes nothing.
use Rattle.std.specs.Prelude.{List, ◌↔◌, ◌≡◌, ℕ, ◌≤◌, ◌<◌, length, take, get_or, None}
use Rattle.extent.specs.Extent.{part}
use Rattle.vhdx_header.specs.Current.{first_mib}
use Rattle.vhdx_walk.specs.Entries.{Sector}
use Rattle.vhdx_log.specs.Work.{apply, sectors_planned}
use Rattle.vhdx_steps.specs.Steps.{File, Named}
use Rattle.vhdx_steps.specs.Calls.{plan_of, final_length_of, Call, Calls}
use Rattle.vhdx_steps.specs.Failures.{History}
use Rattle.vhdx_replay.specs.Planned.{log_extent}
use Rattle.vhdx.specs.Attach.{after_attach, attach_answer}
use Rattle.vhdx.specs.Step.{after_step}
use Rattle.vhdx.specs.Refusals.{first_row}

-- "A log can be applied where, by the table above, none of 1 to 8 applies to an attach of the file as it came"
abbrev pub Applicable : File → Type 0
Applicable o = first_row o ≡ None

-- just then the plan is work to do. Proved in proofs/CrashSafety.antt
abbrev pub PlannedExactlyThen : Type 0
PlannedExactlyThen = (f : File) → ((m : ℕ) × (ss : List Sector) × (plan_of f ≡ apply m ss)) ↔ Applicable f

-- what holds of the file f that calls left of the original o
pub record Restarts (o f : File) : Type 0 where
  -- "After every such list, one more attach, undisturbed, gives exactly what by document 01 an attach of the original in that room
  -- gives: the same length,"
  pub same_length : (attach_answer f).length ≡ (attach_answer o).length
  -- "every byte of the file,"
  pub same_bytes : take (attach_answer f).length (after_attach f).buffer ≡ take (attach_answer o).length (after_attach o).buffer
  -- "the count,"
  pub same_count : (attach_answer f).count ≡ (attach_answer o).count
  -- "and the refusal or the facts."
  pub same_refusal : (attach_answer f).refusal ≡ (attach_answer o).refusal
  pub same_facts : (attach_answer f).facts ≡ (attach_answer o).facts
  -- "At every point the file differs from the original only in sectors that the applied sequence names and in bytes past the old
  -- end.": of 01, "the applied sequence is that file's active one", the original's
  pub no_shorter : o.size ≤ f.size
  pub same_elsewhere : (i : ℕ) → i < o.size → ¬ Named (sectors_planned (plan_of o)) i → get_or f.buffer i 0 ≡ get_or o.buffer i 0
  -- "The first MiB and the log are never touched."
  pub first_kept : first_mib f.buffer ≡ first_mib o.buffer
  pub log_kept : part f.buffer (log_extent o.buffer o.size) ≡ part o.buffer (log_extent o.buffer o.size)

-- "Take any file whose log can be applied in the room we lend, and any list of attaches and single steps on it, in whatever order,
-- refused ones included, each run to its end or cut. The first gets the file as it came. Each later one gets the file and the length
-- that the one before left, in the same room"
abbrev pub CrashSafe : Type 0
CrashSafe = (o f : File) → Applicable o → Calls o f → (length f.buffer ≡ length o.buffer) × Restarts o f

-- a call may also be lost in a power failure, which takes back, whole or in part, every call since the last flush; and a later one may
-- have another buffer, which holds the final length
abbrev pub PowerSafe : Type 0
PowerSafe = (o d f : File) → Applicable o → History o d f → Restarts o f

-- a call that is run to its end, as the contracts of `attach` and `step` fix it, is one of those that a list may have
abbrev pub RunToTheEnd : Type 0
RunToTheEnd = (f : File) → Call f (after_attach f) × ((k : ℕ) → Call f (after_step k f))

-- "No call run to its end changes bytes past the final length."
abbrev pub NothingBeyond : Type 0
NothingBeyond =
    (f : File) (i : ℕ) → final_length_of f ≤ i
    → (get_or (after_attach f).buffer i 0 ≡ get_or f.buffer i 0) × ((k : ℕ) → get_or (after_step k f).buffer i 0 ≡ get_or f.buffer i 0)
