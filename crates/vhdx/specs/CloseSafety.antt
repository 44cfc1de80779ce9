-- Demand 3 for closing a log (change request Q-6), with document 01's table as its premise: after any list of closes and of their steps,
-- each run to its end, refused or interrupted, one undisturbed close leaves what closing the original leaves, and nothing but the named
-- sectors and one header slot was touched on the way. The list, the order of its steps and the premise that a half-written header is
-- not valid are `Calls` of vhdx_close_steps. `CrashSafeClose` is the claim, as document 02 words it; `PowerSafeClose` says the same of
-- power failures (specs/Failures.antt there), and `CrashSafeClose` follows from it. Both are proved in proofs/CloseSafety.antt.
--
-- That a close which really stops leaves one of these states rests on what CrashSafety.antt says of attach, and on one thing more that
-- the code shows: the header is put together in an array of its own, and its write stores only inside its slot (`vhdx_rewrite`, `write`).
-- That a power failure does rests on what is said there too, and on the caller: all sectors are flushed before the header is written.
-- Assumes nothing.
use Rattle.std.specs.Prelude.{List, ◌≡◌, ℕ, zero, length}
use Rattle.vhdx_steps.specs.Steps.{File}
use Rattle.field.specs.Fields.{Bytes}
use Rattle.vhdx_close_steps.specs.Calls.{Calls}
use Rattle.vhdx_close_steps.specs.Failures.{History}
use Rattle.vhdx_close_steps.specs.Safety.{Recloses}
use Rattle.vhdx.specs.CrashSafety.{Applicable}

-- none of 1 to 8 applies to the original; 23 may. The first step in order is 0
abbrev pub CrashSafeClose : Type 0
CrashSafeClose =
    (identifier : List ℕ) → length identifier ≡ 16 → Bytes identifier → (o f : File) → Bytes o.buffer → Applicable o → Calls identifier zero o f
    → (length f.buffer ≡ length o.buffer) × Recloses identifier o f

-- and after every history of calls, flushes and power failures, in whatever buffers that hold the final length
abbrev pub PowerSafeClose : Type 0
PowerSafeClose =
    (identifier : List ℕ) → length identifier ≡ 16 → Bytes identifier → (o d f : File) (e : ℕ) → Bytes o.buffer → Applicable o → History identifier o d e f
    → Recloses identifier o f
