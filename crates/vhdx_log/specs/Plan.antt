-- The plan of a log's work, from the bytes of a buffer (document 01, "The log" and "When the gate says no", 1 to 8). What is
-- read are the first MiB and the log; the lengths of image and buffer are numbers.
-- Assumes nothing.
use Rattle.std.specs.Prelude.{cond, List, [], ℕ, nat_eq, length, take, drop, Option, None, Some, Result, Ok, Err}
use Rattle.decision.specs.declared.Refusal.{Refusal}
use Rattle.decision.specs.Refusal.{number as number_of}
use Rattle.field.specs.Fields.{number}
use Rattle.extent.specs.declared.Extent.{Extent}
use Rattle.vhdx_header.specs.declared.Header.{Header}
use Rattle.vhdx_header.specs.Current.{current_header}
use Rattle.vhdx_sequence.specs.declared.Sequence.{Sequence}
use Rattle.vhdx_sequence.specs.Sequence.{active_sequence}
use Rattle.vhdx_walk.specs.Bytes.{entries_from}
use Rattle.vhdx_log.specs.Work.{Plan, refused, work, apply_within}

-- the log's bytes in a buffer
unfoldable pub log_bytes : Header → List ℕ → List ℕ
log_bytes h buffer = take h.log_length (drop h.log_offset buffer)

-- where that is
abbrev pub extent_of : Header → Extent
extent_of h = record { offset = h.log_offset; length = h.log_length }

-- 5: "log identifier not zero and no log sequence exists"
unfoldable pub plan_sequence : Extent → List ℕ → ℕ → ℕ → Option Sequence → Plan
plan_sequence extent log n capacity None = refused 5
plan_sequence extent log n capacity (Some q) = work extent (entries_from log q.start q.more) n capacity

-- "Log identifier zero: no active sequence, no sectors, no growth."; 8 still applies to the length itself
unfoldable pub plan_log : Header → List ℕ → ℕ → ℕ → Plan
plan_log h log n capacity =
    cond (nat_eq (number h.log_guid) 0) (apply_within capacity n [])
    (plan_sequence (extent_of h) log n capacity (active_sequence log h.log_guid))

-- 1 to 4 as the header's reader decides them
unfoldable pub plan_header : Result Header Refusal → List ℕ → ℕ → Plan
plan_header (Err r) buffer n = refused (number_of r)
plan_header (Ok h) buffer n = plan_log h (log_bytes h buffer) n (length buffer)

-- of the image that is the first n bytes of a buffer
unfoldable pub plan : List ℕ → ℕ → Plan
plan buffer n = plan_header (current_header buffer n) buffer n
