-- Document 01's table of refusals, rows 1 to 8, each as a test of its own (document 01, "When the gate says no"), and closing's row 23
-- behind them (change request Q-6). The plans decide them by a chain of tests, one behind the other; that the table says the same is
-- `ByTheTable` and `CloseByTheTable`.
-- Assumes nothing.
use Rattle.std.specs.Prelude.{Bool, false, cond, not, ◌&&◌, ◌||◌, List, [], ◌∷◌, ◌++◌, ◌≡◌, ℕ, nat_eq, nat_le, nat_lt, length, Option, None, Some, is_none}
use Rattle.field.specs.Fields.{number, starts}
use Rattle.extent.specs.Extent.{mib}
use Rattle.vhdx_header.specs.declared.Header.{Header}
use Rattle.vhdx_header.specs.Header.{field_rules, inside_rule, contents}
use Rattle.vhdx_header.specs.Current.{vhdxfile, header_at, current_offset, first_mib}
use Rattle.vhdx_sequence.specs.declared.Sequence.{Sequence}
use Rattle.vhdx_sequence.specs.Sequence.{active_sequence}
use Rattle.vhdx_walk.specs.Entries.{Entries, head, all_descriptors, sectors, length_limit}
use Rattle.vhdx_walk.specs.Bytes.{entries_from}
use Rattle.vhdx_log.specs.Work.{final_length, some_lies, Plan, refused, apply}
use Rattle.vhdx_log.specs.Plan.{log_bytes, extent_of}
use Rattle.vhdx_steps.specs.Steps.{File}
use Rattle.vhdx_steps.specs.Calls.{plan_of}
use Rattle.vhdx_rewrite.specs.Rewrite.{greatest}
use Rattle.vhdx_close_steps.specs.Close.{close_plan}

pub record Row : Type 0 where
  pub number : ℕ
  pub applies : Bool

-- "the first that applies is the answer"
abbrev pub first_of : List Row → Option ℕ
first_of [] = None
first_of (r ∷ rs) = cond r.applies (Some r.number) (first_of rs)

-- ---- what the rows speak of

-- the header at an offset of the first MiB
unfoldable pub header_in : File → ℕ → Header
header_in f at = contents at (header_at (first_mib f.buffer) at)

-- the active sequence of the log that a header names; none where the log identifier is zero
unfoldable pub active_of : File → Header → Option Sequence
active_of f h = cond (nat_eq (number h.log_guid) 0) None (active_sequence (log_bytes h f.buffer) h.log_guid)

-- its entries
unfoldable pub entries_of : File → Header → Sequence → Entries
entries_of f h q = entries_from (log_bytes h f.buffer) q.start q.more

-- the final length; without a sequence the given one
abbrev pub final_of : File → Header → Option Sequence → ℕ
final_of f h None = f.size
final_of f h (Some q) = final_length (entries_of f h q) f.size

-- a test of what may not be there: it does not apply then
abbrev pub of_some : {A : Type 0} → Option A → (A → Bool) → Bool
of_some None t = false
of_some (Some a) t = t a

-- ---- the rows; c is where the current header stands, if there is one

-- "length above the buffer's, or below 1 MiB"
unfoldable pub row1 : File → Bool
row1 f = nat_lt (length f.buffer) f.size || nat_lt f.size mib

-- "bytes 0-7 are not "vhdxfile""
unfoldable pub row2 : File → Bool
row2 f = not (starts (first_mib f.buffer) vhdxfile)

-- "no current header"
abbrev pub row3 : Option ℕ → Bool
row3 c = is_none c

-- "a field of the current header breaks its rule"
unfoldable pub row4 : Option ℕ → File → Bool
row4 c f = of_some c (λ at. not (field_rules (header_at (first_mib f.buffer) at) && inside_rule (header_in f at) f.size))

-- "log identifier not zero and no log sequence exists"
unfoldable pub row5 : Option ℕ → File → Bool
row5 c f = of_some c (λ at. not (nat_eq (number (header_in f at).log_guid) 0) && is_none (active_of f (header_in f at)))

-- "length below the active head's FlushedFileOffset"
unfoldable pub row6 : Option ℕ → File → Bool
row6 c f = of_some c (λ at. of_some (active_of f (header_in f at)) (λ q. nat_lt f.size (head (entries_of f (header_in f at) q)).flushed))

-- "a sector to be written lies in the first MiB or in the log"
unfoldable pub row7 : Option ℕ → File → Bool
row7 c f =
    of_some c
    (λ at. of_some (active_of f (header_in f at)) (λ q. some_lies (extent_of (header_in f at)) (sectors (all_descriptors (entries_of f (header_in f at) q)))))

-- "the final length is above the buffer's or above 128 TiB"
unfoldable pub row8 : Option ℕ → File → Bool
row8 c f =
    of_some c
    (λ at.
    let final = final_of f (header_in f at) (active_of f (header_in f at)) in
    nat_lt (length f.buffer) final || nat_lt length_limit final)

abbrev pub rows : Option ℕ → File → List Row
rows c f =
    record { number = 1; applies = row1 f }
    ∷ record { number = 2; applies = row2 f }
    ∷ record { number = 3; applies = row3 c }
    ∷ record { number = 4; applies = row4 c f }
    ∷ record { number = 5; applies = row5 c f }
    ∷ record { number = 6; applies = row6 c f }
    ∷ record { number = 7; applies = row7 c f }
    ∷ record { number = 8; applies = row8 c f }
    ∷ []

-- the table's answer
unfoldable pub first_row : File → Option ℕ
first_row f = first_of (rows (current_offset (first_mib f.buffer)) f)

-- the plan's
abbrev pub refusal_of_plan : Plan → Option ℕ
refusal_of_plan (refused c) = Some c
refusal_of_plan (apply m ss) = None

-- they are the same; so a plan is an application exactly when none of 1 to 8 applies. Proved in proofs/Refusals.antt
abbrev pub ByTheTable : Type 0
ByTheTable = (f : File) → refusal_of_plan (plan_of f) ≡ first_row f

-- ---- closing

-- "If the log identifier is already zero it succeeds ..; otherwise a sequence number at its greatest value is refused as 23": no number
-- of eight bytes is above it
unfoldable pub row23 : Option ℕ → File → Bool
row23 c f = of_some c (λ at. not (nat_eq (number (header_in f at).log_guid) 0) && nat_le greatest (header_in f at).sequence_number)

-- "after 8"
abbrev pub close_rows : Option ℕ → File → List Row
close_rows c f = rows c f ++ (record { number = 23; applies = row23 c f } ∷ [])

unfoldable pub first_close_row : File → Option ℕ
first_close_row f = first_of (close_rows (current_offset (first_mib f.buffer)) f)

-- whatever the identifier. Proved in proofs/CloseRefusals.antt
abbrev pub CloseByTheTable : Type 0
CloseByTheTable = (identifier : List ℕ) (f : File) → refusal_of_plan (close_plan identifier f) ≡ first_close_row f
