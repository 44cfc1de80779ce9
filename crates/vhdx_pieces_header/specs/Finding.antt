-- The current header in pieces: what is wanted, and what comes of it.
-- Assumes nothing.
use Rattle.std.specs.Prelude.{◌&&◌, List, ℕ, ◌+◌, ◌≤◌, nat_le, length, take, drop, Option, None, Some, Result, Ok, Err}
use Rattle.std.specs.declared.ops.ControlFlow.{ControlFlow}
use Rattle.std.specs.declared.ops.ControlFlow.TheVariants.{Continue, Break}
use Rattle.decision.specs.declared.Refusal.{Refusal}
use Rattle.decision.specs.declared.Refusal.TheVariants.{ImageLength, NotVhdx, NoCurrentHeader, HeaderField}
use Rattle.decision.specs.Refusal.{check}
use Rattle.field.specs.Fields.{starts}
use Rattle.extent.specs.Extent.{mib}
use Rattle.vhdx_header.specs.Header.{valid_header, field_rules, contents}
use Rattle.vhdx_header.specs.Current.{vhdxfile, slot1, slot2, chosen_slot, within_image, current_header}
use Rattle.vhdx_header.specs.declared.Header.{Header}
use Rattle.vhdx_header.specs.declared.choice.Slot.{Slot}
use Rattle.vhdx_header.specs.declared.choice.Slot.TheVariants as slot
use Rattle.vhdx_pieces_header.specs.declared.Candidate.{Candidate}
use Rattle.vhdx_pieces_header.specs.declared.Stage.{Stage}
use Rattle.vhdx_pieces_header.specs.declared.Stage.TheVariants.{Identifier, First, Second}

-- more bytes are wanted, or how it ended
abbrev pub Step : Type 0
Step = ControlFlow (Result Header Refusal) Stage

-- where in the file the wanted bytes stand, and how many they are
abbrev pub offset_of : Stage → ℕ
offset_of Identifier = 0
offset_of First = slot1
offset_of (Second c) = slot2

abbrev pub size_of : Stage → ℕ
size_of Identifier = 8
size_of First = 4096
size_of (Second c) = 4096

-- 1: of a file of n bytes
abbrev pub started : ℕ → ℕ → Step
started n capacity = check (nat_le n capacity && nat_le mib n) (Break (Err ImageLength)) (Continue Identifier)

-- 2
abbrev pub identified : List ℕ → Step
identified p = check (starts p vhdxfile) (Break (Err NotVhdx)) (Continue First)

abbrev pub candidate_of : ℕ → List ℕ → Candidate
candidate_of at h = record { valid = valid_header h; rules = field_rules h; header = contents at h }

abbrev pub judged : Candidate → Result Header Refusal
judged c = check c.rules (Err HeaderField) (Ok c.header)

abbrev pub chosen_by : Option Slot → Candidate → Candidate → Result Header Refusal
chosen_by None a b = Err NoCurrentHeader
chosen_by (Some slot.First) a b = judged a
chosen_by (Some slot.Second) a b = judged b

abbrev pub chosen : Candidate → Candidate → Result Header Refusal
chosen a b = chosen_by (chosen_slot a.valid b.valid a.header.sequence_number b.header.sequence_number) a b

abbrev pub step_in : ℕ → Stage → List ℕ → Step
step_in n Identifier p = identified p
step_in n First p = Continue (Second (candidate_of slot1 p))
step_in n (Second c) p = Break (within_image n (chosen c (candidate_of slot2 p)))

unfoldable pub step_of : ℕ → Stage → List ℕ → Step
step_of n stage p = step_in n stage p

-- fed the bytes of b that it wants, all of them among its first n, it ends with this answer
pub data Finds (b : List ℕ) (n : ℕ) : Step → Result Header Refusal → Type 0 where
  stop : {a : Result Header Refusal} → Finds b n (Break a) a
  next : {s : Stage} {a : Result Header Refusal} → offset_of s + size_of s ≤ n → Finds b n (step_of n s (take (size_of s) (drop (offset_of s) b))) a → Finds b n (Continue s) a

-- the theorem
abbrev pub FindsHeader : Type 0
FindsHeader = (b : List ℕ) (n : ℕ) → Finds b n (started n (length b)) (current_header b n)
