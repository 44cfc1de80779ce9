-- The current header of an image, or the refusal (document 01, "When the gate says no", 1 to 4, and "Headers").
-- What is read depends on the first MiB alone; on the length depend only 1 and, in 4, whether the log is inside the image.
-- Assumes nothing.
use Rattle.std.specs.Prelude.{Bool, true, false, cond, ◌&&◌, List, [], ◌∷◌, ℕ, nat_eq, nat_le, nat_lt, length, take, drop, Option, None, Some, Result, Ok, Err}
use Rattle.decision.specs.declared.Refusal.{Refusal}
use Rattle.decision.specs.declared.Refusal.TheVariants.{ImageLength, NotVhdx, NoCurrentHeader, HeaderField}
use Rattle.decision.specs.Refusal.{check}
use Rattle.field.specs.Fields.{starts}
use Rattle.extent.specs.Extent.{mib}
use Rattle.vhdx_header.specs.Header.{sequence_number_of, valid_header, field_rules, inside_rule, contents}
use Rattle.vhdx_header.specs.declared.Header.{Header}
use Rattle.vhdx_header.specs.declared.choice.Slot.{Slot}
use Rattle.vhdx_header.specs.declared.choice.Slot.TheVariants.{First, Second}

-- "vhdxfile"
abbrev pub vhdxfile : List ℕ
vhdxfile = 0x76 ∷ 0x68 ∷ 0x64 ∷ 0x78 ∷ 0x66 ∷ 0x69 ∷ 0x6c ∷ 0x65 ∷ []

-- "Headers are 4,096 bytes at 65,536 and 131,072."
abbrev pub slot1 : ℕ
slot1 = 65536

abbrev pub slot2 : ℕ
slot2 = 131072

unfoldable pub header_at : List ℕ → ℕ → List ℕ
header_at m at = take 4096 (drop at m)

-- "The current one is the only valid one, or the valid one with the greater sequence number. Two valid ones with equal
-- numbers: none is current." By whether the first and the second are valid, and their numbers
abbrev pub chosen_slot : Bool → Bool → ℕ → ℕ → Option Slot
chosen_slot false false a b = None
chosen_slot true false a b = Some First
chosen_slot false true a b = Some Second
chosen_slot true true a b = cond (nat_lt b a) (Some First) (cond (nat_lt a b) (Some Second) None)

-- the same of the two headers in the first MiB
unfoldable pub current_slot : List ℕ → Option Slot
current_slot m =
    let first = header_at m slot1 in
    let second = header_at m slot2 in
    chosen_slot (valid_header first) (valid_header second) (sequence_number_of first) (sequence_number_of second)

-- where the current header stands, if there is one
abbrev pub slot_offset : Option Slot → Option ℕ
slot_offset None = None
slot_offset (Some First) = Some slot1
slot_offset (Some Second) = Some slot2

unfoldable pub current_offset : List ℕ → Option ℕ
current_offset m = slot_offset (current_slot m)

-- 4: a field of the current header breaks its rule
unfoldable pub read_header : ℕ → List ℕ → Result Header Refusal
read_header at h = check (field_rules h) (Err HeaderField) (Ok (contents at h))

-- 3: no current header
abbrev pub read_slot : Option Slot → List ℕ → Result Header Refusal
read_slot None m = Err NoCurrentHeader
read_slot (Some First) m = read_header slot1 (header_at m slot1)
read_slot (Some Second) m = read_header slot2 (header_at m slot2)

-- 2: bytes 0-7 are not "vhdxfile"
unfoldable pub read_first_mib : List ℕ → Result Header Refusal
read_first_mib m = check (starts m vhdxfile) (Err NotVhdx) (read_slot (current_slot m) m)

-- 4, the rule that the length n decides too
abbrev pub within_image : ℕ → Result Header Refusal → Result Header Refusal
within_image n (Err r) = Err r
within_image n (Ok h) = check (inside_rule h n) (Err HeaderField) (Ok h)

-- all that a header is read from
unfoldable pub first_mib : List ℕ → List ℕ
first_mib buffer = take mib buffer

-- of the image that is the first n bytes of a buffer. 1: length above the buffer's, or below 1 MiB
unfoldable pub current_header : List ℕ → ℕ → Result Header Refusal
current_header buffer n = check (nat_le n (length buffer) && nat_le mib n) (Err ImageLength) (within_image n (read_first_mib (first_mib buffer)))

-- the header that is not the one at an offset (change request Q-6: "the header that isn't current")
abbrev pub other_slot : ℕ → ℕ
other_slot at = cond (nat_eq at slot1) slot2 slot1
