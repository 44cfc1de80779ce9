-- An answer, or a refusal by a number of document 01, "When the gate says no": "Checked in this order; the first that applies
-- is the answer."
-- Assumes nothing.
use Rattle.std.specs.Prelude.{Bool, true, false, ℕ, Result, Ok, Err}
use Rattle.decision.specs.declared.Refusal.{Refusal}
use Rattle.decision.specs.declared.Refusal.TheVariants.{ImageLength, NotVhdx, NoCurrentHeader, HeaderField, NoLogSequence, ShorterThanFlushed, ForbiddenSector, FinalLength, NoRegionTable, RegionEntry, RegionMissing, MetadataEntry, ItemMissing, ItemValue, BatTooShort, FactsDoNotFit, NoSuchSector, BlockState, BlockOutside, BitmapOutside, NoSuchStep, StepOutside, SequenceNumberSpent}

-- the number of each, as 01 counts them
abbrev pub number : Refusal → ℕ
number ImageLength = 1
number NotVhdx = 2
number NoCurrentHeader = 3
number HeaderField = 4
number NoLogSequence = 5
number ShorterThanFlushed = 6
number ForbiddenSector = 7
number FinalLength = 8
number NoRegionTable = 9
number RegionEntry = 10
number RegionMissing = 11
number MetadataEntry = 12
number ItemMissing = 13
number ItemValue = 14
number BatTooShort = 15
number FactsDoNotFit = 16
number NoSuchSector = 17
number BlockState = 18
number BlockOutside = 19
number BitmapOutside = 20
number NoSuchStep = 21
number StepOutside = 22
number SequenceNumberSpent = 23

pub data Outcome (A : Type 0) : Type 0 where
  refused : ℕ → Outcome A
  answered : A → Outcome A

-- a chain of tests: one that fails refuses, whatever comes behind it
abbrev pub check : {A : Type 0} → Bool → A → A → A
check true refusal rest = rest
check false refusal rest = refusal

-- what is decided with an answer in hand; a refusal stays
abbrev pub and_then : {A B : Type 0} → Outcome A → (A → Outcome B) → Outcome B
and_then (refused c) f = refused c
and_then (answered a) f = f a

-- the refusal's number, or 0
abbrev pub refusal_of : {A : Type 0} → Outcome A → ℕ
refusal_of (refused c) = c
refusal_of (answered a) = 0

-- what the code answers: the value, or why not
abbrev pub outcome : {A : Type 0} → Result A Refusal → Outcome A
outcome (Err r) = refused (number r)
outcome (Ok a) = answered a
