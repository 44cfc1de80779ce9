-- Facts in an array's slots, as the exported functions take and give them.
-- Assumes nothing.
use Rattle.std.specs.Prelude.{Bool, true, false, not, List, [], ◌∷◌, ℕ, ◌+◌, nat_eq, get_or, set}
use Rattle.vhdx_facts.specs.declared.Facts.{Facts}

abbrev pub bit : Bool → ℕ
bit false = 0
bit true = 1

-- numbers in an array's slots from slot i on; the others stay
unfoldable pub in_slots : ℕ → List ℕ → List ℕ → List ℕ
in_slots i [] slots = slots
in_slots i (x ∷ xs) slots = in_slots (i + 1) xs (set slots i x)

-- the facts in the order of the slots
unfoldable pub numbers : Facts → List ℕ
numbers f =
    f.logical_sector_size
    ∷ f.physical_sector_size
    ∷ f.block_size
    ∷ f.disk_size
    ∷ bit f.has_parent
    ∷ f.disk_id.low
    ∷ f.disk_id.high
    ∷ f.bat.offset
    ∷ f.bat.length
    ∷ f.metadata.offset
    ∷ f.metadata.length
    ∷ f.locator.offset
    ∷ f.locator.length
    ∷ []

-- slots 3 to 15
abbrev pub facts_in : Facts → List ℕ → List ℕ
facts_in f slots = in_slots 3 (numbers f) slots

-- from the same slots. A parent is there where its slot is not 0
unfoldable pub facts_from : List ℕ → Facts
facts_from slots =
    record {
      logical_sector_size = get_or slots 3 0;
      physical_sector_size = get_or slots 4 0;
      block_size = get_or slots 5 0;
      disk_size = get_or slots 6 0;
      has_parent = not (nat_eq (get_or slots 7 0) 0);
      disk_id = record { low = get_or slots 8 0; high = get_or slots 9 0 };
      bat = record { offset = get_or slots 10 0; length = get_or slots 11 0 };
      metadata = record { offset = get_or slots 12 0; length = get_or slots 13 0 };
      locator = record { offset = get_or slots 14 0; length = get_or slots 15 0 };
    }
