-- What stands in the slots that were written, and when facts are read from them.
-- Assumes nothing.
use mathlib.Core.Path.{◌≡◌, refl, ap, ◌∙◌}
use mathlib.Core.Bool.{Bool, true, false, not}
use mathlib.Core.List.{List, [], ◌∷◌}
use Prim.Native.Nat.{ℕ, zero, suc, ◌+◌, ◌≤◌, ◌<◌}
use native.Mathlib.Omega.{arith}
use lib.Dec.{eqb}
use lib.ListN.{length, get_or, set, length-set}
use lib.Seq.{get_or-set_same, get_or-set_other}
use Rattle.vhdx_facts.specs.declared.Facts.{Facts}
use Rattle.vhdx_slots.specs.Slots.{bit, in_slots, numbers, facts_from}

-- slots before the first that is written stay
below : (i j : ℕ) (xs slots : List ℕ) → j < i → get_or (in_slots i xs slots) j 0 ≡ get_or slots j 0
unfolding in_slots
below i j [] slots h = refl
below i j (x ∷ xs) slots h = below (i + 1) j xs (set slots i x) (omega arith) ∙ get_or-set_other slots i j x 0 (λ e. omega arith)

pub written : (i : ℕ) (xs slots : List ℕ) (k : ℕ) → i + length xs ≤ length slots → k < length xs → get_or (in_slots i xs slots) (i + k) 0 ≡ get_or xs k 0
unfolding in_slots
written i [] slots k h b = absurd (omega arith)
written i (x ∷ xs) slots zero h b =
    ap (λ (j : ℕ). get_or (in_slots (i + 1) xs (set slots i x)) j 0) {x = i + 0} {y = i} (omega arith)
    ∙ below (i + 1) i xs (set slots i x) (omega arith) ∙ get_or-set_same slots i x 0 (omega arith)
written i (x ∷ xs) slots (suc k) h b =
    ap (λ (j : ℕ). get_or (in_slots (i + 1) xs (set slots i x)) j 0) {x = i + suc k} {y = i + 1 + k} (omega arith)
    ∙ written (i + 1) xs (set slots i x) k (simp length-set (omega arith)) (omega arith)

pub bit-read : (b : Bool) → not (eqb (bit b) 0) ≡ b
bit-read true = refl
bit-read false = refl

-- facts are read from slots that hold their numbers
pub facts-read : (f : Facts) (slots : List ℕ) → ((k : ℕ) → k < 13 → get_or slots (3 + k) 0 ≡ get_or (numbers f) k 0) → facts_from slots ≡ f
unfolding facts_from numbers
facts-read f slots slot =
    λ i.
    record {
      logical_sector_size = slot 0 (omega arith) i;
      physical_sector_size = slot 1 (omega arith) i;
      block_size = slot 2 (omega arith) i;
      disk_size = slot 3 (omega arith) i;
      has_parent = (ap (λ (n : ℕ). not (eqb n 0)) (slot 4 (omega arith)) ∙ bit-read f.has_parent) i;
      disk_id = record { low = slot 5 (omega arith) i; high = slot 6 (omega arith) i };
      bat = record { offset = slot 7 (omega arith) i; length = slot 8 (omega arith) i };
      metadata = record { offset = slot 9 (omega arith) i; length = slot 10 (omega arith) i };
      locator = record { offset = slot 11 (omega arith) i; length = slot 12 (omega arith) i };
    }
