-- What is known of a locator that keeps its rule, of its entries, and of the value of a key.
-- Assumes nothing.
use mathlib.Core.Path.{◌≡◌, refl}
use mathlib.Core.Bool.{Bool, true, false, cond, and-eq-true_iff}
use mathlib.Core.List.{List}
use Rattle.std.specs.Prelude.{Option, None, Some}
use Prim.Native.Nat.{ℕ, ◌+◌, ◌≤◌, ◌<◌}
use native.Mathlib.Omega.{arith}
use lib.Dec.{ltb}
use lib.ListN.{length}
use borrow.Author.Tests.{leb-true, ltb-true}
use Rattle.decision.specs.Bounded.{every}
use Rattle.decision.proofs.Laws.{every-at, first_holds}
use Rattle.field.specs.Fields.{le, field, guid_at, number}
use Rattle.extent.specs.Extent.{inside, nowhere}
use Rattle.guid.specs.Stored.{stored, lowest_first, highest_first}
use Rattle.vhdx_locator.specs.Locator.{vhdx_type, entry_count, entry_start, key_offset, key_length, value_offset, value_length, size_rule, type_rule, entries_rule, part_rule, entry_rule, locator_rule, has_key, entry_of, value_at, value_of}

-- the type's halves, as they are compared, are the type
pub type-number : number (guid_at vhdx_type 0) ≡ le vhdx_type
unfolding vhdx_type stored lowest_first highest_first field le
type-number = refl

-- ---- a key or a value

pub record Part (item : List ℕ) (offset n : ℕ) : Type 0 where
  pub not_empty : 0 < n
  pub within : offset + n ≤ length item

part : (item : List ℕ) (offset n : ℕ) → part_rule item offset n ≡ true → Part item offset n
part item offset n h =
    let p = (and-eq-true_iff (ltb 0 n) (inside offset n (length item))).0 h in
    record { not_empty = ltb-true 0 n p.0; within = leb-true (offset + n) (length item) p.1 }

module _ (item : List ℕ) (i : ℕ) (h : entry_rule item i ≡ true) where
  both : (part_rule item (key_offset item i) (key_length item i) ≡ true) × (part_rule item (value_offset item i) (value_length item i) ≡ true)
  unfolding entry_rule
  both = (and-eq-true_iff (part_rule item (key_offset item i) (key_length item i)) (part_rule item (value_offset item i) (value_length item i))).0 h

  pub key-part : Part item (key_offset item i) (key_length item i)
  key-part = part item (key_offset item i) (key_length item i) both.0

  pub value-part : Part item (value_offset item i) (value_length item i)
  value-part = part item (value_offset item i) (value_length item i) both.1

-- ---- the locator

pub record Keeps (item : List ℕ) : Type 0 where
  pub size : 20 ≤ length item
  pub entries : entry_start (entry_count item) ≤ length item
  pub rules : every (entry_count item) (λ i. entry_rule item i) ≡ true

pub keeps : (item : List ℕ) → locator_rule item ≡ true → Keeps item
unfolding locator_rule
keeps item h =
    let p = (and-eq-true_iff (size_rule (length item)) _).0 h in
    let q = (and-eq-true_iff (type_rule item) _).0 p.1 in
    let r = (and-eq-true_iff (entries_rule item) (every (entry_count item) (λ i. entry_rule item i))).0 q.1 in
    record { size = leb-true 20 (length item) p.0; entries = leb-true _ (length item) r.0; rules = r.1 }

pub entry-keeps : (item : List ℕ) (i : ℕ) → Keeps item → i < entry_count item → entry_rule item i ≡ true
entry-keeps item i k b = every-at (λ j. entry_rule item j) (entry_count item) i k.rules b

-- what an entry of a locator that keeps its rule lets its reader ask
module _ (item : List ℕ) (i : ℕ) (h : locator_rule item ≡ true) (b : i < entry_count item) where
  pub entry_inside : entry_start (i + 1) ≤ length item
  entry_inside = omega (arith, keeps item h)

  pub entry_kept : entry_rule item i ≡ true
  entry_kept = entry-keeps item i (keeps item h) b

-- ---- the value of a key

module _ (item key : List ℕ) where
  pub entry_found : {i : ℕ} → entry_of item key ≡ Some i → i < entry_count item
  unfolding entry_of
  entry_found e = (first_holds (has_key item key) (entry_count item) e).0

  pub value_found : {i : ℕ} → locator_rule item ≡ true → entry_of item key ≡ Some i → Part item (value_offset item i) (value_length item i)
  value_found {i} h e = value-part item i (entry-keeps item i (keeps item h) (entry_found e))

  -- a caller may take that part of the item, also where there is no value
  pub value-inside : (value_of item key).offset + (value_of item key).length ≤ length item
  unfolding value_of
  value-inside = go (locator_rule item) refl (entry_of item key) refl
    where
      go : (t : Bool) → locator_rule item ≡ t → (o : Option ℕ) → entry_of item key ≡ o → (cond t (value_at item o) nowhere).offset + (cond t (value_at item o) nowhere).length ≤ length item
      go false h o e = omega arith
      go true h None e = omega arith
      go true h (Some i) e = (value_found h e).within
