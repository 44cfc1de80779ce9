-- What the rules of a metadata region say of its entries, and where its items lie.
-- Assumes nothing.
use mathlib.Core.Path.{◌≡◌, refl, sym, ap, ◌∙◌}
use mathlib.Core.Bool.{Bool, true, false, cond, not, ◌&&◌, ◌||◌, and-eq-true_iff}
use mathlib.Core.List.{List}
use Rattle.std.specs.Prelude.{Option, None, Some, is_some}
use Prim.Native.Nat.{ℕ, ◌+◌, ◌%◌, ◌≤◌, ◌<◌}
use native.Mathlib.Omega.{arith}
use lib.Dec.{eqb, leb, ltb}
use lib.ListN.{length, get_or}
use borrow.Author.Tests.{ltb-true, leb-true, eqb-true}
use Rattle.decision.specs.Bounded.{every}
use Rattle.decision.specs.Refusal.{answered}
use Rattle.decision.proofs.Laws.{every-at, first_holds, check-answered}
use Rattle.field.specs.declared.Guid.{Guid}
use Rattle.field.specs.Fields.{field, starts, guid_at, number}
use Rattle.field.proofs.Laws.{number_at}
use Rattle.extent.specs.declared.Extent.{Extent}
use Rattle.extent.specs.Extent.{mib, inside}
use Rattle.guid.specs.Stored.{row_of}
use Rattle.vhdx_metadata.specs.Known.{known_items, known_lengths, parent_locator}
use Rattle.vhdx_metadata.specs.Table.{metadata, entry_count, table_rule, entry, identifier, item_offset, item_length, item_extent, is_user, length_rule, offset_rule, location_rule, unique_rule, is_known, required_rule, own_rule, entry_rule, entries_rule, metadata_rule}
use Rattle.vhdx_metadata.specs.Items.{is_item, entry_of, is_length, is_there_at, is_there, extent_at, extent_of, has_parent_of, needed_rule, contents, items}
use Rattle.vhdx_metadata.specs.declared.Items.{Items}

both : (a b : Bool) → (a && b) ≡ true → (a ≡ true) × (b ≡ true)
both a b = (and-eq-true_iff a b).0

-- ---- an entry

-- its identifier, read in two halves
pub identified : (e : List ℕ) {g : Guid} → length e ≡ 32 → g ≡ guid_at e 0 → number g ≡ identifier e
identified e h p = ap number p ∙ number_at e 0 (omega arith)

-- an entry is known by the row that its identifier is found in
pub known-by-row : (e : List ℕ) → 8 ≤ length e → {table : List (List ℕ)} {g : Guid} {x : Option ℕ} → table ≡ known_items → g ≡ guid_at e 0 → x ≡ row_of table (number g) → is_known e ≡ (not (is_user e) && is_some x)
unfolding is_known
known-by-row e h {g} p q f =
    let id : number g ≡ field e 0 16 = ap number q ∙ number_at e 0 h in
    rw (← id, ← p, ← f)

-- an item without bytes stands at 0, so it lies inside too
offset-inside : (n : ℕ) (p : Extent) → offset_rule n p ≡ true → p.offset + p.length ≤ n
offset-inside n p h = go (eqb p.length 0) refl h
  where
    go : (t : Bool) → eqb p.length 0 ≡ t → cond t (eqb p.offset 0) (leb 65536 p.offset && inside p.offset p.length n) ≡ true → p.offset + p.length ≤ n
    go true e h =
        let a : p.length ≡ 0 = eqb-true p.length 0 e in
        let b : p.offset ≡ 0 = eqb-true p.offset 0 h in
        omega arith
    go false e h = leb-true (p.offset + p.length) n (both (leb 65536 p.offset) (inside p.offset p.length n) h).1

pub location-inside : (n : ℕ) (p : Extent) → location_rule n p ≡ true → p.offset + p.length ≤ n
unfolding location_rule
location-inside n p h = offset-inside n p (both (length_rule p) (offset_rule n p) h).1

own-inside : (n : ℕ) (e : List ℕ) → own_rule n e ≡ true → item_offset e + item_length e ≤ n
unfolding own_rule
own-inside n e h = location-inside n (item_extent e) (both (location_rule n (item_extent e)) (required_rule e) h).0

-- ---- the entries of a table

pub count-limit : (r : List ℕ) → table_rule r ≡ true → entry_count r ≤ 2047
unfolding table_rule
count-limit r h = leb-true _ _ (both (starts r metadata) (leb (entry_count r) 2047) h).1

entry-counted : (r : List ℕ) (row : ℕ) {i : ℕ} → entry_of r row ≡ Some i → i < entry_count r
unfolding entry_of
entry-counted r row h = (first_holds (λ (i : ℕ). is_item row (entry r i)) (entry_count r) h).0

-- an entry that a search found is one that can be read
pub found_below : (r : List ℕ) (row : ℕ) {i : ℕ} → table_rule r ≡ true → entry_of r row ≡ Some i → i < 2047
found_below r row h e = omega (arith, count-limit r h, entry-counted r row e)

-- ---- what the rules of refusal 12 say

module _ (r : List ℕ) (h : metadata_rule r ≡ true) where
  rules : (ltb 0 (length r) ≡ true) × ((table_rule r ≡ true) × (entries_rule r ≡ true))
  unfolding metadata_rule
  rules =
      let p = both (ltb 0 (length r)) (table_rule r && entries_rule r) h in
      (p.0, both (table_rule r) (entries_rule r) p.1)

  pub table_kept : table_rule r ≡ true
  table_kept = rules.1.0

  -- the region holds the table, and the table's end is where items may start
  pub holds-table : length r % mib ≡ 0 → 65536 ≤ length r
  holds-table whole = let a : 0 < length r = ltb-true 0 (length r) rules.0 in omega arith

  pub item-inside : (i : ℕ) → i < entry_count r → item_offset (entry r i) + item_length (entry r i) ≤ length r
  unfolding entries_rule entry_rule
  item-inside i b =
      own-inside (length r) (entry r i)
      (both (own_rule (length r) (entry r i)) (every i (λ (j : ℕ). unique_rule (entry r j) (entry r i))) (every-at (entry_rule r) (entry_count r) i rules.1.1 b)).0

  pub extent-inside : (row : ℕ) {e : Extent} → e ≡ extent_of r row → e.offset + e.length ≤ length r
  unfolding extent_of
  extent-inside row {e} k = go (entry_of r row) refl k
    where
      go : (o : Option ℕ) → entry_of r row ≡ o → e ≡ extent_at r o → e.offset + e.length ≤ length r
      go None f k = rw k (omega arith)
      go (Some i) f k = rw k (item-inside i (entry-counted r row f))

-- ---- the items

-- the first five have a length of their own
fixed : (row : ℕ) → row < 5 → is_some (get_or known_lengths row None) ≡ true
unfolding every known_lengths
fixed row b = every-at (λ (k : ℕ). is_some (get_or known_lengths k None)) 5 row refl b

its-length : (l : Option ℕ) (n : ℕ) → is_some l ≡ true → is_length l n ≡ true → l ≡ Some n
its-length None n s h = let z : ◌≡◌ {A = ℕ} 0 1 = cc in absurd (omega arith)
its-length (Some m) n s h = ap (λ (k : ℕ). Some k) (sym (eqb-true n m h))

pub extent-fixed : (r : List ℕ) (row : ℕ) → row < 5 → is_there r row ≡ true → get_or known_lengths row None ≡ Some (extent_of r row).length
unfolding is_there extent_of
extent-fixed r row b h = go (entry_of r row) h
  where
    go : (o : Option ℕ) → is_there_at r row o ≡ true → get_or known_lengths row None ≡ Some (extent_at r o).length
    go None h = let z : ◌≡◌ {A = ℕ} 0 1 = cc in absurd (omega arith)
    go (Some i) h = its-length (get_or known_lengths row None) (item_length (entry r i)) (fixed row b) h

-- the length, where the table gives one
pub fixed_length : {m n : ℕ} → Some m ≡ Some n → n ≡ m
fixed_length e = cc e

-- what the code asks where it reads one of the first five, which are needed
pub readable : (r : List ℕ) → (length r % mib ≡ 0) × (metadata_rule r ≡ true) × (needed_rule r ≡ true) → (row : ℕ) → row < 5 → (65536 ≤ length r) × (metadata_rule r ≡ true) × (row < 5) × (is_there r row ≡ true)
unfolding needed_rule
readable r h row b =
    let five = (both (every 5 (is_there r)) (not (has_parent_of r) || is_there r parent_locator) h.2).0 in
    (holds-table r h.1 h.0, h.1, b, every-at (is_there r) 5 row five b)

-- where items are answered, the locator lies inside the region, also where it is nowhere
pub locator-inside : (r : List ℕ) {m : Items} → items r ≡ answered m → m.locator.offset + m.locator.length ≤ length r
unfolding items contents
locator-inside r {m} e =
    let p = check-answered (metadata_rule r) 12 _ e in
    let q = check-answered (needed_rule r) 13 _ p.1 in
    let same : contents r ≡ m = cc q.1 in
    extent-inside r p.0 parent_locator (ap (λ (x : Items). x.locator) (sym same))
