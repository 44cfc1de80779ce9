-- What callers know of the regions found in an image: where they lie, and that they share no byte.
-- Assumes nothing.
use mathlib.Core.Path.{◌≡◌, refl, sym, ap, subst, ◌∙◌}
use mathlib.Core.Bool.{Bool, true, false, cond, and-eq-true_iff}
use mathlib.Core.List.{List}
use Rattle.std.specs.Prelude.{Option, None, Some}
use Prim.Native.Nat.{ℕ, ◌+◌, ◌%◌, ◌≤◌, ◌<◌}
use native.Mathlib.Decide.{dec_lt}
use native.Mathlib.Omega.{arith}
use lib.Dec.{eqb}
use lib.ListN.{length}
use borrow.Author.Tests.{eqb-true, eqb-false, leb-true, not-true}
use Rattle.decision.specs.Bounded.{every}
use Rattle.decision.specs.Refusal.{Outcome, refused, answered}
use Rattle.decision.proofs.Laws.{every-at, check-answered}
use Rattle.field.specs.Fields.{le, field}
use Rattle.extent.specs.declared.Extent.{Extent}
use Rattle.extent.specs.Extent.{mib, whole_mib, shares}
use Rattle.extent.proofs.Laws.{shares-symmetric}
use Rattle.guid.specs.Stored.{lowest_first, highest_first, stored, identifier_in}
use Rattle.vhdx_region.specs.declared.Regions.{Regions}
use Rattle.vhdx_region.specs.Region.{copy1, copy2, table_at, entry_count, valid_table, entry, identifier, known_regions, bat_row, metadata_row, unique_rule, offset_rule, length_rule, inside_rule, apart_rule, location_rule, own_rule, pair_rule, entry_rule, entries_rule, extent_of, entry_of, both_found, read_table, regions}
use Rattle.vhdx_region.proofs.Entries.{found-entry}

-- where a region lies, in an image of n bytes
pub record Placed (n : ℕ) (e : Extent) : Type 0 where
  pub offset_whole : e.offset % mib ≡ 0
  pub start : mib ≤ e.offset
  pub length_whole : e.length % mib ≡ 0
  pub inside : e.offset + e.length ≤ n

-- two of them share no byte
abbrev pub Apart : Extent → Extent → Type 0
Apart d e = shares d.offset d.length e.offset e.length ≡ false

pub record Found (n : ℕ) (g : Regions) : Type 0 where
  pub bat_placed : Placed n g.bat
  pub metadata_placed : Placed n g.metadata
  pub apart : Apart g.bat g.metadata

pub placed_by : (n : ℕ) (p : Extent) → location_rule n p ≡ true → Placed n p
unfolding location_rule
placed_by n p h =
    let r₁ = (and-eq-true_iff (offset_rule p) _).0 h in
    let r₂ = (and-eq-true_iff (length_rule p) (inside_rule n p)).0 r₁.1 in
    let r = (and-eq-true_iff (whole_mib p.offset) _).0 r₁.0 in
    record {
      offset_whole = eqb-true _ _ r.0;
      start = leb-true _ _ r.1;
      length_whole = eqb-true _ _ r₂.0;
      inside = leb-true _ _ r₂.1;
    }

entry-placed : (n : ℕ) (log : Extent) (e : List ℕ) → own_rule n log e ≡ true → Placed n (extent_of e)
unfolding own_rule
entry-placed n log e h = placed_by n (extent_of e) ((and-eq-true_iff (location_rule n (extent_of e)) _).0 h).0

-- that the two known identifiers differ is computed
rows-differ : eqb (identifier_in known_regions bat_row) (identifier_in known_regions metadata_row) ≡ false
unfolding identifier_in known_regions stored lowest_first highest_first field le
rows-differ = refl

-- so their entries are two
entries-differ : (t : List ℕ) {b m : ℕ} → entry_of t bat_row ≡ Some b → entry_of t metadata_row ≡ Some m → b ≡ m → ⊥
entries-differ t p q same =
    eqb-false _ _ rows-differ
    ((found-entry t bat_row p).1 ∙ ap (λ (i : ℕ). identifier (entry t i)) same ∙ sym (found-entry t metadata_row q).1)

module _ (n : ℕ) (log : Extent) (t : List ℕ) (kept : entries_rule n log t ≡ true) where
  kept_at : (i : ℕ) → i < entry_count t → (own_rule n log (entry t i) ≡ true) × (every i (λ j. pair_rule (entry t j) (entry t i)) ≡ true)
  unfolding entries_rule entry_rule
  kept_at i h = (and-eq-true_iff (own_rule n log (entry t i)) _).0 (every-at (entry_rule n log t) (entry_count t) i kept h)

  from-earlier : (j i : ℕ) → j < i → i < entry_count t → Apart (extent_of (entry t j)) (extent_of (entry t i))
  unfolding pair_rule
  from-earlier j i b h =
      not-true _
      ((and-eq-true_iff (unique_rule (entry t j) (entry t i)) (apart_rule (extent_of (entry t j)) (extent_of (entry t i)))).0
      (every-at (λ (k : ℕ). pair_rule (entry t k) (entry t i)) i j (kept_at i h).1 b)).1

  two-apart : (i j : ℕ) → (i ≡ j → ⊥) → i < entry_count t → j < entry_count t → Apart (extent_of (entry t i)) (extent_of (entry t j))
  two-apart i j other hi hj = go (dec_lt i j)
    where
      go : Dec (i < j) → Apart (extent_of (entry t i)) (extent_of (entry t j))
      go (yes b) = from-earlier i j b hj
      go (no b) =
          let d = extent_of (entry t i) in
          let e = extent_of (entry t j) in
          shares-symmetric d.offset d.length e.offset e.length ∙ from-earlier j i (omega (arith, other)) hi

  found-both : (b m : Option ℕ) → entry_of t bat_row ≡ b → entry_of t metadata_row ≡ m → {g : Regions} → both_found t b m ≡ answered g → Found n g
  found-both None m p q e = let z : ◌≡◌ {A = ℕ} 0 1 = cc in absurd (omega arith)
  found-both (Some b) None p q e = let z : ◌≡◌ {A = ℕ} 0 1 = cc in absurd (omega arith)
  found-both (Some b) (Some m) p q {g} e =
      let same : ◌≡◌ {A = Regions} (record { bat = extent_of (entry t b); metadata = extent_of (entry t m) }) g = cc e in
      let hb = (found-entry t bat_row p).0 in
      let hm = (found-entry t metadata_row q).0 in
      subst (Found n) same
      (record {
        bat_placed = entry-placed n log (entry t b) (kept_at b hb).0;
        metadata_placed = entry-placed n log (entry t m) (kept_at m hm).0;
        apart = two-apart b m (entries-differ t p q) hb hm;
      })

placed-table : (n : ℕ) (log : Extent) (t : List ℕ) {g : Regions} → read_table n log t ≡ answered g → Found n g
unfolding read_table
placed-table n log t e =
    let p = check-answered (entries_rule n log t) 10 (both_found t (entry_of t bat_row) (entry_of t metadata_row)) e in
    found-both n log t p.0 (entry_of t bat_row) (entry_of t metadata_row) refl refl p.1

pub placed : (image : List ℕ) (log : Extent) {g : Regions} → regions image log ≡ answered g → Found (length image) g
unfolding regions
placed image log {g} e = go (valid_table (table_at image copy1)) (valid_table (table_at image copy2)) e
  where
    table : ℕ → Outcome Regions
    table at = read_table (length image) log (table_at image at)

    go : (a b : Bool) → cond a (table copy1) (cond b (table copy2) (refused 9)) ≡ answered g → Found (length image) g
    go true b e = placed-table (length image) log (table_at image copy1) e
    go false true e = placed-table (length image) log (table_at image copy2) e
    go false false e = let z : ◌≡◌ {A = ℕ} 0 1 = cc in absurd (omega arith)
