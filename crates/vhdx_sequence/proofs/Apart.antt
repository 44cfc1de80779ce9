-- The valid entries of a log lie apart, whatever its bytes are: a sector of a valid entry after its first begins with a
-- descriptor or is a data sector, so that it is not marked "loge".
-- Assumes nothing.
use mathlib.Core.Path.{◌≡◌, refl, sym, ap, ◌∙◌, subst}
use mathlib.Core.Bool.{Bool, true, false, ◌&&◌, ◌||◌, and-eq-true_iff}
use mathlib.Core.List.{List}
use Rattle.std.specs.Prelude.{Some}
use Prim.Native.Nat.{ℕ, ◌+◌, ◌-◌, ◌*◌, ◌%◌, ◌≤◌, ◌<◌}
use native.Mathlib.Decide.{dec_lt}
use native.Mathlib.Nat.{div-add-mod}
use native.Mathlib.Omega.{arith}
use lib.Dec.{eqb, ltb}
use lib.ListN.{length}
use borrow.Author.Tests.{eqb-true, eq-eqb, ne_eqb, leb-true, ltb-true}
use Rattle.decision.proofs.Laws.{every-at, only_if-some}
use Rattle.field.specs.declared.Guid.{Guid}
use Rattle.field.specs.Fields.{field}
use Rattle.vhdx_entry.specs.declared.Entry.{Entry}
use Rattle.vhdx_entry.specs.Ring.{sector_count, ring, sector_at}
use Rattle.vhdx_entry.specs.Entry.{loge, desc, zeroes, datum, signature, tail, sequence_number_of, descriptor_count, descriptor_start, descriptor, is_data_descriptor, is_zero, zero_length, whole_sectors, descriptor_sectors, data_count, data_sector, size, descriptor_rule, descriptors_rule, data_sector_rule, data_sectors_rule, valid_entry, contents, entry_at}
use Rattle.vhdx_entry.proofs.Laws.{field_in, length-ring, sector-on, first_field}
use Rattle.vhdx_entry.proofs.Clauses.{keeps}
use Rattle.vhdx_sequence.specs.Scan.{mark_at, number_at}
use Rattle.vhdx_sequence.proofs.Chain.{Apart}

-- what a valid entry is asked, of the ring read from its start
record Asked (r : List ℕ) : Type 0 where
  marked : signature r ≡ loge
  in_log : tail r < length r
  fits : size r * 4096 ≤ length r
  each_descriptor : descriptors_rule r ≡ true
  each_sector : data_sectors_rule r ≡ true

asked : (guid : Guid) (r : List ℕ) → valid_entry guid r ≡ true → Asked r
asked guid r h =
    let k = keeps guid r h in
    record {
      marked = eqb-true _ _ k.signed;
      in_log = ltb-true _ _ ((and-eq-true_iff (whole_sectors (tail r)) (ltb (tail r) (length r))).0 k.tailed).1;
      fits = leb-true _ _ k.fits;
      each_descriptor = k.described;
      each_sector = k.filled;
    }

-- a descriptor, and a data sector, do not begin with "loge"
descriptor-says : (number : ℕ) (d : List ℕ) → descriptor_rule number d ≡ true → signature d ≡ loge → ⊥
unfolding descriptor_rule
descriptor-says number d h e = go (is_data_descriptor d) refl ((and-eq-true_iff (is_data_descriptor d || (is_zero d && whole_sectors (zero_length d))) _).0 h).0
  where
    go : (t : Bool) → is_data_descriptor d ≡ t → (t || (is_zero d && whole_sectors (zero_length d))) ≡ true → ⊥
    go true a b =
        let c : signature d ≡ desc = eqb-true _ _ a in
        omega arith
    go false a b =
        let c : signature d ≡ zeroes = eqb-true _ _ ((and-eq-true_iff (is_zero d) _).0 b).0 in
        omega arith

sector-says : (number : ℕ) (d : List ℕ) → data_sector_rule number d ≡ true → signature d ≡ loge → ⊥
unfolding data_sector_rule
sector-says number d h e =
    let c : signature d ≡ datum = eqb-true _ _ ((and-eq-true_iff (eqb (signature d) datum) _).0 h).0 in
    omega arith

descriptor-at : (r : List ℕ) (i : ℕ) → descriptors_rule r ≡ true → i < descriptor_count r → signature (descriptor r i) ≡ loge → ⊥
unfolding descriptors_rule
descriptor-at r i h b = descriptor-says _ _ (every-at (λ k. descriptor_rule (sequence_number_of r) (descriptor r k)) (descriptor_count r) i h b)

sector-at : (r : List ℕ) (k : ℕ) → data_sectors_rule r ≡ true → k < data_count r → signature (data_sector r k) ≡ loge → ⊥
unfolding data_sectors_rule
sector-at r k h b = sector-says _ _ (every-at (λ i. data_sector_rule (sequence_number_of r) (data_sector r i)) (data_count r) k h b)

-- sector j of the entry, in its header and descriptors, begins where descriptor i begins
descriptor-begins : (r : List ℕ) (i j : ℕ) → descriptor_start i ≡ j * 4096 → signature (descriptor r i) ≡ signature (sector_at r j)
unfolding descriptor sector_at
descriptor-begins r i j h =
    field_in r (descriptor_start i) 32 0 4 (omega arith)
    ∙ ap (λ (x : ℕ). field r (x + 0) 4) h
    ∙ sym (field_in r (j * 4096) 4096 0 4 (omega arith))

-- 126 descriptors stand in the first sector and 128 in each other: sector j begins with descriptor 128 j - 2
unmarked : (r : List ℕ) (j : ℕ) → Asked r → 0 < j → j < size r → signature (sector_at r j) ≡ loge → ⊥
unmarked r j a p q e = go (dec_lt j (descriptor_sectors (descriptor_count r)))
  where
    go : Dec (j < descriptor_sectors (descriptor_count r)) → ⊥
    go (yes b) =
        descriptor-at r (128 * j - 2) a.each_descriptor (omega arith)
        (descriptor-begins r (128 * j - 2) j (omega arith) ∙ e)
    go (no b) =
        sector-at r (j - descriptor_sectors (descriptor_count r)) a.each_sector (omega arith)
        (ap (λ (x : ℕ). signature (sector_at r x)) (omega arith) ∙ e)

entry-is : (log : List ℕ) (guid : Guid) (s : ℕ) (e : Entry) → entry_at log guid s ≡ Some e → (valid_entry guid (ring log s) ≡ true) × (contents (ring log s) ≡ e)
unfolding entry_at
entry-is log guid s e h =
    let k = only_if-some (valid_entry guid (ring log s)) (contents (ring log s)) (sym h) in
    (k.0, sym k.1)

pub whole-sectors : (log : List ℕ) → length log % 4096 ≡ 0 → length log ≡ sector_count log * 4096
whole-sectors log h = omega (arith, div-add-mod (length log) 4096)

pub valid-here : (log : List ℕ) (guid : Guid) (s : ℕ) (e : Entry) → entry_at log guid s ≡ Some e → (valid_entry guid (ring log s) ≡ true) × (size (ring log s) ≡ e.size)
valid-here log guid s e h =
    let k = entry-is log guid s e h in
    (k.0, ap (λ (x : Entry). x.size) k.1)

module _ (log : List ℕ) (guid : Guid) (whole : length log % 4096 ≡ 0) where
  asked_here : (s : ℕ) (e : Entry) → entry_at log guid s ≡ Some e → Asked (ring log s)
  asked_here s e h = asked guid (ring log s) (entry-is log guid s e h).0

  sized : (s : ℕ) (e : Entry) → s < sector_count log → entry_at log guid s ≡ Some e → (0 < e.size) × (e.size ≤ sector_count log) × (e.tail < sector_count log)
  sized s e b h =
      let a = asked_here s e h in
      let w = whole-sectors log whole in
      let l = length-ring log (sector_count log) s w b in
      subst (λ (x : Entry). (0 < x.size) × (x.size ≤ sector_count log) × (x.tail < sector_count log)) (entry-is log guid s e h).1
      (omega arith, omega (arith, a.fits), omega (arith, a.in_log))

  marked : (s : ℕ) (e : Entry) → s < sector_count log → entry_at log guid s ≡ Some e → mark_at log s ≡ true
  marked s e b h =
      eq-eqb _ _ (sym (first_field log (sector_count log) s (whole-sectors log whole) b 0 4 (omega arith)) ∙ (asked_here s e h).marked)

  numbered : (s : ℕ) (e : Entry) → s < sector_count log → entry_at log guid s ≡ Some e → number_at log s ≡ e.number
  numbered s e b h =
      sym (first_field log (sector_count log) s (whole-sectors log whole) b 16 8 (omega arith))
      ∙ ap (λ (x : Entry). x.number) (entry-is log guid s e h).1

  inside : (s : ℕ) (e : Entry) → s < sector_count log → entry_at log guid s ≡ Some e → (j : ℕ) → 0 < j → j < e.size → mark_at log ((s + j) % sector_count log) ≡ false
  inside s e b h j p q =
      let z = sized s e b h in
      let i = (valid-here log guid s e h).1 in
      let on = sector-on log (sector_count log) s (whole-sectors log whole) b j (omega arith) in
      ne_eqb _ _ (λ x. unmarked (ring log s) j (asked_here s e h) p (omega arith) (ap signature on ∙ x))

  pub apart : Apart (sector_count log) (entry_at log guid) (mark_at log) (number_at log)
  apart = record { sized = sized; marked = marked; numbered = numbered; inside = inside }
