-- The clauses of a valid entry, put together as the code tests them: what a failed test says of the whole, what all of them
-- together say, and what a valid entry keeps to.
-- Assumes nothing.
use mathlib.Core.Path.{◌≡◌, refl, sym, ap, ap₂, ◌∙◌}
use mathlib.Core.Bool.{Bool, true, false, ◌&&◌, and-eq-true_iff, and-false, and_assoc}
use mathlib.Core.List.{List}
use Rattle.std.specs.Prelude.{Option, None, Some}
use Prim.Native.Nat.{ℕ, ◌+◌, ◌-◌, ◌*◌, ◌/◌, ◌≤◌, ◌<◌}
use native.Mathlib.Omega.{arith}
use lib.Dec.{eqb}
use lib.ListN.{length, take}
use borrow.Author.Tests.{eq-eqb, ne_eqb, lt-leb, le-leb, leb-true}
use Rattle.std.specs.Bool.{then_some}
use Rattle.decision.specs.Bounded.{every, only_if}
use Rattle.decision.proofs.Laws.{only_if-none, only_if-some}
use Rattle.field.specs.declared.Guid.{Guid}
use Rattle.crc32c.specs.Crc.{crc, zeroed}
use Rattle.vhdx_entry.specs.Ring.{ring, sector_at}
use Rattle.vhdx_entry.specs.Entry.{checksum, entry_length, tail, sequence_number_of, descriptor_count, descriptor_sectors, descriptor, data_before, data_count, size, descriptor_rule, data_sector_rule, header_rule, signature_rule, guid_rule, tail_rule, number_rule, fits_rule, descriptors_rule, entry_length_rule, data_sectors_rule, checksum_rule, valid_entry, contents, entry_at}
use Rattle.vhdx_entry.specs.declared.Entry.{Entry}
use Rattle.vhdx_entry.proofs.Laws.{length-ring, first_field}

module _ (r : List ℕ) where
  rules-are : {count number : ℕ} → count ≡ descriptor_count r → number ≡ sequence_number_of r
      → every count (λ i. descriptor_rule number (descriptor r i)) ≡ descriptors_rule r
  unfolding descriptors_rule
  rules-are p q = ap₂ (λ (c n : ℕ). every c (λ i. descriptor_rule n (descriptor r i))) p q

  -- ---- the size

  pub too_many : {n : ℕ} → length r ≡ n * 4096 → n < descriptor_sectors (descriptor_count r) → None ≡ only_if (fits_rule r && descriptors_rule r) (size r)
  too_many {n} l h =
      sym (ap (λ (b : Bool). only_if (b && descriptors_rule r) (size r)) (lt-leb (size r * 4096) (length r) (omega arith)))

  module _ {count number : ℕ} (p : count ≡ descriptor_count r) (q : number ≡ sequence_number_of r) (t : Option ℕ)
      (e : t ≡ only_if (every count (λ i. descriptor_rule number (descriptor r i))) (data_before r count)) where
    counted : t ≡ only_if (descriptors_rule r) (data_count r)
    counted = e ∙ ap₂ only_if (rules-are p q) (ap (data_before r) p)

    pub descriptor-broken : t ≡ None → None ≡ only_if (fits_rule r && descriptors_rule r) (size r)
    descriptor-broken h =
        sym (ap (λ (b : Bool). only_if b (size r)) (ap (λ (x : Bool). fits_rule r && x) (only_if-none (descriptors_rule r) (data_count r) (sym h ∙ counted)) ∙ and-false (fits_rule r)))

    module _ {d : ℕ} (h : t ≡ Some d) where
      whole : (descriptors_rule r ≡ true) × (d ≡ data_count r)
      whole = only_if-some (descriptors_rule r) (data_count r) (sym h ∙ counted)

      pub data-fit : {n front : ℕ} → length r ≡ n * 4096 → front ≡ descriptor_sectors count → front + d ≤ n → Some (front + d) ≡ only_if (fits_rule r && descriptors_rule r) (size r)
      data-fit {n} {front} l f b =
          let (a, g) = whole in
          let f' : front ≡ descriptor_sectors (descriptor_count r) = f ∙ ap descriptor_sectors p in
          ap Some (ap₂ (λ (x y : ℕ). x + y) f' g)
          ∙ sym (ap₂ (λ (x y : Bool). only_if (x && y) (size r)) (le-leb (size r * 4096) (length r) (omega arith)) a)

      pub data-too-long : {n front : ℕ} → length r ≡ n * 4096 → front ≡ descriptor_sectors count → n < front + d → None ≡ only_if (fits_rule r && descriptors_rule r) (size r)
      data-too-long {n} {front} l f b =
          let (a, g) = whole in
          let f' : front ≡ descriptor_sectors (descriptor_count r) = f ∙ ap descriptor_sectors p in
          sym (ap (λ (x : Bool). only_if (x && descriptors_rule r) (size r)) (lt-leb (size r * 4096) (length r) (omega arith)))

  -- ---- EntryLength, data sectors, checksum

  module _ {e sz : ℕ} (p : e ≡ entry_length r) (q : sz ≡ size r) where
    pub other_length : ¬ (e ≡ sz * 4096) → false ≡ (entry_length_rule r && (data_sectors_rule r && checksum_rule r))
    other_length h =
        sym (ap (λ (b : Bool). b && (data_sectors_rule r && checksum_rule r)) (ne_eqb (entry_length r) (size r * 4096) (λ x. h (omega arith))))

    module _ (same : e ≡ sz * 4096) {count number front : ℕ} (c : count ≡ descriptor_count r) (m : number ≡ sequence_number_of r) (f : front ≡ descriptor_sectors count) {t : Bool}
        (h : t ≡ every (sz - front) (λ k. data_sector_rule number (sector_at r (front + k)))) where
      length-is : entry_length_rule r ≡ true
      length-is = eq-eqb (entry_length r) (size r * 4096) (omega arith)

      sectors-are : t ≡ data_sectors_rule r
      unfolding data_sectors_rule
      sectors-are =
          let f' : front ≡ descriptor_sectors (descriptor_count r) = f ∙ ap descriptor_sectors c in
          let n : sz - front ≡ data_count r = omega arith in
          h ∙ ap₂ (λ (x y : ℕ). every x (λ k. data_sector_rule y (sector_at r (front + k)))) n m
          ∙ ap (λ (x : ℕ). every (data_count r) (λ k. data_sector_rule (sequence_number_of r) (sector_at r (x + k)))) f'

      pub sector-broken : t ≡ false → false ≡ (entry_length_rule r && (data_sectors_rule r && checksum_rule r))
      sector-broken b = sym (ap₂ (λ (x y : Bool). x && (y && checksum_rule r)) length-is (sym sectors-are ∙ b))

      pub all-but-checksum : t ≡ true → {a k : ℕ} → a ≡ checksum r → k ≡ crc (zeroed (take (sz * 4096) r) 4)
          → eqb a k ≡ (entry_length_rule r && (data_sectors_rule r && checksum_rule r))
      unfolding checksum_rule
      all-but-checksum b {a} {k} u v =
          ap₂ eqb u (v ∙ ap (λ (n : ℕ). crc (zeroed (take n r) 4)) (sym same ∙ p))
          ∙ sym (ap₂ (λ (x y : Bool). x && (y && checksum_rule r)) length-is (sym sectors-are ∙ b))

-- ---- the whole entry

-- the header's rule is asked of the entry's first sector
pub header-in : (guid : Guid) (log : List ℕ) (n s : ℕ) → length log ≡ n * 4096 → s < n → header_rule guid (length log) (sector_at log s) ≡ header_rule guid (length (ring log s)) (ring log s)
unfolding header_rule
header-in guid log n s w b =
    rw (first_field log n s w b 0 4 (omega arith), first_field log n s w b 32 16 (omega arith), first_field log n s w b 12 4 (omega arith), first_field log n s w b 16 8 (omega arith), length-ring log n s w b)

-- what `size` and what `ends_well` decide
abbrev size_rules : List ℕ → Bool
size_rules r = fits_rule r && descriptors_rule r

abbrev end_rules : List ℕ → Bool
end_rules r = entry_length_rule r && (data_sectors_rule r && checksum_rule r)

valid-parts : (guid : Guid) (r : List ℕ) → valid_entry guid r ≡ (header_rule guid (length r) r && (size_rules r && end_rules r))
unfolding valid_entry
valid-parts guid r =
    ap (λ (b : Bool). header_rule guid (length r) r && b) (sym (and_assoc (fits_rule r) (descriptors_rule r) (end_rules r)))

module _ (guid : Guid) (log : List ℕ) (s : ℕ) where
  -- the library's word and the specification's
  answered : (t : Bool) (e : Entry) → then_some t e ≡ only_if t e
  answered true e = refl
  answered false e = refl

  nothing-at : valid_entry guid (ring log s) ≡ false → None ≡ entry_at log guid s
  unfolding entry_at
  nothing-at h = sym (ap (λ (b : Bool). only_if b (contents (ring log s))) h)

  module _ {t : Bool} (p : t ≡ header_rule guid (length (ring log s)) (ring log s)) where
    parts : valid_entry guid (ring log s) ≡ (t && (size_rules (ring log s) && end_rules (ring log s)))
    parts = valid-parts guid (ring log s) ∙ ap (λ (b : Bool). b && (size_rules (ring log s) && end_rules (ring log s))) (sym p)

    pub bad-header : t ≡ false → None ≡ entry_at log guid s
    bad-header h = nothing-at (parts ∙ ap (λ (b : Bool). b && (size_rules (ring log s) && end_rules (ring log s))) h)

    module _ (z : Option ℕ) (q : z ≡ only_if (size_rules (ring log s)) (size (ring log s))) where
      pub no_size : z ≡ None → None ≡ entry_at log guid s
      no_size h =
          let no = only_if-none (size_rules (ring log s)) (size (ring log s)) (sym h ∙ q) in
          nothing-at (parts ∙ ap (λ (b : Bool). t && (b && end_rules (ring log s))) no ∙ and-false t)

      module _ {k : ℕ} (h : z ≡ Some k) where
        sized : (size_rules (ring log s) ≡ true) × (k ≡ size (ring log s))
        sized = only_if-some (size_rules (ring log s)) (size (ring log s)) (sym h ∙ q)

        pub size_is : k ≡ size (ring log s)
        size_is = sized.1

        pub size_fits : {n : ℕ} → length log ≡ n * 4096 → s < n → k ≤ n
        size_fits {n} w b =
            let fits = ((and-eq-true_iff (fits_rule (ring log s)) (descriptors_rule (ring log s))).0 sized.0).0 in
            let l : size (ring log s) * 4096 ≤ length (ring log s) = leb-true (size (ring log s) * 4096) (length (ring log s)) fits in
            omega (arith, size_is, length-ring log n s w b)

        module _ (yes : t ≡ true) {u : Bool} (e : u ≡ end_rules (ring log s)) where
          valid-is : valid_entry guid (ring log s) ≡ u
          valid-is = parts ∙ ap₂ (λ (x y : Bool). x && (y && end_rules (ring log s))) yes sized.0 ∙ sym e

          pub valid-at : {m l : ℕ} → m ≡ sequence_number_of (ring log s) → l ≡ tail (ring log s) / 4096
              → then_some u (record { size = k; number = m; tail = l }) ≡ entry_at log guid s
          unfolding entry_at
          valid-at a b =
              ap (then_some u) (λ i. record { size = size_is i; number = a i; tail = b i })
              ∙ answered u _
              ∙ ap (λ (t : Bool). only_if t (contents (ring log s))) (sym valid-is)

-- ---- what a valid entry keeps to

pub record Keeps (r : List ℕ) : Type 0 where
  pub signed : signature_rule r ≡ true
  pub tailed : tail_rule (length r) r ≡ true
  pub fits : fits_rule r ≡ true
  pub described : descriptors_rule r ≡ true
  pub exact : entry_length_rule r ≡ true
  pub filled : data_sectors_rule r ≡ true

pub keeps : (guid : Guid) (r : List ℕ) → valid_entry guid r ≡ true → Keeps r
unfolding valid_entry header_rule
keeps guid r h =
    let a = (and-eq-true_iff (header_rule guid (length r) r) _).0 h in
    let b = (and-eq-true_iff (fits_rule r) _).0 a.1 in
    let c = (and-eq-true_iff (descriptors_rule r) _).0 b.1 in
    let d = (and-eq-true_iff (entry_length_rule r) _).0 c.1 in
    let e = (and-eq-true_iff (signature_rule r) _).0 a.0 in
    let f = (and-eq-true_iff (guid_rule guid r) _).0 e.1 in
    record {
      signed = e.0;
      tailed = ((and-eq-true_iff (tail_rule (length r) r) (number_rule r)).0 f.1).0;
      fits = b.0;
      described = c.0;
      exact = d.0;
      filled = ((and-eq-true_iff (data_sectors_rule r) (checksum_rule r)).0 d.1).0;
    }
