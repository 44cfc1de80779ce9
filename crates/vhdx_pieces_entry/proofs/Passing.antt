-- An entry read sector by sector is the valid entry, or none. Assumes nothing.
use mathlib.Core.Path.{◌≡◌, refl, sym, ap, ◌∙◌, subst}
use mathlib.Core.Bool.{Bool, true, false, cond, ◌&&◌}
use mathlib.Core.List.{List}
use Rattle.std.specs.Prelude.{Option, None}
use Prim.Native.Nat.{ℕ, zero, suc, ◌+◌, ◌-◌, ◌*◌, ◌/◌, ◌≤◌, ◌<◌, min}
use native.Mathlib.Nat.{add-zero}
use native.Mathlib.Numerals.{add-one}
use native.Mathlib.Omega.{arith}
use lib.Bits.{bit_xor}
use lib.Dec.{T, eqb, leb, eqb-suc-zero, lit≤}
use lib.ListN.{length, take}
use lib.Seq.{length-take-le}
use borrow.Author.Tests.{lt-ltb, le-ltb, leb-true, leb-false, le-leb, lt-leb, eqb-true, eq-eqb}
use Rattle.decision.specs.Bounded.{every, only_if}
use Rattle.decision.proofs.Laws.{every_more, every-not}
use Rattle.field.specs.declared.Guid.{Guid}
use Rattle.field.specs.Fields.{field}
use Rattle.crc32c.specs.Crc.{ones, updates, crc, zeroed}
use Rattle.crc32c.proofs.Laws.{updates-append, zeroed-append}
use Rattle.vhdx_entry.specs.declared.Entry.{Entry}
use Rattle.vhdx_entry.specs.Ring.{sector_at}
use Rattle.vhdx_entry.specs.Entry.{checksum, entry_length, tail, sequence_number_of, descriptor_count, descriptor_sectors, descriptor, descriptor_rule, descriptors_rule, data_before, data_count, size, fits_rule, entry_length_rule, data_sector_rule, data_sectors_rule, checksum_rule, header_rule, valid_entry, contents}
use Rattle.vhdx_entry.proofs.Laws.{sector-next, field-of-sector}
use Rattle.vhdx_pieces_entry.specs.Sector.{passes, data_in}
use Rattle.vhdx_pieces_entry.specs.declared.Reading.{Reading}
use Rattle.std.specs.declared.ops.ControlFlow.TheVariants.{Continue, Break}
use Rattle.vhdx_pieces_entry.specs.Pass.{Progress, closed, going, settled, from_of, places_in, state_on, past, on_front, on_data, further, beginning, first, Reads, stop, next, ReadsEntry}
use Rattle.vhdx_pieces_entry.proofs.Split.{rules-split, data-split}

left-no : (a b : Bool) → a ≡ false → a && b ≡ false
left-no true b h = absurd (subst T h tt)
left-no false b h = refl

right-no : (a b : Bool) → b ≡ false → a && b ≡ false
right-no true b h = h
right-no false b h = refl

both : (a b : Bool) → a ≡ true → b ≡ true → a && b ≡ true
both true b h g = g
both false b h g = h

fst : (a b : Bool) → a && b ≡ true → a ≡ true
fst true b h = refl
fst false b h = h

snd : (a b : Bool) → a && b ≡ true → b ≡ true
snd true b h = h
snd false b h = absurd (subst T (sym h) tt)

no2 : (a b x : Bool) → b ≡ false → a && (b && x) ≡ false
no2 a b x h = right-no a (b && x) (left-no b x h)

no3 : (a b c x : Bool) → c ≡ false → a && (b && (c && x)) ≡ false
no3 a b c x h = right-no a (b && (c && x)) (no2 b c x h)

no4 : (a b c d x : Bool) → d ≡ false → a && (b && (c && (d && x))) ≡ false
no4 a b c d x h = right-no a (b && (c && (d && x))) (no3 b c d x h)

no5 : (a b c d e x : Bool) → e ≡ false → a && (b && (c && (d && (e && x)))) ≡ false
no5 a b c d e x h = right-no a (b && (c && (d && (e && x)))) (no4 b c d e x h)

all5 : (a b c d e x : Bool) → a ≡ true → b ≡ true → c ≡ true → d ≡ true → e ≡ true → a && (b && (c && (d && (e && x)))) ≡ x
all5 a b c d e x p q s t u = rw (p, q, s, t, u)

every-no : (f : ℕ → Bool) (a m : ℕ) → a ≤ m → every a f ≡ false → every m f ≡ false
unfolding every
every-no f a m h e = go (m - a) m (omega arith)
  where
    go : (d m : ℕ) → m ≡ a + d → every m f ≡ false
    go zero m p = ap (λ (x : ℕ). every x f) {x = m} {y = a} (omega arith) ∙ e
    go (suc d) zero p = absurd (omega arith)
    go (suc d) (suc m) p = left-no (every m f) (f m) (go d m (omega arith))

-- by whether a test holds
by : (P : Bool → Type 0) (t : Bool) → (t ≡ true → P true) → (t ≡ false → P false) → P t
by P true f g = f refl
by P false f g = g refl

-- descriptors seen in the first k sectors
abbrev pub seen_at : ℕ → ℕ → ℕ
seen_at c k = min c (128 * k - 2)

state_at : List ℕ → ℕ → ℕ
state_at r zero = 0
state_at r (suc k) = updates ones (zeroed (take (suc k * 4096) r) 4)

abbrev at : List ℕ → ℕ → Reading
at r k =
    record {
      number = sequence_number_of r;
      tail = tail r / 4096;
      count = descriptor_count r;
      bytes = entry_length r;
      sum = checksum r;
      seen = seen_at (descriptor_count r) k;
      found = data_before r (seen_at (descriptor_count r) k);
      read = k;
      state = state_at r k;
    }

state-next : (r : List ℕ) (k : ℕ) → suc k * 4096 ≤ length r → state_on k (state_at r k) (sector_at r k) ≡ state_at r (k + 1)
unfolding state_at sector_at
state-next r zero h = refl
state-next r (suc k) h =
    let long = length-take-le (suc k * 4096) r (omega arith) in
    rw (eqb-suc-zero k, add-one (suc k))
    (sym
    (ap (λ (n : ℕ). updates ones (zeroed (take (n * 4096) r) 4)) (sym (add-one (suc k)))
    ∙ ap (λ (x : List ℕ). updates ones (zeroed x 4)) (sector-next r (suc k))
    ∙ ap (updates ones) (zeroed-append (take (suc k * 4096) r) (sector_at r (suc k)) 4 (omega arith))
    ∙ updates-append ones (zeroed (take (suc k * 4096) r) 4) (sector_at r (suc k))))

state-is : (r : List ℕ) (k : ℕ) → 0 < k → state_at r k ≡ updates ones (zeroed (take (k * 4096) r) 4)
unfolding state_at
state-is r zero h = absurd (omega arith)
state-is r (suc k) h = refl

-- past a sector with so many descriptors, so many of them data descriptors
past_is : (r : List ℕ) (k m d : ℕ) → suc k * 4096 ≤ length r → seen_at (descriptor_count r) k + m ≡ seen_at (descriptor_count r) (k + 1)
    → data_before r (seen_at (descriptor_count r) k) + d ≡ data_before r (seen_at (descriptor_count r) (k + 1))
    → past (at r k) m d (sector_at r k) ≡ at r (k + 1)
past_is r k m d h p q =
    let t = state-next r k h in
    λ i. record {
      number = sequence_number_of r;
      tail = tail r / 4096;
      count = descriptor_count r;
      bytes = entry_length r;
      sum = checksum r;
      seen = p i;
      found = q i;
      read = k + 1;
      state = t i;
    }

-- the descriptors of sector k: from where, how many
pub begins-at : (c k : ℕ) → k < descriptor_sectors c → 64 + 32 * seen_at c k ≡ k * 4096 + from_of k
begins-at c zero h = omega arith
begins-at c (suc k) h = rw (eqb-suc-zero k) (omega arith)

pub all_seen : (c k : ℕ) → descriptor_sectors c ≤ k → seen_at c k ≡ c
all_seen c k h = omega arith

pub fits_in : (c k : ℕ) → from_of k + 32 * min (c - seen_at c k) (places_in k) ≤ 4096
fits_in c zero = omega arith
fits_in c (suc k) = rw (eqb-suc-zero k) (omega arith)

pub seen_next : (c k : ℕ) → seen_at c k + min (c - seen_at c k) (places_in k) ≡ seen_at c (k + 1)
seen_next c zero = omega arith
seen_next c (suc k) = rw (eqb-suc-zero k) (omega arith)

-- with all descriptors seen
abbrev done : List ℕ → ℕ → Reading
done r k =
    record {
      number = sequence_number_of r;
      tail = tail r / 4096;
      count = descriptor_count r;
      bytes = entry_length r;
      sum = checksum r;
      seen = descriptor_count r;
      found = data_count r;
      read = k;
      state = state_at r k;
    }

at_done : (r : List ℕ) (k : ℕ) → descriptor_sectors (descriptor_count r) ≤ k → at r k ≡ done r k
at_done r k h =
    let e = all_seen (descriptor_count r) k h in
    λ i. record {
      number = sequence_number_of r;
      tail = tail r / 4096;
      count = descriptor_count r;
      bytes = entry_length r;
      sum = checksum r;
      seen = e i;
      found = data_before r (e i);
      read = k;
      state = state_at r k;
    }

done_next : (r : List ℕ) (k : ℕ) → suc k * 4096 ≤ length r → past (done r k) 0 0 (sector_at r k) ≡ done r (k + 1)
done_next r k h =
    let t = state-next r k h in
    let p = add-zero (descriptor_count r) in
    let q = add-zero (data_count r) in
    λ i. record {
      number = sequence_number_of r;
      tail = tail r / 4096;
      count = descriptor_count r;
      bytes = entry_length r;
      sum = checksum r;
      seen = p i;
      found = q i;
      read = k + 1;
      state = t i;
    }

module _ (guid : Guid) (n : ℕ) (r : List ℕ) (len : length r ≡ n * 4096) (head : header_rule guid (length r) r ≡ true) where
  abbrev answer : Option Entry
  answer = only_if (valid_entry guid r) (contents r)

  refuted : valid_entry guid r ≡ false → Reads n r (Break None) answer
  refuted e = subst (λ (b : Bool). Reads n r (Break None) (only_if b (contents r))) (sym e) (stop {o = None})

  -- the clauses behind the header's
  no-fit : fits_rule r ≡ false → valid_entry guid r ≡ false
  unfolding valid_entry
  no-fit h = no2 (header_rule guid (length r) r) (fits_rule r) _ h

  no-descriptors : descriptors_rule r ≡ false → valid_entry guid r ≡ false
  unfolding valid_entry
  no-descriptors h = no3 (header_rule guid (length r) r) (fits_rule r) (descriptors_rule r) _ h

  no_length : entry_length_rule r ≡ false → valid_entry guid r ≡ false
  unfolding valid_entry
  no_length h = no4 (header_rule guid (length r) r) (fits_rule r) (descriptors_rule r) (entry_length_rule r) _ h

  no-sectors : data_sectors_rule r ≡ false → valid_entry guid r ≡ false
  unfolding valid_entry
  no-sectors h = no5 (header_rule guid (length r) r) (fits_rule r) (descriptors_rule r) (entry_length_rule r) (data_sectors_rule r) _ h

  module _ (fits : size r ≤ n) (exact : entry_length r ≡ size r * 4096) (kept : descriptors_rule r ≡ true) where
    is-valid : data_sectors_rule r ≡ true → valid_entry guid r ≡ checksum_rule r
    unfolding valid_entry
    is-valid h = all5 (header_rule guid (length r) r) (fits_rule r) (descriptors_rule r) (entry_length_rule r) (data_sectors_rule r) (checksum_rule r) head (le-leb (size r * 4096) (length r) (omega arith)) kept (eq-eqb (entry_length r) (size r * 4096) exact) h

    settled_on : (k : ℕ) → descriptor_sectors (descriptor_count r) ≤ k → settled n (done r k) ≡ going (done r k)
    unfolding settled
    settled_on k h = rw (le-ltb k (descriptor_sectors (descriptor_count r)) h, le-leb (size r) n fits, eq-eqb (entry_length r) (size r * 4096) exact)

    abbrev sector_rule : ℕ → Bool
    sector_rule i = data_sector_rule (sequence_number_of r) (sector_at r (descriptor_sectors (descriptor_count r) + i))

    at-sector : (k : ℕ) → descriptor_sectors (descriptor_count r) ≤ k → sector_rule (k - descriptor_sectors (descriptor_count r)) ≡ data_sector_rule (sequence_number_of r) (sector_at r k)
    at-sector k f = ap (λ (j : ℕ). data_sector_rule (sequence_number_of r) (sector_at r j)) (omega arith)

    -- at its end
    summed : (k : ℕ) → size r ≡ k → 0 < k → checksum_rule r ≡ eqb (checksum r) (bit_xor (state_at r k) ones)
    unfolding checksum_rule crc
    summed k e h =
        ap (λ (x : ℕ). eqb (checksum r) (bit_xor (updates ones (zeroed (take x r) 4)) ones)) (exact ∙ ap (λ (x : ℕ). x * 4096) e)
        ∙ ap (λ (x : ℕ). eqb (checksum r) (bit_xor x ones)) (sym (state-is r k h))

    data-end : (k : ℕ) → size r ≡ k → data_sectors_rule r ≡ true → Reads n r (closed (done r k) (size r)) answer
    unfolding closed
    data-end k e h = subst (λ (b : Bool). Reads n r (Break (only_if b (contents r))) answer) (is-valid h ∙ summed k e (omega arith)) (stop {o = answer})

    turn-data : (k : ℕ) → descriptor_sectors (descriptor_count r) ≤ k
        → Reads n r (cond (data_sector_rule (sequence_number_of r) (sector_at r k)) (settled n (past (done r k) 0 0 (sector_at r k))) (Break None)) answer
        → Reads n r (Continue (done r k)) answer
    unfolding further on_data
    turn-data k f h = next {x = done r k} {o = answer} (rw (le-ltb k (descriptor_sectors (descriptor_count r)) f) h)

    data-phase : (d k : ℕ) → size r ≡ k + d → descriptor_sectors (descriptor_count r) ≤ k
        → every (k - descriptor_sectors (descriptor_count r)) sector_rule ≡ true → Reads n r (going (done r k)) answer
    unfolding data_sectors_rule
    data-phase zero k e f h =
        let all : k - descriptor_sectors (descriptor_count r) ≡ data_count r = omega arith in
        rw (le-ltb k (size r) (omega arith)) (data-end k (omega arith) (sym (ap (λ (m : ℕ). every m sector_rule) all) ∙ h))
    data-phase (suc d) k e f h =
        rw (lt-ltb k (size r) (omega arith))
        (turn-data k f
        (by (λ b. Reads n r (cond b (settled n (past (done r k) 0 0 (sector_at r k))) (Break None)) answer) (data_sector_rule (sequence_number_of r) (sector_at r k))
        (λ t. subst (λ (x : Reading). Reads n r (settled n x) answer) (sym (done_next r k (omega arith)))
        (subst (λ (p : Progress). Reads n r p answer) (sym (settled_on (k + 1) (omega arith)))
        (data-phase d (k + 1) (omega arith) (omega arith)
        (ap (λ (m : ℕ). every m sector_rule) {x = k + 1 - descriptor_sectors (descriptor_count r)} {y = k - descriptor_sectors (descriptor_count r) + 1} (omega arith)
        ∙ every_more sector_rule (k - descriptor_sectors (descriptor_count r)) h (at-sector k f ∙ t)))))
        (λ t. refuted (no-sectors (every-not sector_rule (k - descriptor_sectors (descriptor_count r)) (data_count r) (omega arith) (at-sector k f ∙ t))))))

  abbrev rule : ℕ → Bool
  rule i = descriptor_rule (sequence_number_of r) (descriptor r i)

  -- all descriptors are seen
  front-end : (k : ℕ) → descriptor_sectors (descriptor_count r) ≡ k → descriptors_rule r ≡ true → Reads n r (settled n (done r k)) answer
  unfolding settled every
  front-end k e kept =
      rw (le-ltb k (descriptor_sectors (descriptor_count r)) (omega arith))
      (by (λ b. Reads n r (cond b (going (done r k)) (Break None)) answer) (leb (size r) n && eqb (entry_length r) (size r * 4096))
      (λ t. data-phase
      (leb-true (size r) n (fst (leb (size r) n) (eqb (entry_length r) (size r * 4096)) t))
      (eqb-true (entry_length r) (size r * 4096) (snd (leb (size r) n) (eqb (entry_length r) (size r * 4096)) t))
      kept (data_count r) k (omega arith) (omega arith)
      (ap (λ (m : ℕ). every m (λ i. data_sector_rule (sequence_number_of r) (sector_at r (descriptor_sectors (descriptor_count r) + i)))) {x = k - descriptor_sectors (descriptor_count r)} {y = 0} (omega arith)))
      (λ t. refuted (unfit t)))
    where
      unfit : leb (size r) n && eqb (entry_length r) (size r * 4096) ≡ false → valid_entry guid r ≡ false
      unfit t =
          by (λ b. leb (size r) n ≡ b → valid_entry guid r ≡ false) (leb (size r) n)
          (λ _ g. no_length (sym (ap (λ (x : Bool). x && eqb (entry_length r) (size r * 4096)) g) ∙ t))
          (λ _ g. no-fit (lt-leb (size r * 4096) (length r) (omega (arith, leb-false (size r) n g)))) refl

  -- a sector with descriptors
  turn-front : (k : ℕ) → k < descriptor_sectors (descriptor_count r) → descriptor_sectors (descriptor_count r) ≤ n → every (seen_at (descriptor_count r) k) rule ≡ true
      → (every (seen_at (descriptor_count r) (k + 1)) rule ≡ true → Reads n r (settled n (at r (k + 1))) answer)
      → Reads n r (on_front n (at r k) (sector_at r k)) answer
  unfolding on_front descriptors_rule
  turn-front k h fits kept go =
      let c = descriptor_count r in
      let m = min (c - seen_at c k) (places_in k) in
      let starts = begins-at c k h in
      let all : every (seen_at c (k + 1)) rule ≡ passes (sequence_number_of r) (sector_at r k) (from_of k) m =
      ap (λ (x : ℕ). every x rule) (sym (seen_next c k)) ∙ rules-split r k (seen_at c k) (from_of k) starts (sequence_number_of r) m (fits_in c k)
      ∙ ap (λ (b : Bool). b && passes (sequence_number_of r) (sector_at r k) (from_of k) m) kept in
      by (λ b. Reads n r (cond b (settled n (past (at r k) m (data_in (sector_at r k) (from_of k) m) (sector_at r k))) (Break None)) answer)
      (passes (sequence_number_of r) (sector_at r k) (from_of k) m)
      (λ t. subst (λ (x : Reading). Reads n r (settled n x) answer)
      (sym (past_is r k m (data_in (sector_at r k) (from_of k) m) (omega arith) (seen_next c k)
      (sym (data-split r k (seen_at c k) (from_of k) starts m (fits_in c k)) ∙ ap (data_before r) (seen_next c k))))
      (go (all ∙ t)))
      (λ t. refuted (no-descriptors (every-no rule (seen_at c (k + 1)) c (omega arith) (all ∙ t))))

  front-phase : (d k : ℕ) → descriptor_sectors (descriptor_count r) ≡ k + d → descriptor_sectors (descriptor_count r) ≤ n
      → every (seen_at (descriptor_count r) k) rule ≡ true → Reads n r (settled n (at r k)) answer
  unfolding settled further descriptors_rule
  front-phase zero k e fits kept =
      subst (λ (x : Reading). Reads n r (settled n x) answer) (sym (at_done r k (omega arith)))
      (front-end k (omega arith) (sym (ap (λ (m : ℕ). every m rule) (all_seen (descriptor_count r) k (omega arith))) ∙ kept))
  front-phase (suc d) k e fits kept =
      rw (lt-ltb k (descriptor_sectors (descriptor_count r)) (omega arith))
      (next {x = at r k} {o = answer}
      (rw (lt-ltb k (descriptor_sectors (descriptor_count r)) (omega arith))
      (turn-front k (omega arith) fits kept (front-phase d (k + 1) (omega arith) fits))))

-- the first sector is read as the header, whose fields are the entry's
header-field : (r : List ℕ) (j w : ℕ) → j + w ≤ 4096 → field (sector_at r 0) j w ≡ field r j w
header-field r j w h = field-of-sector r 0 j w h ∙ ap (λ (x : ℕ). field r x w) {x = 0 * 4096 + j} {y = j} (omega arith)

begin-is : (r : List ℕ) → beginning (sector_at r 0) ≡ at r 0
unfolding data_before state_at
begin-is r =
    let none_seen : 0 ≡ seen_at (descriptor_count r) 0 = omega arith in
    let e1 = header-field r 16 8 (lit≤ tt) in
    let e2 = header-field r 12 4 (lit≤ tt) in
    let e3 = header-field r 24 4 (lit≤ tt) in
    let e4 = header-field r 8 4 (lit≤ tt) in
    let e5 = header-field r 4 4 (lit≤ tt) in
    λ i. record {
      number = e1 i;
      tail = e2 i / 4096;
      count = e3 i;
      bytes = e4 i;
      sum = e5 i;
      seen = none_seen i;
      found = data_before r (none_seen i);
      read = 0;
      state = 0;
    }

header_is : (guid : Guid) (n : ℕ) (r : List ℕ) → header_rule guid n (sector_at r 0) ≡ header_rule guid n r
unfolding header_rule
header_is guid n r = simp (header-field r 0 4 (lit≤ tt), header-field r 32 16 (lit≤ tt), header-field r 12 4 (lit≤ tt), header-field r 16 8 (lit≤ tt))

tests-are : (guid : Guid) (n : ℕ) (r : List ℕ) → length r ≡ n * 4096
    → header_rule guid (n * 4096) (sector_at r 0) && leb (descriptor_sectors (descriptor_count (sector_at r 0))) n
    ≡ header_rule guid (length r) r && leb (descriptor_sectors (descriptor_count r)) n
tests-are guid n r len =
    ap (λ (b : Bool). b && leb (descriptor_sectors (descriptor_count (sector_at r 0))) n) (header_is guid (n * 4096) r ∙ ap (λ (x : ℕ). header_rule guid x r) (sym len))
    ∙ ap (λ (x : ℕ). header_rule guid (length r) r && leb (descriptor_sectors x) n) (header-field r 24 4 (lit≤ tt))

refused-at-once : (guid : Guid) (n : ℕ) (r : List ℕ) → length r ≡ n * 4096
    → header_rule guid (length r) r && leb (descriptor_sectors (descriptor_count r)) n ≡ false → valid_entry guid r ≡ false
unfolding valid_entry
refused-at-once guid n r len t =
    by (λ b. header_rule guid (length r) r ≡ b → valid_entry guid r ≡ false) (header_rule guid (length r) r)
    (λ _ g.
    let long : n < descriptor_sectors (descriptor_count r) = leb-false (descriptor_sectors (descriptor_count r)) n (sym (ap (λ (b : Bool). b && leb (descriptor_sectors (descriptor_count r)) n) g) ∙ t) in
    no2 (header_rule guid (length r) r) (fits_rule r) _ (lt-leb (size r * 4096) (length r) (omega arith)))
    (λ _ g. left-no (header_rule guid (length r) r) _ g) refl

pub reads-entry : ReadsEntry
unfolding first every
reads-entry guid n r some-sectors len =
    let c = descriptor_count r in
    by (λ b. Reads n r (cond b (on_front n (beginning (sector_at r 0)) (sector_at r 0)) (Break None)) (only_if (valid_entry guid r) (contents r)))
    (header_rule guid (n * 4096) (sector_at r 0) && leb (descriptor_sectors (descriptor_count (sector_at r 0))) n)
    (λ t.
    let u = sym (tests-are guid n r len) ∙ t in
    let head : header_rule guid (length r) r ≡ true = fst (header_rule guid (length r) r) (leb (descriptor_sectors c) n) u in
    let fits : descriptor_sectors c ≤ n = leb-true (descriptor_sectors c) n (snd (header_rule guid (length r) r) (leb (descriptor_sectors c) n) u) in
    subst (λ (x : Reading). Reads n r (on_front n x (sector_at r 0)) (only_if (valid_entry guid r) (contents r))) (sym (begin-is r))
    (turn-front guid n r len head 0 (omega arith) fits
    (ap (λ (m : ℕ). every m (λ i. descriptor_rule (sequence_number_of r) (descriptor r i))) {x = seen_at c 0} {y = 0} (omega arith))
    (front-phase guid n r len head (descriptor_sectors c - 1) 1 (omega arith) fits)))
    (λ t. subst (λ (b : Bool). Reads n r (Break None) (only_if b (contents r))) (sym (refused-at-once guid n r len (sym (tests-are guid n r len) ∙ t))) (stop {o = None}))
