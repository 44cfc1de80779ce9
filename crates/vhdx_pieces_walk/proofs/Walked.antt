-- Fed the log's sectors, the walk ends, having written the sectors of all descriptors in order.
-- Assumes nothing.
use mathlib.Core.Path.{◌≡◌, refl, sym, ap, ap₂, ◌∙◌, subst}
use mathlib.Core.Bool.{Bool, true, false, cond}
use mathlib.Core.List.{List, [], ◌∷◌, ◌++◌}
use Prim.Native.Nat.{ℕ, zero, suc, ◌+◌, ◌-◌, ◌*◌, ◌/◌, ◌%◌, ◌≤◌, ◌<◌}
use native.Mathlib.Nat.{add-zero, mod-eq_of_lt, mod-lt}
use native.Mathlib.Decide.{dec_lt}
use native.Mathlib.Omega.{arith}
use lib.Dec.{eqb, ltb}
use lib.ListN.{length, take, drop, length-drop}
use lib.Seq.{length-take-le}
use borrow.Author.Tests.{lt-ltb, le-ltb, le-leb, ne_eqb, eqb-true, eqb-false}
use Rattle.field.specs.Fields.{Bytes}
use Rattle.field.proofs.Bytes.{bytes-append, bytes_take, bytes_drop, bytes-field}
use Rattle.vhdx_entry.specs.declared.ring.RingPos.{RingPos}
use Rattle.vhdx_entry.specs.Ring.{sector_count, ring, sector_at, On}
use Rattle.vhdx_entry.specs.Entry.{descriptor, descriptor_count, descriptor_sectors, is_data_descriptor, file_offset, zero_length, size, behind, data_before, data_sector}
use Rattle.vhdx_entry.proofs.Laws.{sector-on, first_field, data-more}
use Rattle.vhdx_walk.specs.Entries.{Descriptor, writes, zeros, Sector, sectors_at, zero_sector, sectors_of, sectors, end, furthest}
use Rattle.vhdx_walk.specs.Bytes.{descriptor_of, descriptors_from, sector_bytes}
use Rattle.vhdx_walk.specs.Cursor.{descriptors_on, Readable, AllReadable}
use Rattle.vhdx_walk.proofs.Parts.{zeros-whole, descriptors-fit, data-rank, size-within, size-read}
use Rattle.vhdx_walk.proofs.Moves.{on-descriptor, on-entry}
use Rattle.vhdx_log.specs.Work.{some_lies}
use Rattle.vhdx_log.proofs.Lies.{lies-append}
use Rattle.vhdx_pieces_entry.specs.Sector.{descriptor_in, length_in}
use Rattle.vhdx_pieces_entry.proofs.Split.{in-sector}
use Rattle.vhdx_pieces_walk.specs.declared.Bounds.{Bounds}
use Rattle.vhdx_pieces_walk.specs.declared.Stage.{Stage}
use Rattle.vhdx_pieces_walk.specs.declared.Stage.TheVariants as stage
use Rattle.vhdx_pieces_walk.specs.declared.Walker.{Walker}
use Rattle.vhdx_pieces_walk.specs.declared.Step.{Step}
use Rattle.vhdx_pieces_walk.specs.declared.Step.TheVariants.{Read, Write, Ended, Broken}
use Rattle.vhdx_pieces_walk.specs.Walking as walking
use Rattle.vhdx_pieces_walk.specs.Walking.{staged, at_header, started, resumed, idle_from, past_by, allowed, beyond_by, held_in, met, from_in, here_in, looked_at, looked, opened, fits, step_of, wrote_of, written_of, Writes, WritesAll}
use Rattle.vhdx_pieces_walk.proofs.Allowed.{none_of, allowed-run}
use Rattle.vhdx_pieces_walk.proofs.Turns.{idle-stop, idle-more, met-data, met-zeros}

-- what is left may be written
record Fine (b : Bounds) (ds : List Descriptor) : Type 0 where
  bounded : furthest ds ≤ b.limit
  apart : some_lies b.log (sectors ds) ≡ false

fine-rest : (b : Bounds) (d : Descriptor) (ds : List Descriptor) → Fine b (d ∷ ds) → Fine b ds
fine-rest b d ds f =
    record { bounded = omega (arith, f.bounded); apart = (none_of (some_lies b.log (sectors_of d)) (some_lies b.log (sectors ds)) (sym (lies-append b.log (sectors_of d) (sectors ds)) ∙ f.apart)).1 }

fine-first : (b : Bounds) (d : Descriptor) (ds : List Descriptor) → Fine b (d ∷ ds) → (end d ≤ b.limit) × (some_lies b.log (sectors_of d) ≡ false)
fine-first b d ds f =
    (omega (arith, f.bounded), (none_of (some_lies b.log (sectors_of d)) (some_lies b.log (sectors ds)) (sym (lies-append b.log (sectors_of d) (sectors ds)) ∙ f.apart)).0)

module _ (log : List ℕ) (b : Bounds) (s left : ℕ) (on : On log (record { at = s; len = sector_count log })) (readable : Readable (ring log s)) (some : 0 < left) (bytes : Bytes log) where
  abbrev r : List ℕ
  r = ring log s

  abbrev c : ℕ
  c = descriptor_count r

  within : size r ≤ sector_count log
  within = size-within log (record { at = s; len = sector_count log }) on readable

  -- before descriptor i
  abbrev at : ℕ → Stage → Walker
  at i st = record { pos = record { at = s; len = sector_count log }; left = left; count = c; size = size r; index = i; «data» = data_before r i; stage = st }

  abbrev rest : ℕ → List Descriptor
  rest i = descriptors_on log s i left

  -- so many sectors of zeros
  zero-run : (ss : List Sector) (i : ℕ) → ((p : List ℕ) → Writes log b p (resumed (at i stage.Descriptors)) ss)
      → (k offset : ℕ) (p : List ℕ) → Writes log b p (Write (at i (stage.Zeros (record { offset = offset; length = suc k * 4096 })))) (sectors_at (suc k) offset zero_sector ++ ss)
  unfolding sectors_at wrote_of resumed
  zero-run ss i after zero offset p = walking.writes {w = at i (stage.Zeros (record { offset = offset; length = 4096 }))} {ss = ss} (λ p₂. after p₂)
  zero-run ss i after (suc k) offset p =
      walking.writes {w = at i (stage.Zeros (record { offset = offset; length = suc (suc k) * 4096 }))} {ss = sectors_at (suc k) (offset + 4096) zero_sector ++ ss}
      (λ p₂.
      let e : suc (suc k) * 4096 - 4096 ≡ suc k * 4096 = omega arith in
      rw (lt-ltb 4096 (suc (suc k) * 4096) (omega arith), e) (zero-run ss i after k (offset + 4096) p₂))

  -- ---- one descriptor

  abbrev d : ℕ → List ℕ
  d i = descriptor r i

  bytes-d : (i : ℕ) → Bytes (d i)
  unfolding descriptor ring
  bytes-d i = bytes_take 32 (drop (64 + 32 * i) r) (bytes_drop (64 + 32 * i) r (bytes-append (drop (s * 4096) log) (take (s * 4096) log) (bytes_drop (s * 4096) log bytes) (bytes_take (s * 4096) log bytes)))

  length-d : (i : ℕ) → i < c → length (d i) ≡ 32
  unfolding descriptor
  length-d i h =
      length-take-le 32 (drop (64 + 32 * i) r) (simp length-drop (omega (arith, descriptors-fit r readable (i + 1) (omega arith))))

  part-d : (i at n : ℕ) → i < c → at + n ≤ 32 → length (take n (drop at (d i))) ≡ n
  part-d i at n h l = length-take-le n (drop at (d i)) (simp length-drop (omega (arith, length-d i h)))

  data-written : (i : ℕ) → i < c → is_data_descriptor (d i) ≡ true
      → written_of (staged (at (i + 1) stage.Descriptors) (stage.Sector (held_in (at i stage.Descriptors) (d i)))) (data_sector r (data_before r i))
      ≡ record { offset = file_offset (d i); bytes = sector_bytes (d i) (data_sector r (data_before r i)) }
  unfolding sector_bytes
  data-written i h e =
      ap₂ {C = Sector} (λ (x y : List ℕ). record { offset = file_offset (d i); bytes = x ++ (take 4084 (drop 8 (data_sector r (data_before r i))) ++ y) })
      (bytes-field (d i) 8 8 (bytes-d i) (part-d i 8 8 h (omega arith))) (bytes-field (d i) 4 4 (bytes-d i) (part-d i 4 4 h (omega arith)))

  -- the data sector is read and written
  data-run : (ss : List Sector) (i : ℕ) → i < c → is_data_descriptor (d i) ≡ true → ((p : List ℕ) → Writes log b p (resumed (at (i + 1) stage.Descriptors)) ss)
      → (p : List ℕ) → Writes log b p (Read (beyond_by (at i stage.Descriptors) (data_before r i + 1) (stage.Data (held_in (at i stage.Descriptors) (d i)))))
      (record { offset = file_offset (d i); bytes = sector_bytes (d i) (data_sector r (data_before r i)) } ∷ ss)
  unfolding step_of wrote_of resumed
  data-run ss i h e after p =
      let k = descriptor_sectors c + data_before r i in
      let l : k < sector_count log = omega (arith, within, data-rank r i h e) in
      let more : data_before r (i + 1) ≡ data_before r i + 1 = data-more r i ∙ ap (λ (t : Bool). data_before r i + cond t 1 0) e in
      let sec = sector-on log (sector_count log) s on.1 on.0 k l in
      subst (λ (n : ℕ). Writes log b p (Read (beyond_by (at i stage.Descriptors) n (stage.Data (held_in (at i stage.Descriptors) (d i))))) (record { offset = file_offset (d i); bytes = sector_bytes (d i) (data_sector r (data_before r i)) } ∷ ss)) more
      (walking.reads {w = at (i + 1) (stage.Data (held_in (at i stage.Descriptors) (d i)))} (mod-lt (s + k) {m = sector_count log} (omega arith))
      (subst (λ (x : List ℕ). Writes log b x (Write (staged (at (i + 1) stage.Descriptors) (stage.Sector (held_in (at i stage.Descriptors) (d i))))) (record { offset = file_offset (d i); bytes = sector_bytes (d i) (data_sector r (data_before r i)) } ∷ ss)) sec
      (subst (λ (x : Sector). Writes log b (sector_at r k) (Write (staged (at (i + 1) stage.Descriptors) (stage.Sector (held_in (at i stage.Descriptors) (d i))))) (x ∷ ss)) (data-written i h e)
      (walking.writes {w = staged (at (i + 1) stage.Descriptors) (stage.Sector (held_in (at i stage.Descriptors) (d i)))} {ss = ss} after))))

  rest-data : (i : ℕ) → i < c → is_data_descriptor (d i) ≡ true → rest i ≡ writes (file_offset (d i)) (sector_bytes (d i) (data_sector r (data_before r i))) ∷ rest (i + 1)
  unfolding descriptor_of
  rest-data i h e =
      on-descriptor log s i left some h
      ∙ ap (λ (t : Bool). cond t (writes (file_offset (d i)) (sector_bytes (d i) (data_sector r (data_before r i)))) (zeros (file_offset (d i)) (zero_length (d i))) ∷ rest (i + 1)) e

  rest-zeros : (i : ℕ) → i < c → is_data_descriptor (d i) ≡ false → rest i ≡ zeros (file_offset (d i)) (zero_length (d i)) ∷ rest (i + 1)
  unfolding descriptor_of
  rest-zeros i h e =
      on-descriptor log s i left some h
      ∙ ap (λ (t : Bool). cond t (writes (file_offset (d i)) (sector_bytes (d i) (data_sector r (data_before r i)))) (zeros (file_offset (d i)) (zero_length (d i))) ∷ rest (i + 1)) e

  length-data : (i : ℕ) → is_data_descriptor (d i) ≡ true → length_in (d i) ≡ 4096
  length-data i e = ap (λ (t : Bool). cond t 4096 (zero_length (d i))) e

  length-zeros : (i : ℕ) → is_data_descriptor (d i) ≡ false → length_in (d i) ≡ zero_length (d i)
  length-zeros i e = ap (λ (t : Bool). cond t 4096 (zero_length (d i))) e

  abbrev After : ℕ → Type 0
  After i = (p : List ℕ) → Writes log b p (resumed (at i stage.Descriptors)) (sectors (rest i))

  meet-data : (i : ℕ) → i < c → Fine b (rest i) → is_data_descriptor (d i) ≡ true → After (i + 1) → (p : List ℕ) → Writes log b p (met b (at i stage.Descriptors) (d i)) (sectors (rest i))
  unfolding sectors_at
  meet-data i h fine e after p =
      let off = file_offset (d i) in
      let f = fine-first b (writes off (sector_bytes (d i) (data_sector r (data_before r i)))) (rest (i + 1)) (subst (Fine b) (rest-data i h e) fine) in
      let ok : allowed b off (length_in (d i)) ≡ true = ap (allowed b off) (length-data i e) ∙ allowed-run b off 1 (sector_bytes (d i) (data_sector r (data_before r i))) f.0 f.1 in
      let short : descriptor_sectors c + data_before r i < size r = omega (arith, data-rank r i h e) in
      subst (λ (x : Step). Writes log b p x (sectors (rest i))) (met-data b (at i stage.Descriptors) (d i) ok e (lt-ltb (descriptor_sectors c + data_before r i) (size r) short))
      (subst (λ (ds : List Descriptor). Writes log b p (Read (beyond_by (at i stage.Descriptors) (data_before r i + 1) (stage.Data (held_in (at i stage.Descriptors) (d i))))) (sectors ds)) (sym (rest-data i h e))
      (data-run (sectors (rest (i + 1))) i h e after p))

  beyond-zeros : (i : ℕ) (st : Stage) → is_data_descriptor (d i) ≡ false → beyond_by (at i stage.Descriptors) (data_before r i) st ≡ at (i + 1) st
  beyond-zeros i st e =
      let more : data_before r i ≡ data_before r (i + 1) = sym (data-more r i ∙ ap (λ (t : Bool). data_before r i + cond t 1 0) e ∙ add-zero (data_before r i)) in
      λ j. record { pos = record { at = s; len = sector_count log }; left = left; count = c; size = size r; index = i + 1; «data» = more j; stage = st }

  meet-zeros : (i : ℕ) → i < c → Fine b (rest i) → is_data_descriptor (d i) ≡ false → eqb (length_in (d i)) 0 ≡ false → After (i + 1) → (p : List ℕ) → Writes log b p (met b (at i stage.Descriptors) (d i)) (sectors (rest i))
  meet-zeros i h fine e names after p =
      let off = file_offset (d i) in
      let n = zero_length (d i) in
      let k = n / 4096 - 1 in
      let whole : n % 4096 ≡ 0 = zeros-whole r readable i h e in
      let named : ¬ (n ≡ 0) = λ z. eqb-false (length_in (d i)) 0 names (length-zeros i e ∙ z) in
      let is : n ≡ suc k * 4096 = omega (arith, named) in
      let count-is : n / 4096 ≡ suc k = omega arith in
      let f = fine-first b (zeros off n) (rest (i + 1)) (subst (Fine b) (rest-zeros i h e) fine) in
      let ends : off + suc k * 4096 ≤ b.limit = omega (arith, f.0, ap (λ (t : Bool). cond t 0 (off + n)) (ne_eqb n 0 named)) in
      let free : some_lies b.log (sectors_at (suc k) off zero_sector) ≡ false = ap (λ (x : ℕ). some_lies b.log (sectors_at x off zero_sector)) (sym count-is) ∙ f.1 in
      let ok : allowed b off (length_in (d i)) ≡ true = ap (allowed b off) (length-zeros i e ∙ is) ∙ allowed-run b off (suc k) zero_sector ends free in
      subst (λ (x : Step). Writes log b p x (sectors (rest i))) (met-zeros b (at i stage.Descriptors) (d i) ok e)
      (subst (λ (ds : List Descriptor). Writes log b p (Write (beyond_by (at i stage.Descriptors) (data_before r i) (stage.Zeros (record { offset = off; length = length_in (d i) })))) (sectors ds)) (sym (rest-zeros i h e))
      (subst (λ (x : Walker). Writes log b p (Write x) (sectors_at (n / 4096) off zero_sector ++ sectors (rest (i + 1)))) (sym (beyond-zeros i (stage.Zeros (record { offset = off; length = length_in (d i) })) e))
      (subst (λ (x : ℕ). Writes log b p (Write (at (i + 1) (stage.Zeros (record { offset = off; length = x })))) (sectors_at (n / 4096) off zero_sector ++ sectors (rest (i + 1)))) (sym (length-zeros i e ∙ is))
      (subst (λ (x : ℕ). Writes log b p (Write (at (i + 1) (stage.Zeros (record { offset = off; length = suc k * 4096 })))) (sectors_at x off zero_sector ++ sectors (rest (i + 1)))) (sym count-is)
      (zero-run (sectors (rest (i + 1))) (i + 1) after k off p)))))

  -- a descriptor that names bytes
  meeting : (i : ℕ) → i < c → Fine b (rest i) → eqb (length_in (d i)) 0 ≡ false → After (i + 1) → (p : List ℕ) → Writes log b p (met b (at i stage.Descriptors) (d i)) (sectors (rest i))
  meeting i h fine names after p = go (is_data_descriptor (d i)) refl
    where
      go : (t : Bool) → is_data_descriptor (d i) ≡ t → Writes log b p (met b (at i stage.Descriptors) (d i)) (sectors (rest i))
      go true e = meet-data i h fine e after p
      go false e = meet-zeros i h fine e names after p

  -- a descriptor that names none
  skipped : (i : ℕ) → i < c → eqb (length_in (d i)) 0 ≡ true → (sectors (rest i) ≡ sectors (rest (i + 1))) × (data_before r (i + 1) ≡ data_before r i) × (Fine b (rest i) → Fine b (rest (i + 1)))
  unfolding sectors_at
  skipped i h none = go (is_data_descriptor (d i)) refl
    where
      go : (t : Bool) → is_data_descriptor (d i) ≡ t → (sectors (rest i) ≡ sectors (rest (i + 1))) × (data_before r (i + 1) ≡ data_before r i) × (Fine b (rest i) → Fine b (rest (i + 1)))
      go true e =
          let z : length_in (d i) ≡ 0 = eqb-true (length_in (d i)) 0 none in
          let f : length_in (d i) ≡ 4096 = length-data i e in
          absurd (omega arith)
      go false e =
          let z : zero_length (d i) ≡ 0 = sym (length-zeros i e) ∙ eqb-true (length_in (d i)) 0 none in (
            ap sectors (rest-zeros i h e) ∙ ap (λ (n : ℕ). sectors_at (n / 4096) (file_offset (d i)) zero_sector ++ sectors (rest (i + 1))) z,
            data-more r i ∙ ap (λ (t : Bool). data_before r i + cond t 1 0) e ∙ add-zero (data_before r i),
            λ f. fine-rest b (zeros (file_offset (d i)) (zero_length (d i))) (rest (i + 1)) (subst (Fine b) (rest-zeros i h e) f),
          )

  fine-on : (i : ℕ) → i < c → Fine b (rest i) → Fine b (rest (i + 1))
  fine-on i h f = fine-rest b (descriptor_of r i) (rest (i + 1)) (subst (Fine b) (on-descriptor log s i left some h) f)

  -- ---- the descriptors of a sector

  past_is : (i j : ℕ) → data_before r (i + j) ≡ data_before r i → past_by (at i stage.Descriptors) j ≡ at (i + j) stage.Descriptors
  past_is i j e =
      let f = sym e in
      λ k. record { pos = record { at = s; len = sector_count log }; left = left; count = c; size = size r; index = i + j; «data» = f k; stage = stage.Descriptors }

  module _ (i k from : ℕ) (starts : 64 + 32 * i ≡ k * 4096 + from) (after : (x : ℕ) → i < x → x ≤ c → Fine b (rest x) → After x) where
    abbrev sec : List ℕ
    sec = sector_at r k

    looking : (m j M I : ℕ) → M ≡ j + m → I ≡ j + idle_from sec from j m → from + 32 * (j + m) ≤ 4096 → i + (j + m) ≤ c
        → data_before r (i + j) ≡ data_before r i → Fine b (rest (i + j)) → (j + m ≡ 0 → After i)
        → (p : List ℕ) → Writes log b p (looked_at b (at i stage.Descriptors) sec from M I) (sectors (rest (i + j)))
    unfolding idle_from
    looking zero j M I e f capacity few rank fine none p =
        let same : I ≡ j = omega arith in
        rw (le-ltb I M (omega arith), same)
        (subst (λ (x : Walker). Writes log b p (resumed x) (sectors (rest (i + j)))) (sym (past_is i j rank)) (go j refl))
      where
        go : (x : ℕ) → x ≡ j → Writes log b p (resumed (at (i + j) stage.Descriptors)) (sectors (rest (i + j)))
        go zero h =
            let z : i ≡ i + j = omega arith in
            subst (λ (y : ℕ). Writes log b p (resumed (at y stage.Descriptors)) (sectors (rest y))) z (none (omega arith) p)
        go (suc x) h = after (i + j) (omega arith) (omega arith) fine p
    looking (suc m) j M I e f capacity few rank fine none p = go (eqb (length_in (descriptor_in sec from j)) 0) refl (looking m (j + 1))
      where
        is : descriptor_in sec from j ≡ d (i + j)
        is = in-sector r k i from starts j (omega arith)

        go : (t : Bool) → eqb (length_in (descriptor_in sec from j)) 0 ≡ t
            → ((M₂ I₂ : ℕ) → M₂ ≡ j + 1 + m → I₂ ≡ j + 1 + idle_from sec from (j + 1) m → from + 32 * (j + 1 + m) ≤ 4096 → i + (j + 1 + m) ≤ c
            → data_before r (i + (j + 1)) ≡ data_before r i → Fine b (rest (i + (j + 1))) → (j + 1 + m ≡ 0 → After i)
            → (p : List ℕ) → Writes log b p (looked_at b (at i stage.Descriptors) sec from M₂ I₂) (sectors (rest (i + (j + 1)))))
            → Writes log b p (looked_at b (at i stage.Descriptors) sec from M I) (sectors (rest (i + j)))
        go true h next =
            let sk = skipped (i + j) (omega arith) (sym (ap (λ (x : List ℕ). eqb (length_in x) 0) is) ∙ h) in
            let one : i + j + 1 ≡ i + (j + 1) = omega arith in
            let idle = idle-more sec from j (suc m) (omega arith) h in
            let less : idle_from sec from (j + 1) (suc m - 1) ≡ idle_from sec from (j + 1) m = ap (idle_from sec from (j + 1)) {x = suc m - 1} {y = m} (omega arith) in
            subst (λ (ss : List Sector). Writes log b p (looked_at b (at i stage.Descriptors) sec from M I) ss) (sym (sk.0 ∙ ap (λ (x : ℕ). sectors (rest x)) one))
            (next M I (omega arith) (omega (arith, f, idle, less)) (omega arith) (omega arith)
            (ap (data_before r) (sym one) ∙ sk.1 ∙ rank) (subst (λ (x : ℕ). Fine b (rest x)) one (sk.2 fine)) (λ z. absurd (omega (arith, z))) p)
        go false h next =
            let stop = idle-stop sec from j (suc m) (omega arith) h in
            let same : I ≡ j = omega (arith, f, stop) in
            rw (lt-ltb I M (omega arith), same)
            (subst (λ (x : Walker). Writes log b p (met b x (descriptor_in sec from j)) (sectors (rest (i + j)))) (sym (past_is i j rank))
            (subst (λ (x : List ℕ). Writes log b p (met b (at (i + j) stage.Descriptors) x) (sectors (rest (i + j)))) (sym is)
            (meeting (i + j) (omega arith) fine (sym (ap (λ (x : List ℕ). eqb (length_in x) 0) is) ∙ h)
            (λ q. after (i + j + 1) (omega arith) (omega arith) (fine-on (i + j) (omega arith) fine) q) p)))

  -- ---- the entry

  abbrev behind_entry : Step
  behind_entry = cond (ltb 1 left) (Read (at_header (record { at = behind log s; len = sector_count log }) (left - 1))) Ended

  abbrev Behind : Type 0
  Behind = (p : List ℕ) → Writes log b p behind_entry (sectors (descriptors_on log (behind log s) 0 (left - 1)))

  behind-all : (i : ℕ) → c ≤ i → Behind → After i
  unfolding resumed
  behind-all i h after p =
      rw (le-ltb i c h) (subst (λ (ds : List Descriptor). Writes log b p behind_entry (sectors ds)) (sym (on-entry log s i left some h)) (after p))

  -- the sector with descriptor i, from descriptor i on
  sector-looked : (i : ℕ) → i ≤ c → Fine b (rest i) → ((x : ℕ) → i < x → x ≤ c → Fine b (rest x) → After x) → (c ≤ i → After i)
      → (p : List ℕ) → Writes log b p (looked b (at i stage.Descriptors) (sector_at r ((64 + 32 * i) / 4096))) (sectors (rest i))
  unfolding looked
  sector-looked i h fine after last p =
      let w = at i stage.Descriptors in
      let z : i + 0 ≡ i = omega arith in
      subst (λ (x : ℕ). Writes log b p (looked_at b w (sector_at r ((64 + 32 * i) / 4096)) (from_in w) (here_in w) (idle_from (sector_at r ((64 + 32 * i) / 4096)) (from_in w) 0 (here_in w))) (sectors (rest x))) z
      (looking i ((64 + 32 * i) / 4096) ((64 + 32 * i) % 4096) (omega arith) after (here_in w) 0 (here_in w) (idle_from (sector_at r ((64 + 32 * i) / 4096)) (from_in w) 0 (here_in w))
      (omega arith) (omega arith) (omega arith) (omega arith) (ap (data_before r) z) (subst (λ (x : ℕ). Fine b (rest x)) (sym z) fine) (λ e. last (omega (arith, e))) p)

  reads_on : (i : ℕ) → i < c → Fine b (rest i) → ((x : ℕ) → i < x → x ≤ c → Fine b (rest x) → After x) → After i
  unfolding resumed step_of
  reads_on i l fine next p =
      let k = (64 + 32 * i) / 4096 in
      let below : k < sector_count log = omega (arith, within) in
      rw (lt-ltb i c l)
      (walking.reads {w = at i stage.Descriptors} {ss = sectors (rest i)} (mod-lt (s + k) {m = sector_count log} (omega arith))
      (subst (λ (x : List ℕ). Writes log b x (looked b (at i stage.Descriptors) x) (sectors (rest i))) (sector-on log (sector_count log) s on.1 on.0 k below)
      (sector-looked i (omega arith) fine next (λ g. absurd (omega arith)) (sector_at r k))))

  resuming : (fuel i : ℕ) → c ≤ i + fuel → i ≤ c → Fine b (rest i) → Behind → After i
  resuming zero i e h fine after = behind-all i (omega arith) after
  resuming (suc fuel) i e h fine after = go (dec_lt i c) (λ x l g f. resuming fuel x (omega arith) g f after)
    where
      go : Dec (i < c) → ((x : ℕ) → i < x → x ≤ c → Fine b (rest x) → After x) → After i
      go (yes l) next = reads_on i l fine next
      go (no l) next = behind-all i (omega arith) after

  opened-is : opened (at_header (record { at = s; len = sector_count log }) left) (sector_at log s) ≡ at 0 stage.Descriptors
  unfolding data_before
  opened-is =
      let e1 = sym (first_field log (sector_count log) s on.1 on.0 24 4 (omega arith)) in
      let e2 = size-read log (record { at = s; len = sector_count log }) on readable in
      λ i. record { pos = record { at = s; len = sector_count log }; left = left; count = e1 i; size = e2 i; index = 0; «data» = 0; stage = stage.Descriptors }

  same-sector : sector_at r 0 ≡ sector_at log s
  same-sector =
      sector-on log (sector_count log) s on.1 on.0 0 (omega (arith, on.0))
      ∙ ap (sector_at log) (ap (λ (x : ℕ). x % sector_count log) {x = s + 0} (omega arith) ∙ mod-eq_of_lt on.0)

  entry : Fine b (rest 0) → Behind → (p : List ℕ) → Writes log b p (Read (at_header (record { at = s; len = sector_count log }) left)) (sectors (rest 0))
  unfolding step_of
  entry fine after p =
      walking.reads {w = at_header (record { at = s; len = sector_count log }) left} {ss = sectors (rest 0)} on.0
      (subst (λ (w : Walker). Writes log b (sector_at log s) (cond (fits w) (looked b w (sector_at log s)) Broken) (sectors (rest 0))) (sym opened-is)
      (rw (le-leb (descriptor_sectors c) (size r) (omega arith), le-leb (size r) (sector_count log) within)
      (subst (λ (x : List ℕ). Writes log b (sector_at log s) (looked b (at 0 stage.Descriptors) x) (sectors (rest 0))) same-sector
      (sector-looked 0 (omega arith) fine (λ x l g f. resuming c x (omega arith) g f after) (λ g. behind-all 0 g after) (sector_at log s)))))

-- ---- all entries

fine-append : (b : Bounds) (ds es : List Descriptor) → Fine b (ds ++ es) → Fine b es
fine-append b [] es f = f
fine-append b (d ∷ ds) es f = fine-append b ds es (fine-rest b d (ds ++ es) f)

behind-started : (pos : RingPos) (left : ℕ) → cond (ltb 1 (suc left)) (Read (at_header pos (suc left - 1))) Ended ≡ started pos left
behind-started pos zero = ap (λ (t : Bool). cond t (Read (at_header pos (1 - 1))) Ended) (le-ltb 1 1 (omega arith))
behind-started pos (suc left) =
    ap (λ (t : Bool). cond t (Read (at_header pos (suc (suc left) - 1))) Ended) (lt-ltb 1 (suc (suc left)) (omega arith))
    ∙ ap {B = Step} (λ (n : ℕ). Read (at_header pos n)) {x = suc (suc left) - 1} {y = suc left} (omega arith)
    ∙ sym (ap (λ (t : Bool). cond t Ended (Read (at_header pos (suc left)))) (ne_eqb (suc left) 0 (λ z. absurd (omega arith))))

module _ (log : List ℕ) (b : Bounds) (bytes : Bytes log) (whole : length log % 4096 ≡ 0) where
  all-entries : (left s : ℕ) (p : List ℕ) → s < sector_count log → AllReadable log s left → Fine b (descriptors_on log s 0 left)
      → Writes log b p (started (record { at = s; len = sector_count log }) left) (sectors (descriptors_on log s 0 left))
  unfolding AllReadable descriptors_on
  all-entries zero s p h a f = walking.stop
  all-entries (suc left) s p h a f =
      let below : behind log s < sector_count log = mod-lt (s + size (ring log s)) {m = sector_count log} (omega arith) in
      let one : left ≡ suc left - 1 = omega arith in
      rw (ne_eqb (suc left) 0 (λ z. absurd (omega arith)))
      (entry log b s (suc left) (h, omega arith) a.0 (omega arith) bytes f
      (λ q. subst (λ (x : Step). Writes log b q x (sectors (descriptors_on log (behind log s) 0 (suc left - 1)))) (sym (behind-started (record { at = behind log s; len = sector_count log }) left))
      (subst (λ (n : ℕ). Writes log b q (started (record { at = behind log s; len = sector_count log }) left) (sectors (descriptors_on log (behind log s) 0 n))) one
      (all-entries left (behind log s) q below a.1 (fine-append b (descriptors_from (ring log s) 0 (descriptor_count (ring log s) - 0)) (descriptors_on log (behind log s) 0 left) f)))) p)

pub writes-all : WritesAll
writes-all log b s left p bytes whole h a f n = all-entries log b bytes whole left s p h a (record { bounded = f; apart = n })
