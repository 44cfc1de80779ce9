-- Fed the log's sectors, the tour ends with the survey of all descriptors and what the head says.
-- Assumes nothing.
use mathlib.Core.Path.{◌≡◌, refl, sym, ap, ap₂, ◌∙◌, subst}
use mathlib.Core.Bool.{Bool, true, false, cond, ◌||◌}
use mathlib.Core.List.{List, ◌∷◌}
use Prim.Native.Nat.{ℕ, zero, suc, ◌+◌, ◌-◌, ◌*◌, ◌%◌, ◌≤◌, ◌<◌, min}
use native.Mathlib.Nat.{add-zero, mod-eq_of_lt, mod-lt}
use native.Mathlib.Numerals.{add-one}
use native.Mathlib.Omega.{arith}
use lib.Dec.{ltb, eqb-suc-zero}
use lib.ListN.{length}
use borrow.Author.Tests.{lt-ltb, le-leb, ltb-true, ltb-false}
use Rattle.extent.specs.declared.Extent.{Extent}
use Rattle.vhdx_entry.specs.Ring.{sector_count, ring, sector_at, On}
use Rattle.vhdx_entry.specs.Entry.{descriptor, descriptor_count, descriptor_sectors, is_data_descriptor, file_offset, zero_length, flushed_file_offset, last_file_offset, size, behind, data_before, data_sector}
use Rattle.vhdx_entry.proofs.Laws.{sector-on, first_field}
use Rattle.vhdx_walk.specs.declared.run.Source.TheVariants.{Zeros}
use Rattle.vhdx_walk.specs.Entries.{Descriptor, writes, zeros, head, all_descriptors}
use Rattle.vhdx_walk.specs.Bytes.{descriptor_of, sector_bytes, entries_from}
use Rattle.vhdx_walk.specs.Cursor.{descriptors_on, Readable, AllReadable}
use Rattle.vhdx_walk.proofs.Parts.{zeros-whole, size-within, size-read}
use Rattle.vhdx_walk.proofs.Runs.{length-sectors}
use Rattle.vhdx_walk.proofs.Moves.{on-descriptor, on-entry}
use Rattle.vhdx_walk.proofs.Chains.{chain-descriptors}
use Rattle.vhdx_log.specs.declared.survey.Survey.{Survey}
use Rattle.vhdx_log.specs.Survey.{added, capped}
use Rattle.vhdx_log.proofs.Lies.{lies_whole}
use Rattle.vhdx_log.proofs.Surveys.{survey-path, with, survey_from, survey-onward, surveyed}
use Rattle.vhdx_pieces_entry.specs.Pass.{from_of, places_in}
use Rattle.vhdx_pieces_entry.proofs.Split.{in-sector}
use Rattle.vhdx_pieces_entry.proofs.Passing.{seen_at, begins-at, all_seen, fits_in, seen_next}
use Rattle.vhdx_pieces_survey.specs.declared.Tour.{Tour}
use Rattle.vhdx_pieces_survey.specs.declared.Report.{Report}
use Rattle.std.specs.Prelude.{None, Some}
use Rattle.std.specs.declared.ops.ControlFlow.TheVariants.{Continue, Break}
use Rattle.vhdx_pieces_survey.specs.Touring.{Step, added_by, survey_in, at_header, empty, started, opened, further, moved_on, passed, fits, step_of, Surveys, stop, next, SurveysAll}

-- ---- one descriptor

-- a data descriptor's run is one sector, whatever its bytes
with-data : (e : Extent) (sv : Survey) (offset : ℕ) (bytes : List ℕ) → added e sv offset 4096 ≡ with e sv (writes offset bytes)
with-data e sv offset bytes =
    survey-path (ap (λ (t : Bool). sv.lies || t) (sym (lies_whole e 1 offset bytes))) refl
    (ap (λ (n : ℕ). capped (sv.count + n)) (sym (length-sectors 1 offset bytes)))

module _ (log : List ℕ) (e : Extent) (s : ℕ) (readable : Readable (ring log s)) where
  abbrev r : List ℕ
  r = ring log s

  one : (sv : Survey) (i left : ℕ) → 0 < left → i < descriptor_count r
      → survey_from e sv (descriptors_on log s i left) ≡ survey_from e (added_by e sv (descriptor r i)) (descriptors_on log s (i + 1) left)
  unfolding survey_from added_by descriptor_of
  one sv i left p h =
      ap (survey_from e sv) (on-descriptor log s i left p h)
      ∙ go (is_data_descriptor (descriptor r i)) refl
    where
      rest : List Descriptor
      rest = descriptors_on log s (i + 1) left

      go : (b : Bool) → is_data_descriptor (descriptor r i) ≡ b
          → survey_from e sv (cond b (writes (file_offset (descriptor r i)) (sector_bytes (descriptor r i) (data_sector r (data_before r i)))) (zeros (file_offset (descriptor r i)) (zero_length (descriptor r i))) ∷ rest)
          ≡ survey_from e (added e sv (file_offset (descriptor r i)) (cond b 4096 (zero_length (descriptor r i)))) rest
      go true d = sym (ap (λ (x : Survey). survey_from e x rest) (with-data e sv (file_offset (descriptor r i)) _))
      go false d =
          sym (survey-onward log e sv _ (record { offset = file_offset (descriptor r i); length = zero_length (descriptor r i); source = Zeros }) _ rest (zeros-whole r readable i h d) refl refl)

  -- the m descriptors of the entry's sector j from byte `from` on
  several : (sv : Survey) (j lo from m left : ℕ) → 0 < left → 64 + 32 * lo ≡ j * 4096 + from → from + 32 * m ≤ 4096 → lo + m ≤ descriptor_count r
      → survey_from e sv (descriptors_on log s lo left) ≡ survey_from e (survey_in e sv (sector_at r j) from m) (descriptors_on log s (lo + m) left)
  unfolding survey_in
  several sv j lo from zero left p st f b = ap (λ (x : ℕ). survey_from e sv (descriptors_on log s x left)) (sym (add-zero lo))
  several sv j lo from (suc m) left p st f b =
      let q : lo + m + 1 ≡ lo + suc m = omega arith in
      several sv j lo from m left p st (omega arith) (omega arith)
      ∙ one (survey_in e sv (sector_at r j) from m) (lo + m) left p (omega arith)
      ∙ ap₂ (λ (d : List ℕ) (x : ℕ). survey_from e (added_by e (survey_in e sv (sector_at r j) from m) d) (descriptors_on log s x left))
      (sym (in-sector r j lo from st m (omega arith))) q

-- ---- an entry

-- the tour in the entry at sector s, with so many entries from it on, before its sector j
abbrev tour_in : List ℕ → ℕ → ℕ → ℕ → Survey → Tour
tour_in log s left j sv =
    record {
      pos = record { at = s; len = sector_count log };
      left = left;
      count = descriptor_count (ring log s);
      size = size (ring log s);
      seen = seen_at (descriptor_count (ring log s)) j;
      read = j;
      flushed = flushed_file_offset (ring log s);
      last = last_file_offset (ring log s);
      found = sv;
    }

-- behind an entry
abbrev behind_entry : List ℕ → ℕ → ℕ → Survey → Step
behind_entry log s left sv =
    cond (ltb 1 left) (Continue (at_header (record { at = behind log s; len = sector_count log }) (left - 1) (flushed_file_offset (ring log s)) (last_file_offset (ring log s)) sv))
    (Break (Some (record { flushed = flushed_file_offset (ring log s); last = last_file_offset (ring log s); found = sv })))

behind_more : (log : List ℕ) (s k : ℕ) (sv : Survey)
    → behind_entry log s (suc (suc k)) sv ≡ Continue (at_header (record { at = behind log s; len = sector_count log }) (suc k) (flushed_file_offset (ring log s)) (last_file_offset (ring log s)) sv)
behind_more log s k sv =
    ap (λ (b : Bool). cond b (Continue (at_header (record { at = behind log s; len = sector_count log }) (suc (suc k) - 1) (flushed_file_offset (ring log s)) (last_file_offset (ring log s)) sv))
    (Break (Some (record { flushed = flushed_file_offset (ring log s); last = last_file_offset (ring log s); found = sv })))) (lt-ltb 1 (suc (suc k)) (omega arith))
    ∙ ap {B = Step} (λ (n : ℕ). Continue (at_header (record { at = behind log s; len = sector_count log }) n (flushed_file_offset (ring log s)) (last_file_offset (ring log s)) sv)) {x = suc (suc k) - 1} {y = suc k} (omega arith)

module _ (log : List ℕ) (e : Extent) (s left : ℕ) (on : On log (record { at = s; len = sector_count log })) (readable : Readable (ring log s)) (some : 0 < left) where
  abbrev c : ℕ
  c = descriptor_count (ring log s)

  within : size (ring log s) ≤ sector_count log
  within = size-within log (record { at = s; len = sector_count log }) on readable

  -- the descriptors of sector j, and the survey with them
  abbrev in_sector : ℕ → ℕ
  in_sector j = min (c - seen_at c j) (places_in j)

  abbrev surveyed-in : ℕ → Survey → Survey
  surveyed-in j sv = survey_in e sv (sector_at (ring log s) j) (from_of j) (in_sector j)

  -- a further sector of the entry
  reads_on : (report : Report) (j : ℕ) (sv : Survey) → j < sector_count log → 0 < j
      → Surveys log e (passed e (tour_in log s left j sv) (sector_at (ring log s) j)) report → Surveys log e (Continue (tour_in log s left j sv)) report
  unfolding step_of
  reads_on report zero sv l z h = absurd (omega arith)
  reads_on report (suc j) sv l z h =
      next {t = tour_in log s left (suc j) sv} {r = report} (mod-lt (s + suc j) {m = sector_count log} (omega arith))
      (rw (eqb-suc-zero j)
      (subst (λ (x : List ℕ). Surveys log e (passed e (tour_in log s left (suc j) sv) x) report) (sector-on log (sector_count log) s on.1 on.0 (suc j) l) h))

  further-is : (j : ℕ) (sv : Survey) → further (tour_in log s left j sv) (in_sector j) (surveyed-in j sv) ≡ tour_in log s left (j + 1) (surveyed-in j sv)
  further-is j sv =
      let p = seen_next c j in
      λ i. record {
        pos = record { at = s; len = sector_count log };
        left = left;
        count = c;
        size = size (ring log s);
        seen = p i;
        read = j + 1;
        flushed = flushed_file_offset (ring log s);
        last = last_file_offset (ring log s);
        found = surveyed-in j sv;
      }

  all_same : (j : ℕ) (sv : Survey) → j < descriptor_sectors c
      → survey_from e sv (descriptors_on log s (seen_at c j) left) ≡ survey_from e (surveyed-in j sv) (descriptors_on log s (seen_at c (j + 1)) left)
  all_same j sv h =
      several log e s readable sv j (seen_at c j) (from_of j) (in_sector j) left some (begins-at c j h) (fits_in c j) (omega arith)
      ∙ ap (λ (x : ℕ). survey_from e (surveyed-in j sv) (descriptors_on log s x left)) (seen_next c j)

  turn : (report : Report) (j : ℕ) (sv : Survey) → (b : Bool) → ltb (seen_at c j + in_sector j) c ≡ b
      → (seen_at c (j + 1) < c → Surveys log e (Continue (tour_in log s left (j + 1) (surveyed-in j sv))) report)
      → (c ≤ seen_at c (j + 1) → Surveys log e (behind_entry log s left (surveyed-in j sv)) report)
      → Surveys log e (cond b (Continue (further (tour_in log s left j sv) (in_sector j) (surveyed-in j sv))) (behind_entry log s left (surveyed-in j sv))) report
  turn report j sv true h f g =
      let l : seen_at c j + in_sector j < c = ltb-true _ _ h in
      subst (λ (t : Tour). Surveys log e (Continue t) report) (sym (further-is j sv)) (f (omega (arith, seen_next c j)))
  turn report j sv false h f g =
      let l : c ≤ seen_at c j + in_sector j = ltb-false _ _ h in
      g (omega (arith, seen_next c j))

  -- at its sector j, with d sectors with descriptors behind it
  inside : (report : Report) (d j : ℕ) (sv : Survey) → descriptor_sectors c ≡ j + suc d
      → ((sv₂ : Survey) → survey_from e sv (descriptors_on log s (seen_at c j) left) ≡ survey_from e sv₂ (descriptors_on log (behind log s) 0 (left - 1)) → Surveys log e (behind_entry log s left sv₂) report)
      → Surveys log e (passed e (tour_in log s left j sv) (sector_at (ring log s) j)) report
  unfolding passed moved_on
  inside report zero j sv f after =
      turn report j sv (ltb (seen_at c j + in_sector j) c) refl
      (λ l. absurd (omega (arith, l, all_seen c (j + 1) (omega arith))))
      (λ l. after (surveyed-in j sv) (all_same j sv (omega arith) ∙ ap (survey_from e (surveyed-in j sv)) (on-entry log s (seen_at c (j + 1)) left some l)))
  inside report (suc d) j sv f after =
      turn report j sv (ltb (seen_at c j + in_sector j) c) refl
      (λ l. reads_on report (j + 1) (surveyed-in j sv) (omega (arith, within)) (omega arith)
      (inside report d (j + 1) (surveyed-in j sv) (omega arith) (λ sv₂ h. after sv₂ (all_same j sv (omega arith) ∙ h))))
      (λ l. after (surveyed-in j sv) (all_same j sv (omega arith) ∙ ap (survey_from e (surveyed-in j sv)) (on-entry log s (seen_at c (j + 1)) left some l)))

  -- at its header
  opened-is : (flushed last : ℕ) (sv : Survey) → opened (at_header (record { at = s; len = sector_count log }) left flushed last sv) (sector_at log s) ≡ tour_in log s left 0 sv
  opened-is flushed last sv =
      let e1 = sym (first_field log (sector_count log) s on.1 on.0 24 4 (omega arith)) in
      let e2 = size-read log (record { at = s; len = sector_count log }) on readable in
      let e3 : 0 ≡ seen_at c 0 = omega arith in
      let e4 = sym (first_field log (sector_count log) s on.1 on.0 48 8 (omega arith)) in
      let e5 = sym (first_field log (sector_count log) s on.1 on.0 56 8 (omega arith)) in
      λ i. record {
        pos = record { at = s; len = sector_count log };
        left = left;
        count = e1 i;
        size = e2 i;
        seen = e3 i;
        read = 0;
        flushed = e4 i;
        last = e5 i;
        found = sv;
      }

  first-sector : sector_at (ring log s) 0 ≡ sector_at log ((s + 0) % sector_count log)
  first-sector = sector-on log (sector_count log) s on.1 on.0 0 (omega arith)

  same-sector : sector_at log ((s + 0) % sector_count log) ≡ sector_at log s
  same-sector = ap (sector_at log) (ap (λ (x : ℕ). x % sector_count log) {x = s + 0} (omega arith) ∙ mod-eq_of_lt on.0)

  entry : (report : Report) (flushed last : ℕ) (sv : Survey)
      → ((sv₂ : Survey) → survey_from e sv (descriptors_on log s 0 left) ≡ survey_from e sv₂ (descriptors_on log (behind log s) 0 (left - 1)) → Surveys log e (behind_entry log s left sv₂) report)
      → Surveys log e (Continue (at_header (record { at = s; len = sector_count log }) left flushed last sv)) report
  unfolding step_of
  entry report flushed last sv after =
      let o = opened-is flushed last sv in
      let z : 0 ≡ seen_at c 0 = omega arith in
      next {t = at_header (record { at = s; len = sector_count log }) left flushed last sv} {r = report} (mod-lt (s + 0) {m = sector_count log} (omega (arith, on.0)))
      (subst (λ (x : List ℕ). Surveys log e (cond (fits (opened (at_header (record { at = s; len = sector_count log }) left flushed last sv) x)) (passed e (opened (at_header (record { at = s; len = sector_count log }) left flushed last sv) x) x) (Break None)) report) (sym same-sector)
      (subst (λ (t : Tour). Surveys log e (cond (fits t) (passed e t (sector_at log s)) (Break None)) report) (sym o)
      (rw (le-leb (descriptor_sectors c) (size (ring log s)) (omega arith), le-leb (size (ring log s)) (sector_count log) within)
      (subst (λ (x : List ℕ). Surveys log e (passed e (tour_in log s left 0 sv) x) report) (first-sector ∙ same-sector)
      (inside report (descriptor_sectors c - 1) 0 sv (omega arith) (λ sv₂ h. after sv₂ (ap (λ (x : ℕ). survey_from e sv (descriptors_on log s x left)) z ∙ h)))))))

-- ---- all entries

abbrev report_from : List ℕ → Extent → ℕ → ℕ → Survey → Report
report_from log e s k sv =
    record { flushed = (head (entries_from log s k)).flushed; last = (head (entries_from log s k)).last; found = survey_from e sv (descriptors_on log s 0 (suc k)) }

report-path : {a a' b b' : ℕ} {v v' : Survey} → a ≡ a' → b ≡ b' → v ≡ v' → ◌≡◌ {A = Report} (record { flushed = a; last = b; found = v }) (record { flushed = a'; last = b'; found = v' })
report-path p q r = λ i. record { flushed = p i; last = q i; found = r i }

module _ (log : List ℕ) (e : Extent) (whole : length log % 4096 ≡ 0) where
  on-ring : (s : ℕ) → s < sector_count log → On log (record { at = s; len = sector_count log })
  on-ring s h = (h, omega arith)

  touring : (k s flushed last : ℕ) (sv : Survey) → s < sector_count log → AllReadable log s (suc k)
      → Surveys log e (Continue (at_header (record { at = s; len = sector_count log }) (suc k) flushed last sv)) (report_from log e s k sv)
  unfolding AllReadable entries_from survey_from descriptors_on
  touring zero s flushed last sv h a =
      entry log e s 1 (on-ring s h) a.0 (omega arith) _ flushed last sv
      (λ sv₂ same. subst (λ (v : Survey). Surveys log e (Break (Some (record { flushed = flushed_file_offset (ring log s); last = last_file_offset (ring log s); found = sv₂ }))) (record { flushed = flushed_file_offset (ring log s); last = last_file_offset (ring log s); found = v })) (sym same) stop)
  touring (suc k) s flushed last sv h a =
      entry log e s (suc (suc k)) (on-ring s h) a.0 (omega arith) _ flushed last sv
      (λ sv₂ same.
      let below : behind log s < sector_count log = mod-lt (s + size (ring log s)) {m = sector_count log} (omega arith) in
      subst (λ (x : Step). Surveys log e x (report_from log e s (suc k) sv)) (sym (behind_more log s k sv₂))
      (subst (λ (v : Survey). Surveys log e (Continue (at_header (record { at = behind log s; len = sector_count log }) (suc k) (flushed_file_offset (ring log s)) (last_file_offset (ring log s)) sv₂)) (record { flushed = (head (entries_from log (behind log s) k)).flushed; last = (head (entries_from log (behind log s) k)).last; found = v })) (sym (same ∙ ap (λ (n : ℕ). survey_from e sv₂ (descriptors_on log (behind log s) 0 n)) {x = suc (suc k) - 1} {y = suc k} (omega arith)))
      (touring k (behind log s) _ _ sv₂ below a.1)))

pub surveys-all : SurveysAll
surveys-all log e s k w =
    subst (λ (r : Report). Surveys log e (started (record { at = s; len = sector_count log }) k) r)
    (report-path refl refl (ap (survey_from e empty) (sym (chain-descriptors log s k)) ∙ surveyed e (all_descriptors (entries_from log s k))))
    (subst (λ (n : ℕ). Surveys log e (Continue (at_header (record { at = s; len = sector_count log }) n 0 0 empty)) (report_from log e s k empty)) (sym (add-one k))
    (touring log e w.whole k s 0 0 empty w.start w.readable))
