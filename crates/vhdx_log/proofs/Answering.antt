-- Answers stand for plans: a refusal, a sequence by what its survey says, and the log that a header names.
-- Assumes nothing.
use mathlib.Core.Path.{◌≡◌, sym, ap, subst, ◌∙◌}
use mathlib.Core.Bool.{true, false, ◌&&◌, and-eq-true_iff}
use mathlib.Core.List.{List, []}
use Prim.Native.Nat.{ℕ, ◌+◌, ◌-◌, ◌*◌, ◌/◌, ◌%◌, ◌≤◌, max}
use native.Mathlib.Nat.{add-sub_cancel_left}
use native.Mathlib.Omega.{arith}
use lib.Dec.{leb, eqb}
use lib.ListN.{length, take, drop, length-drop}
use lib.Seq.{length-take-le}
use borrow.Author.Tests.{eqb-true, eq-eqb, leb-true}
use Rattle.std.specs.Prelude.{Result, Ok, Err}
use Rattle.decision.specs.declared.Refusal.{Refusal}
use Rattle.decision.specs.declared.Refusal.TheVariants.{ForbiddenSector, FinalLength}
use Rattle.decision.specs.Refusal.{number as number_of}
use Rattle.field.specs.declared.Guid.{Guid}
use Rattle.field.specs.Fields.{number}
use Rattle.extent.specs.declared.Extent.{Extent}
use Rattle.extent.specs.Extent.{mib}
use Rattle.extent.proofs.Laws.{iff}
use Rattle.vhdx_header.specs.declared.Header.{Header}
use Rattle.vhdx_header.specs.Current.{current_header}
use Rattle.vhdx_header.proofs.Laws.{accepted}
use Rattle.vhdx_sequence.specs.Sequence.{active_sequence}
use Rattle.vhdx_walk.specs.Entries.{Descriptor, head, all_descriptors, sectors, furthest, length_limit}
use Rattle.vhdx_walk.specs.Bytes.{entries_from}
use Rattle.vhdx_walk.specs.Cursor.{descriptors_on, AllReadable, Walkable}
use Rattle.vhdx_walk.proofs.Chains.{chain-descriptors, first-placed, first-descriptors}
use Rattle.vhdx_walk.proofs.Sectors.{from-ready}
use Rattle.vhdx_log.specs.declared.survey.Survey.{Survey}
use Rattle.vhdx_log.specs.declared.Work.{Work}
use Rattle.vhdx_log.specs.Work.{some_lies, Plan, refused, apply, count, apply_within, work}
use Rattle.vhdx_log.specs.Plan.{log_bytes, plan_sequence, plan_log, plan_header, plan}
use Rattle.vhdx_log.specs.Survey.{capped, survey_of}
use Rattle.vhdx_log.specs.Answers.{log_of, plan_of, count_of, ReadyIn, Stands}
use Rattle.vhdx_log.proofs.Decisions.{refused-7, refused-8, applied, exact-count}

pub refusal : (log : List ℕ) (r : Refusal) (p : Plan) → refused (number_of r) ≡ p → Stands log (Err r) p
refusal log r p h = record { same = h; counted = ap count h; ready = tt }

-- ---- without a log

pub no-log : (log : List ℕ) (n capacity : ℕ) → (leb n capacity && leb n length_limit) ≡ true →
    Stands log (Ok (record { length = n; count = 0; cursor = record { pos = record { at = 0; len = 0 }; left = 0; index = 0; «data» = 0 } })) (apply_within capacity n [])
unfolding descriptors_on AllReadable
no-log log n capacity h =
    record { same = rw h; counted = rw h; ready = from-ready log (record { pos = record { at = 0; len = 0 }; left = 0; index = 0; «data» = 0 }) (record { here = λ b. absurd (omega arith); readable = tt }) (omega arith) }

-- ---- a found sequence

module _ (log : List ℕ) (s k : ℕ) (w : Walkable log s k) (e : Extent) (n capacity : ℕ) (flushed : (head (entries_from log s k)).flushed ≤ n) (v : Survey) (surveyed : v ≡ survey_of e (descriptors_on log s 0 (k + 1))) where
  all : v ≡ survey_of e (all_descriptors (entries_from log s k))
  all = surveyed ∙ ap (survey_of e) (first-descriptors log s k w)

  few : length (all_descriptors (entries_from log s k)) ≤ 2097152
  few = omega (arith, w.few, w.small, ap length (chain-descriptors log s k))

  pub lies-inside : v.lies ≡ true → Stands log (Err ForbiddenSector) (work e (entries_from log s k) n capacity)
  lies-inside h =
      refusal log ForbiddenSector (work e (entries_from log s k) n capacity)
      (refused-7 e (entries_from log s k) n capacity flushed (sym (ap (λ (x : Survey). x.lies) all) ∙ h))

  module _ (apart : v.lies ≡ false) (last m : ℕ) (last-is : last ≡ (head (entries_from log s k)).last) (final : m ≡ max n (max last v.end)) where
    outside : some_lies e (sectors (all_descriptors (entries_from log s k))) ≡ false
    outside = sym (ap (λ (x : Survey). x.lies) all) ∙ apart

    final-is : m ≡ max n (max (head (entries_from log s k)).last (capped (furthest (all_descriptors (entries_from log s k)))))
    final-is = final ∙ ap (λ (x : ℕ). max n (max x v.end)) last-is ∙ ap (λ (x : Survey). max n (max (head (entries_from log s k)).last x.end)) all

    pub too_long : (leb m capacity && leb m length_limit) ≡ false → Stands log (Err FinalLength) (work e (entries_from log s k) n capacity)
    too_long h =
        refusal log FinalLength (work e (entries_from log s k) n capacity)
        (refused-8 e (entries_from log s k) n capacity flushed outside m final-is h)

    bound : (leb m capacity && leb m length_limit) ≡ true → furthest (descriptors_on log s 0 (k + 1)) ≤ length_limit
    bound h =
        let l : m ≤ length_limit = leb-true m length_limit ((and-eq-true_iff (leb m capacity) (leb m length_limit)).0 h).1 in
        omega (arith, final-is, ap furthest (first-descriptors log s k w))

    pub applies : (leb m capacity && leb m length_limit) ≡ true →
        Stands log (Ok (record { length = m; count = v.count; cursor = record { pos = record { at = s; len = length log / 4096 }; left = k + 1; index = 0; «data» = 0 } })) (work e (entries_from log s k) n capacity)
    applies h =
        let done = applied e (entries_from log s k) n capacity flushed outside m final-is h in
        record {
          same = ap (λ (ds : List Descriptor). apply m (sectors ds)) (first-descriptors log s k w) ∙ done;
          counted =
              ap (λ (x : Survey). x.count) all
              ∙ exact-count e (entries_from log s k) n capacity flushed outside m final-is h few
              ∙ ap count done;
          ready = from-ready log (record { pos = record { at = s; len = length log / 4096 }; left = k + 1; index = 0; «data» = 0 }) (first-placed log s k w) (bound h);
        }

-- ---- the log that a header names

pub zero_number : (g : Guid) → (eqb g.low 0 && eqb g.high 0) ≡ eqb (number g) 0
zero_number g = iff (eqb g.low 0 && eqb g.high 0) (eqb (number g) 0) there back
  where
    there : (eqb g.low 0 && eqb g.high 0) ≡ true → eqb (number g) 0 ≡ true
    there h =
        let p = (and-eq-true_iff (eqb g.low 0) (eqb g.high 0)).0 h in
        let a : g.low ≡ 0 = eqb-true g.low 0 p.0 in
        let b : g.high ≡ 0 = eqb-true g.high 0 p.1 in
        eq-eqb (number g) 0 (omega arith)

    back : eqb (number g) 0 ≡ true → (eqb g.low 0 && eqb g.high 0) ≡ true
    back h =
        let s : number g ≡ 0 = eqb-true (number g) 0 h in
        rw (eq-eqb g.low 0 (omega arith), eq-eqb g.high 0 (omega arith))

-- the slice that the code takes
pub log-part : (b : List ℕ) (h : Header) → take (h.log_offset + h.log_length - h.log_offset) (drop h.log_offset b) ≡ log_bytes h b
unfolding log_bytes
log-part b h = ap (λ (n : ℕ). take n (drop h.log_offset b)) (add-sub_cancel_left h.log_offset h.log_length)

module _ (b : List ℕ) (n : ℕ) (h : Header) (current : current_header b n ≡ Ok h) where
  pub log-inside : h.log_offset + h.log_length ≤ length b
  log-inside = let a = accepted b n current in omega arith

  pub log-length : length (log_bytes h b) ≡ h.log_length
  unfolding log_bytes
  log-length = length-take-le h.log_length (drop h.log_offset b) (simp length-drop (omega (arith, log-inside)))

  pub log-placed : (length (log_bytes h b) % mib ≡ 0) × (length (log_bytes h b) ≤ 64 * mib)
  log-placed = let a = (accepted b n current).placed in (omega (arith, a.length_whole, log-length), omega (arith, a.limit, log-length))

  pub without : (r : Result Work Refusal) (capacity : ℕ) → eqb (number h.log_guid) 0 ≡ true →
      ((log : List ℕ) → Stands log r (apply_within capacity n [])) → Stands (log_bytes h b) r (plan_log h (log_bytes h b) n capacity)
  unfolding plan_log
  without r capacity zero-guid s = rw zero-guid (s (log_bytes h b))

  pub within : (r : Result Work Refusal) (capacity : ℕ) (log : List ℕ) → log ≡ log_bytes h b → eqb (number h.log_guid) 0 ≡ false →
      Stands log r (plan_sequence (record { offset = h.log_offset; length = length log }) log n capacity (active_sequence log h.log_guid)) →
      Stands (log_bytes h b) r (plan_log h (log_bytes h b) n capacity)
  unfolding plan_log
  within r capacity log same other s =
      let l = log_bytes h b in
      let t : Stands l r (plan_sequence (record { offset = h.log_offset; length = length l }) l n capacity (active_sequence l h.log_guid)) =
      subst
      (λ (x : List ℕ). Stands x r (plan_sequence (record { offset = h.log_offset; length = length x }) x n capacity (active_sequence x h.log_guid)))
      same
      s in
      rw other
      (subst
      (λ (x : ℕ). Stands l r (plan_sequence (record { offset = h.log_offset; length = x }) l n capacity (active_sequence l h.log_guid)))
      log-length
      t)

  pub planned : (r : Result Work Refusal) → Stands (log_bytes h b) r (plan_log h (log_bytes h b) n (length b)) →
      (plan_of b n r ≡ plan b n) × (count_of r ≡ count (plan b n)) × ReadyIn (log_of b n) r
  unfolding plan plan_header log_of
  planned r s = rw current (s.same, s.counted, s.ready)

pub plan-refused : (b : List ℕ) (n : ℕ) (r : Refusal) → current_header b n ≡ Err r → refused (number_of r) ≡ plan b n
unfolding plan plan_header
plan-refused b n r h = rw h

-- the header's refusal, passed on
pub refused_plan : (b : List ℕ) (n : ℕ) (r : Refusal) → current_header b n ≡ Err r → (a : Result Work Refusal) → a ≡ Err r →
    (plan_of b n a ≡ plan b n) × (count_of a ≡ count (plan b n)) × ReadyIn (log_of b n) a
refused_plan b n r h a e = let p = plan-refused b n r h in rw e (p, ap count p, tt)

-- ---- the log's bytes

pub log-none : (b : List ℕ) (n : ℕ) {r : Refusal} → current_header b n ≡ Err r → [] ≡ log_of b n
unfolding log_of
log-none b n h = rw h

pub log_is : (b : List ℕ) (n : ℕ) {h : Header} → current_header b n ≡ Ok h → log_bytes h b ≡ log_of b n
unfolding log_of
log_is b n h = rw h
