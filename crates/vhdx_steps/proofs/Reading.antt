-- A plan that applies, made of a file's first MiB and log, is made again of every file that calls make of it (`Reads`).
-- Assumes nothing.
use mathlib.Core.Path.{◌≡◌, refl, sym, ap, subst, ◌∙◌}
use mathlib.Core.Bool.{Bool, true, false, cond, not, ◌&&◌, and-eq-true_iff}
use mathlib.Core.List.{List, []}
use mathlib.Core.Logic.{inl, inr, ⊎_elim}
use Rattle.std.specs.Prelude.{Option, None, Some, Result, Ok, Err}
use Prim.Native.Nat.{ℕ, ◌+◌, ◌%◌, ◌≤◌, ◌<◌}
use native.Mathlib.Omega.{arith}
use lib.Dec.{eqb, leb}
use lib.ListN.{length, take, drop, get_or}
use lib.Seq.{get_or-take, get_or-drop, ext_get_or}
use borrow.Author.Tests.{leb-true, not-true}
use Rattle.decision.specs.declared.Refusal.{Refusal}
use Rattle.decision.specs.Refusal.{check, number as number_of}
use Rattle.field.specs.declared.Guid.{Guid}
use Rattle.field.specs.Fields.{number}
use Rattle.extent.specs.declared.Extent.{Extent}
use Rattle.extent.specs.Extent.{mib}
use Rattle.vhdx_header.specs.Current.{first_mib, current_header}
use Rattle.vhdx_header.specs.declared.Header.{Header}
use Rattle.vhdx_header.proofs.Laws.{accepted}
use Rattle.vhdx_sequence.specs.declared.Sequence.{Sequence}
use Rattle.vhdx_sequence.specs.Sequence.{active_sequence}
use Rattle.vhdx_sequence.proofs.Laws.{found}
use Rattle.vhdx_walk.specs.Entries.{Entries, head, all_descriptors, furthest, Sector, sectors, length_limit}
use Rattle.vhdx_walk.specs.Bytes.{entries_from}
use Rattle.vhdx_walk.proofs.Chains.{linked-readable}
use Rattle.vhdx_log.specs.Work.{final_length, some_lies, refused, apply, apply_within, work}
use Rattle.vhdx_log.specs.Plan.{log_bytes, extent_of, plan_sequence, plan_log, plan_header, plan}
use Rattle.vhdx_log.proofs.Answering.{plan-refused, log-placed}
use Rattle.vhdx_log.proofs.Again.{passed, plan-again}
use Rattle.vhdx_steps.specs.Steps.{File}
use Rattle.vhdx_steps.specs.Calls.{plan_of}
use Rattle.vhdx_steps.proofs.Bytes.{part-long}
use Rattle.vhdx_steps.proofs.Restart.{EndBy, Reads}
use Rattle.vhdx_steps.proofs.Sectors.{AllSized, entries-sized, Whole, all_whole, all_end, Kept, none_kept}

-- ---- what a plan that applies says of its sectors

pub record Applied (log : Extent) (n capacity m : ℕ) (ss : List Sector) : Type 0 where
  pub grows : n ≤ m
  pub fits : m ≤ capacity
  pub limit : m ≤ length_limit
  pub whole : Whole ss
  pub ends : EndBy m ss
  pub clear : some_lies log ss ≡ false

within : (capacity final : ℕ) (l : List Sector) {m : ℕ} {ss : List Sector} → apply_within capacity final l ≡ apply m ss → (final ≤ capacity) × (final ≡ m) × (l ≡ ss) × (final ≤ length_limit)
within capacity final l h =
    let p = passed (leb final capacity && leb final length_limit) 8 (apply final l) h in
    let both = (and-eq-true_iff (leb final capacity) (leb final length_limit)).0 p.0 in
    (leb-true final capacity both.0, cc p.1, cc p.1, leb-true final length_limit both.1)

no-log : (log : Extent) (n capacity : ℕ) {m : ℕ} {ss : List Sector} → apply_within capacity n [] ≡ apply m ss → Applied log n capacity m ss
no-log log n capacity h =
    let w = within capacity n [] h in
    record { grows = omega (arith, w.1); fits = omega (arith, w.0, w.1); limit = omega (arith, w.1, w.3); whole = rw (← w.2) tt; ends = rw (← w.2) tt; clear = rw (← w.2) }

of-work : (log : Extent) (es : Entries) (n capacity : ℕ) {m : ℕ} {ss : List Sector} → AllSized (all_descriptors es) → work log es n capacity ≡ apply m ss → Applied log n capacity m ss
unfolding work
of-work log es n capacity {m} sized h =
    let l = sectors (all_descriptors es) in
    let a = passed (leb (head es).flushed n) 6 (check (not (some_lies log l)) (refused 7) (apply_within capacity (final_length es n) l)) h in
    let b = passed (not (some_lies log l)) 7 (apply_within capacity (final_length es n) l) a.1 in
    let w = within capacity (final_length es n) l b.1 in
    let far : furthest (all_descriptors es) ≤ m = omega (arith, w.1) in
    record {
      grows = omega (arith, w.1);
      fits = omega (arith, w.0, w.1);
      limit = omega (arith, w.1, w.3);
      whole = rw (← w.2) (all_whole (all_descriptors es) sized);
      ends = rw (← w.2) (all_end m (all_descriptors es) sized far);
      clear = rw (← w.2) (not-true _ b.0);
    }

of-sequence : (log : Extent) (bytes : List ℕ) (guid : Guid) (n capacity : ℕ) (q : Option Sequence) {m : ℕ} {ss : List Sector} → length bytes % 4096 ≡ 0
    → active_sequence bytes guid ≡ q → plan_sequence log bytes n capacity q ≡ apply m ss → Applied log n capacity m ss
unfolding plan_sequence
of-sequence log bytes guid n capacity None whole e h = let z : ◌≡◌ {A = ℕ} 0 1 = cc in absurd (omega arith)
of-sequence log bytes guid n capacity (Some q) whole e h =
    let f = found bytes guid q whole e in
    of-work log (entries_from bytes q.start q.more) n capacity (entries-sized bytes q.start q.more (linked-readable bytes guid q.start q.more f.1)) h

of-log : (h : Header) (bytes : List ℕ) (n capacity : ℕ) {m : ℕ} {ss : List Sector} → length bytes % 4096 ≡ 0 → plan_log h bytes n capacity ≡ apply m ss → Applied (extent_of h) n capacity m ss
unfolding plan_log
of-log h bytes n capacity {m} {ss} whole e = go (eqb (number h.log_guid) 0) e
  where
    go : (t : Bool) → cond t (apply_within capacity n []) (plan_sequence (extent_of h) bytes n capacity (active_sequence bytes h.log_guid)) ≡ apply m ss → Applied (extent_of h) n capacity m ss
    go true e = no-log (extent_of h) n capacity e
    go false e = of-sequence (extent_of h) bytes h.log_guid n capacity (active_sequence bytes h.log_guid) whole refl e

-- ---- parts of two buffers that agree there

pub same-part : (a n : ℕ) (r r' : List ℕ) → a + n ≤ length r' → a + n ≤ length r → ((i : ℕ) → a ≤ i → i < a + n → get_or r' i 0 ≡ get_or r i 0) → take n (drop a r') ≡ take n (drop a r)
same-part a n r r' h' h s =
    ext_get_or 0 (take n (drop a r')) (take n (drop a r)) (part-long r' a n h' ∙ sym (part-long r a n h))
    (λ i l.
    let k : i < n = omega (arith, part-long r' a n h') in
    get_or-take n (drop a r') i 0 k ∙ get_or-drop a r' i 0 ∙ s (a + i) (omega arith) (omega arith) ∙ sym (get_or-take n (drop a r) i 0 k ∙ get_or-drop a r i 0))

pub same_first : (r r' : List ℕ) → mib ≤ length r' → mib ≤ length r → ((i : ℕ) → i < mib → get_or r' i 0 ≡ get_or r i 0) → first_mib r' ≡ first_mib r
unfolding first_mib
same_first r r' h' h s = same-part 0 mib r r' h' h (λ i a b. s i b)

same_log : (h : Header) (r r' : List ℕ) → h.log_offset + h.log_length ≤ length r' → h.log_offset + h.log_length ≤ length r
    → ((i : ℕ) → h.log_offset ≤ i → i < h.log_offset + h.log_length → get_or r' i 0 ≡ get_or r i 0) → log_bytes h r' ≡ log_bytes h r
unfolding log_bytes
same_log h r r' b' b s = same-part h.log_offset h.log_length r r' b' b s

-- ---- the plan of a file

-- it is made by a current header
pub header_of : (b : List ℕ) (n : ℕ) {m : ℕ} {ss : List Sector} → plan b n ≡ apply m ss → (h : Header) × (current_header b n ≡ Ok h)
header_of b n {m} {ss} e = go (current_header b n) refl
  where
    go : (a : Result Header Refusal) → current_header b n ≡ a → (h : Header) × (current_header b n ≡ Ok h)
    go (Err r) q = let never : refused (number_of r) ≡ apply m ss = plan-refused b n r q ∙ e in let z : ◌≡◌ {A = ℕ} 0 1 = cc in absurd (omega arith)
    go (Ok h) q = (h, q)

module _ (o : File) (h : Header) (k : current_header o.buffer o.size ≡ Ok h) {m : ℕ} {ss : List Sector} (e : plan_of o ≡ apply m ss) where
  pub applied : Applied (extent_of h) o.size (length o.buffer) m ss
  unfolding plan plan_header
  applied =
      let placed = log-placed o.buffer o.size h k in
      of-log h (log_bytes h o.buffer) o.size (length o.buffer) (omega (arith, placed.0)) (ap (λ (a : Result Header Refusal). plan_header a o.buffer o.size) (sym k) ∙ e)

  -- any header that is current is the one
  log_kept : (g : File) → m ≤ length g.buffer → ((i : ℕ) → Kept (extent_of h) i → get_or g.buffer i 0 ≡ get_or o.buffer i 0)
      → (h' : Header) → ◌≡◌ {A = Result Header Refusal} (Ok h) (Ok h') → log_bytes h' g.buffer ≡ log_bytes h' o.buffer
  log_kept g fits s h' q =
      let same : h ≡ h' = cc q in
      let a = accepted o.buffer o.size k in
      subst (λ (x : Header). log_bytes x g.buffer ≡ log_bytes x o.buffer) same
      (same_log h o.buffer g.buffer (omega (arith, a.inside, applied.grows, fits)) (omega (arith, a.inside, a.fits)) (λ i b c. s i (inr (b, c))))

  pub reads : Reads (Kept (extent_of h)) o m ss
  reads =
      let a = accepted o.buffer o.size k in
      let p = applied in
      record {
        grows = p.grows;
        fits = p.fits;
        ends = p.ends;
        inside = λ i x. ⊎_elim (λ y. omega (arith, a.holds_first)) (λ y. omega (arith, a.inside)) x;
        apart = none_kept (extent_of h) ss p.whole p.clear;
        again = λ g fits longer below s.
            plan-again o.buffer g.buffer longer below fits (λ h' k'. log_kept g fits s h' (sym k ∙ k'))
            (same_first o.buffer g.buffer (omega (arith, a.holds_first, p.grows, fits)) (omega (arith, a.holds_first, a.fits)) (λ i b. s i (inl b)))
            e;
      }
