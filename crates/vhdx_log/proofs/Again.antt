-- A plan is made again from any buffer that holds the final length, with the same first MiB and the same log, at any length from the
-- image's to the final one: what replay needs, since it grows the image and writes neither there.
-- Assumes nothing.
use mathlib.Core.Path.{◌≡◌, refl, ap, ◌∙◌}
use mathlib.Core.Bool.{Bool, true, false, cond, not, ◌&&◌, and-eq-true_iff}
use mathlib.Core.List.{List, []}
use Rattle.std.specs.Prelude.{Option, None, Some, Result, Ok, Err}
use Prim.Native.Nat.{ℕ, ◌≤◌}
use native.Mathlib.Omega.{arith}
use lib.Dec.{leb, eqb}
use lib.ListN.{length}
use borrow.Author.Tests.{leb-true, le-leb}
use Rattle.field.specs.Fields.{number}
use Rattle.decision.specs.declared.Refusal.{Refusal}
use Rattle.decision.specs.Refusal.{check}
use Rattle.extent.specs.declared.Extent.{Extent}
use Rattle.vhdx_header.specs.declared.Header.{Header}
use Rattle.vhdx_header.specs.Current.{first_mib, current_header}
use Rattle.vhdx_header.proofs.Laws.{read_again}
use Rattle.vhdx_sequence.specs.declared.Sequence.{Sequence}
use Rattle.vhdx_sequence.specs.Sequence.{active_sequence}
use Rattle.vhdx_walk.specs.Entries.{Entries, head, all_descriptors, Sector, sectors, length_limit}
use Rattle.vhdx_walk.specs.Bytes.{entries_from}
use Rattle.vhdx_log.specs.Work.{final_length, some_lies, Plan, refused, apply, apply_within, work}
use Rattle.vhdx_log.specs.Plan.{log_bytes, extent_of, plan_sequence, plan_log, plan_header, plan}

-- a plan that is no refusal passed the test
pub passed : (t : Bool) (c : ℕ) (p : Plan) {m : ℕ} {ss : List Sector} → check t (refused c) p ≡ apply m ss → (t ≡ true) × (p ≡ apply m ss)
passed true c p h = (refl, h)
passed false c p h = let z : ◌≡◌ {A = ℕ} 0 1 = cc in absurd (omega arith)

final-is : {a m : ℕ} {ss tt : List Sector} → apply a ss ≡ apply m tt → a ≡ m
final-is h = cc

module _ (capacity : ℕ) {n n' m capacity' : ℕ} {ss : List Sector} (longer : n ≤ n') (below : n' ≤ m) (fits : m ≤ capacity') where
  -- what 8 says of a plan, and of any capacity that holds the final length
  final : (x : ℕ) (l : List Sector) → apply_within capacity x l ≡ apply m ss → x ≡ m
  final x l h = final-is (passed (leb x capacity && leb x length_limit) 8 (apply x l) h).1

  within-again : (x : ℕ) (l : List Sector) → apply_within capacity x l ≡ apply m ss → apply_within capacity' x l ≡ apply m ss
  within-again x l h =
      let p = passed (leb x capacity && leb x length_limit) 8 (apply x l) h in
      let limit : leb x length_limit ≡ true = ((and-eq-true_iff (leb x capacity) (leb x length_limit)).0 p.0).1 in
      ap (λ (t : Bool). check t (refused 8) (apply x l))
      ((and-eq-true_iff (leb x capacity') (leb x length_limit)).1 (le-leb x capacity' (omega (arith, final x l h)), limit))
      ∙ p.1

  work-again : (e : Extent) (es : Entries) → work e es n capacity ≡ apply m ss → work e es n' capacity' ≡ apply m ss
  unfolding work
  work-again e es h =
      let ds = sectors (all_descriptors es) in
      let a = passed (leb (head es).flushed n) 6 (check (not (some_lies e ds)) (refused 7) (apply_within capacity (final_length es n) ds)) h in
      let b = passed (not (some_lies e ds)) 7 (apply_within capacity (final_length es n) ds) a.1 in
      let f : (head es).flushed ≤ n = leb-true (head es).flushed n a.0 in
      let l : final_length es n' ≡ final_length es n = omega (arith, final (final_length es n) ds b.1) in
      ap (λ (t : Bool). check t (refused 6) (check (not (some_lies e ds)) (refused 7) (apply_within capacity' (final_length es n') ds))) (le-leb (head es).flushed n' (omega arith))
      ∙ ap (λ (t : Bool). check t (refused 7) (apply_within capacity' (final_length es n') ds)) b.0
      ∙ ap (λ (x : ℕ). apply_within capacity' x ds) l
      ∙ within-again (final_length es n) ds b.1

  sequence-again : (e : Extent) (log : List ℕ) (q : Option Sequence) → plan_sequence e log n capacity q ≡ apply m ss → plan_sequence e log n' capacity' q ≡ apply m ss
  unfolding plan_sequence
  sequence-again e log None h = let z : ◌≡◌ {A = ℕ} 0 1 = cc in absurd (omega arith)
  sequence-again e log (Some q) h = work-again e (entries_from log q.start q.more) h

  log-again : (h : Header) (log : List ℕ) → plan_log h log n capacity ≡ apply m ss → plan_log h log n' capacity' ≡ apply m ss
  unfolding plan_log
  log-again h log e = go (eqb (number h.log_guid) 0) e
    where
      go : (t : Bool) → cond t (apply_within capacity n []) (plan_sequence (extent_of h) log n capacity (active_sequence log h.log_guid)) ≡ apply m ss
          → cond t (apply_within capacity' n' []) (plan_sequence (extent_of h) log n' capacity' (active_sequence log h.log_guid)) ≡ apply m ss
      go false p = sequence-again (extent_of h) log (active_sequence log h.log_guid) p
      go true p = ap (λ (x : ℕ). apply_within capacity' x []) {x = n'} {y = n} (omega (arith, final n [] p)) ∙ within-again n [] p

module _ (b b' : List ℕ) {n n' m : ℕ} {ss : List Sector} (longer : n ≤ n') (below : n' ≤ m) (fits : m ≤ length b')
    (log : (h : Header) → current_header b n ≡ Ok h → log_bytes h b' ≡ log_bytes h b) where
  -- whatever else changed, the same header is current
  pub plan-again-by : ((h : Header) → current_header b n ≡ Ok h → current_header b' n' ≡ Ok h) → plan b n ≡ apply m ss → plan b' n' ≡ apply m ss
  unfolding plan plan_header
  plan-again-by current e = go (current_header b n) refl e
    where
      go : (a : Result Header Refusal) → current_header b n ≡ a → plan_header a b n ≡ apply m ss → plan_header (current_header b' n') b' n' ≡ apply m ss
      go (Err r) k p = let z : ◌≡◌ {A = ℕ} 0 1 = cc in absurd (omega arith)
      go (Ok h) k p =
          ap (λ (a : Result Header Refusal). plan_header a b' n') (current h k)
          ∙ ap (λ (l : List ℕ). plan_log h l n' (length b')) (log h k)
          ∙ log-again (length b) {n = n} {n' = n'} {m = m} {capacity' = length b'} {ss = ss} longer below fits h (log_bytes h b) p

  pub plan-again : first_mib b' ≡ first_mib b → plan b n ≡ apply m ss → plan b' n' ≡ apply m ss
  plan-again first = plan-again-by (λ h k. read_again b n k b' n' first longer (omega (arith, below, fits)))
