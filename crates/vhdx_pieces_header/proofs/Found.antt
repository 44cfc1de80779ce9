-- Fed the file's bytes, the reader in pieces ends with the current header, or the same refusal.
-- Assumes nothing.
use mathlib.Core.Path.{◌≡◌, refl, sym, ap, ap₂, ◌∙◌, subst}
use mathlib.Core.Bool.{Bool, true, false, ◌&&◌, and-eq-true_iff}
use mathlib.Core.List.{List, [], ◌∷◌}
use Prim.Native.Nat.{ℕ, zero, suc, ◌+◌, ◌≤◌}
use native.Mathlib.Omega.{arith}
use lib.Dec.{leb, eqb, lit≤}
use lib.ListN.{length, take, drop}
use lib.Seq.{take-take}
use borrow.Author.Tests.{leb-true}
use Rattle.std.specs.Prelude.{Option, None, Some, Result, Err}
use Rattle.std.specs.declared.ops.ControlFlow.TheVariants.{Continue, Break}
use Rattle.decision.specs.declared.Refusal.{Refusal}
use Rattle.decision.specs.declared.Refusal.TheVariants.{ImageLength, NotVhdx}
use Rattle.decision.specs.Refusal.{check}
use Rattle.field.specs.Fields.{starts}
use Rattle.extent.specs.Extent.{mib}
use Rattle.vhdx_header.specs.Header.{valid_header, sequence_number_of}
use Rattle.vhdx_header.specs.Current.{vhdxfile, slot1, slot2, header_at, chosen_slot, current_slot, read_header, read_slot, read_first_mib, within_image, first_mib, current_header}
use Rattle.vhdx_header.specs.declared.Header.{Header}
use Rattle.vhdx_header.specs.declared.choice.Slot.{Slot}
use Rattle.vhdx_header.specs.declared.choice.Slot.TheVariants as slot
use Rattle.vhdx_pieces_header.specs.declared.Stage.TheVariants.{Identifier, First, Second}
use Rattle.vhdx_pieces_header.specs.Finding.{candidate_of, chosen_by, chosen, step_of, Finds, stop, next, FindsHeader}

-- ---- lists

starts-take : (k : List ℕ) (l : List ℕ) (m : ℕ) → length k ≤ m → starts (take m l) k ≡ starts l k
unfolding starts
starts-take [] l m h = refl
starts-take (x ∷ k) l zero h = absurd (omega arith)
starts-take (x ∷ k) [] (suc m) h = refl
starts-take (x ∷ k) (y ∷ l) (suc m) h = ap (λ (b : Bool). eqb y x && b) (starts-take k l m (omega arith))

within-take : (w m a : ℕ) (l : List ℕ) → m + w ≤ a → take w (drop m (take a l)) ≡ take w (drop m l)
within-take w zero a l h = take-take w a l (omega arith)
within-take w (suc m) zero l h = absurd (omega arith)
within-take w (suc m) (suc a) [] h = refl
within-take w (suc m) (suc a) (x ∷ l) h = within-take w m a l (omega arith)

module _ (b : List ℕ) where
  same_start : starts (take 8 (drop 0 b)) vhdxfile ≡ starts (first_mib b) vhdxfile
  unfolding first_mib
  same_start = starts-take vhdxfile b 8 (lit≤ tt) ∙ sym (starts-take vhdxfile b mib (lit≤ tt))

  same-header : (at : ℕ) → at + 4096 ≤ mib → header_at (first_mib b) at ≡ take 4096 (drop at b)
  unfolding first_mib header_at
  same-header at h = within-take 4096 at mib b h

  -- what the two headers come to
  same-slot : read_slot (current_slot (first_mib b)) (first_mib b) ≡ chosen (candidate_of slot1 (take 4096 (drop slot1 b))) (candidate_of slot2 (take 4096 (drop slot2 b)))
  unfolding current_slot read_header
  same-slot =
      go (header_at (first_mib b) slot1) (header_at (first_mib b) slot2) (same-header slot1 (lit≤ tt)) (same-header slot2 (lit≤ tt)) refl refl
    where
      by-slot : (x y : List ℕ) (s : Option Slot) → header_at (first_mib b) slot1 ≡ x → header_at (first_mib b) slot2 ≡ y → read_slot s (first_mib b) ≡ chosen_by s (candidate_of slot1 x) (candidate_of slot2 y)
      by-slot x y None p q = refl
      by-slot x y (Some slot.First) p q = ap (read_header slot1) p
      by-slot x y (Some slot.Second) p q = ap (read_header slot2) q

      go : (x y : List ℕ) → x ≡ take 4096 (drop slot1 b) → y ≡ take 4096 (drop slot2 b) → header_at (first_mib b) slot1 ≡ x → header_at (first_mib b) slot2 ≡ y
          → read_slot (chosen_slot (valid_header x) (valid_header y) (sequence_number_of x) (sequence_number_of y)) (first_mib b)
          ≡ chosen (candidate_of slot1 (take 4096 (drop slot1 b))) (candidate_of slot2 (take 4096 (drop slot2 b)))
      go x y p q r s =
          by-slot x y (chosen_slot (valid_header x) (valid_header y) (sequence_number_of x) (sequence_number_of y)) r s
          ∙ ap₂ (λ (u v : List ℕ). chosen (candidate_of slot1 u) (candidate_of slot2 v)) p q

  module _ (n : ℕ) where
    second : mib ≤ n → Finds b n (Continue First) (within_image n (read_slot (current_slot (first_mib b)) (first_mib b)))
    unfolding step_of
    second h =
        next {s = First} (omega arith)
        (next {s = Second (candidate_of slot1 (take 4096 (drop slot1 b)))} (omega arith)
        (subst (λ (a : Result Header Refusal). Finds b n (Break (within_image n (chosen (candidate_of slot1 (take 4096 (drop slot1 b))) (candidate_of slot2 (take 4096 (drop slot2 b)))))) (within_image n a)) (sym same-slot) stop))

    first : mib ≤ n → Finds b n (Continue Identifier) (within_image n (read_first_mib (first_mib b)))
    unfolding step_of read_first_mib
    first h = next {s = Identifier} (omega arith) (go (starts (first_mib b) vhdxfile) same_start)
      where
        go : (t : Bool) → starts (take 8 (drop 0 b)) vhdxfile ≡ t
            → Finds b n (check (starts (take 8 (drop 0 b)) vhdxfile) (Break (Err NotVhdx)) (Continue First)) (within_image n (check t (Err NotVhdx) (read_slot (current_slot (first_mib b)) (first_mib b))))
        go true e = rw e (second h)
        go false e = rw e stop

pub finds-header : FindsHeader
unfolding current_header
finds-header b n = go (leb n (length b) && leb mib n) refl
  where
    go : (t : Bool) → leb n (length b) && leb mib n ≡ t
        → Finds b n (check t (Break (Err ImageLength)) (Continue Identifier)) (check t (Err ImageLength) (within_image n (read_first_mib (first_mib b))))
    go true e = first b n (leb-true mib n ((and-eq-true_iff (leb n (length b)) (leb mib n)).0 e).1)
    go false e = stop
