-- The descriptors of an entry, sector by sector. Assumes nothing.
use mathlib.Core.Path.{◌≡◌, refl, sym, ap, ◌∙◌}
use mathlib.Core.Bool.{Bool, true, false, cond, ◌&&◌}
use mathlib.Core.List.{List}
use Prim.Native.Nat.{ℕ, zero, suc, ◌+◌, ◌*◌, ◌≤◌}
use native.Mathlib.Nat.{add-zero, add-suc}
use native.Mathlib.Omega.{arith}
use lib.ListN.{take, drop}
use lib.Seq.{drop-drop}
use Rattle.decision.specs.Bounded.{every}
use Rattle.vhdx_entry.specs.Ring.{sector_at}
use Rattle.vhdx_entry.specs.Entry.{descriptor, descriptor_rule, data_before, is_data_descriptor}
use Rattle.vhdx_entry.proofs.Laws.{within-take}
use Rattle.vhdx_pieces_entry.specs.Sector.{descriptor_in, passes, data_in}

and_assoc : (a b c : Bool) → (a && b) && c ≡ a && (b && c)
and_assoc true b c = refl
and_assoc false b c = refl

and-true : (a : Bool) → a && true ≡ a
and-true true = refl
and-true false = refl

-- sector j of the entry r, where descriptor number `lo` begins at byte `from`
module _ (r : List ℕ) (j lo from : ℕ) (starts : 64 + 32 * lo ≡ j * 4096 + from) where
  -- a descriptor lies in one sector
  pub in-sector : (i : ℕ) → from + 32 * i + 32 ≤ 4096 → descriptor_in (sector_at r j) from i ≡ descriptor r (lo + i)
  unfolding descriptor_in descriptor sector_at
  in-sector i h =
      within-take 32 (from + 32 * i) 4096 (drop (j * 4096) r) h
      ∙ ap (take 32) (drop-drop (from + 32 * i) (j * 4096) r ∙ ap (λ (x : ℕ). drop x r) {x = j * 4096 + (from + 32 * i)} {y = 64 + 32 * (lo + i)} (omega arith))

  pub rules-split : (number m : ℕ) → from + 32 * m ≤ 4096
      → every (lo + m) (λ i. descriptor_rule number (descriptor r i)) ≡ every lo (λ i. descriptor_rule number (descriptor r i)) && passes number (sector_at r j) from m
  unfolding passes every
  rules-split number zero h = rw (add-zero lo) (sym (and-true (every lo (λ i. descriptor_rule number (descriptor r i)))))
  rules-split number (suc m) h =
      rw (add-suc lo m)
      (ap (λ (b : Bool). b && descriptor_rule number (descriptor r (lo + m))) (rules-split number m (omega arith))
      ∙ and_assoc (every lo (λ i. descriptor_rule number (descriptor r i))) (passes number (sector_at r j) from m) (descriptor_rule number (descriptor r (lo + m)))
      ∙ ap (λ (d : List ℕ). every lo (λ i. descriptor_rule number (descriptor r i)) && (passes number (sector_at r j) from m && descriptor_rule number d)) (sym (in-sector m (omega arith))))

  pub data-split : (m : ℕ) → from + 32 * m ≤ 4096 → data_before r (lo + m) ≡ data_before r lo + data_in (sector_at r j) from m
  unfolding data_before data_in
  data-split zero h = rw (add-zero lo) (sym (add-zero (data_before r lo)))
  data-split (suc m) h =
      rw (add-suc lo m)
      (ap (λ (n : ℕ). n + cond (is_data_descriptor (descriptor r (lo + m))) 1 0) (data-split m (omega arith))
      ∙ ap (λ (d : List ℕ). data_before r lo + data_in (sector_at r j) from m + cond (is_data_descriptor d) 1 0) (sym (in-sector m (omega arith)))
      ∙ last (data_before r lo) (data_in (sector_at r j) from m) (cond (is_data_descriptor (descriptor_in (sector_at r j) from m)) 1 0))
    where
      last : (a b c : ℕ) → a + b + c ≡ a + (b + c)
      last a b c = omega arith
