-- The write of the header, from what its parts promise.
-- Assumes nothing.
use mathlib.Core.Path.{◌≡◌, sym, ap, subst, ◌∙◌}
use mathlib.Core.List.{List}
use mathlib.Core.Logic.{⊎_elim}
use Prim.Native.Nat.{ℕ, ◌+◌, ◌≤◌, ◌<◌}
use native.Mathlib.Omega.{arith}
use lib.ListN.{length, take, drop}
use Rattle.extent.specs.Extent.{mib}
use Rattle.vhdx_header.specs.Header.{sequence_number_of}
use Rattle.vhdx_header.specs.Current.{header_at, first_mib, other_slot}
use Rattle.vhdx_steps.specs.Buffer.{put}
use Rattle.vhdx_rewrite.specs.Rewrite.{greatest, closed_header}
use Rattle.vhdx_rewrite.specs.Writing.{Closable, header_written}
use Rattle.vhdx_rewrite.proofs.Slots.{slot-part}

module _ (b : List ℕ) (slot : ℕ) (p : Closable b slot) where
  pub low : slot + 4096 ≤ mib
  low = ⊎_elim (λ e. omega arith) (λ e. omega arith) p.placed

  pub other-low : other_slot slot + 4096 ≤ mib
  other-low = ⊎_elim (λ e. subst (λ (s : ℕ). other_slot s + 4096 ≤ mib) (sym e) (omega arith)) (λ e. subst (λ (s : ℕ). other_slot s + 4096 ≤ mib) (sym e) (omega arith)) p.placed

  pub fits : slot + 4096 ≤ length b
  fits = omega (arith, low, p.large)

  pub other_fits : other_slot slot + 4096 ≤ length b
  other_fits = omega (arith, other-low, p.large)

  -- the part that the code takes
  module _ (h : List ℕ) (e : h ≡ take 4096 (drop slot b)) where
    pub part-is : h ≡ header_at (first_mib b) slot
    part-is = e ∙ sym (slot-part b slot low p.large)

    pub part-fits : sequence_number_of h < greatest
    part-fits = subst (λ (x : List ℕ). sequence_number_of x < greatest) (sym part-is) p.below

    pub written : (identifier out g : List ℕ) (at : ℕ) → out ≡ closed_header h identifier → at ≡ other_slot slot → g ≡ put b at out → g ≡ header_written b slot identifier
    unfolding header_written
    written identifier out g at eo ea eg =
        eg ∙ ap (λ (n : ℕ). put b n out) ea ∙ ap (put b (other_slot slot)) (eo ∙ ap (λ (x : List ℕ). closed_header x identifier) part-is)

    pub wide : (identifier out : List ℕ) → out ≡ closed_header h identifier → length out ≡ 4096 → length (closed_header (header_at (first_mib b) slot) identifier) ≡ 4096
    wide identifier out eo l = ap length (ap (λ (x : List ℕ). closed_header x identifier) (sym part-is) ∙ sym eo) ∙ l
