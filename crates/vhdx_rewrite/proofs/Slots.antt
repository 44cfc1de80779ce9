-- The two slots of headers in a buffer: where they are, and what is read there.
-- Assumes nothing.
use mathlib.Core.Path.{◌≡◌, sym, ap, ◌∙◌}
use mathlib.Core.List.{List}
use mathlib.Core.Logic.{◌⊎◌, inl, inr, ⊎_elim}
use Prim.Native.Nat.{ℕ, ◌+◌, ◌-◌, ◌≤◌, ◌<◌}
use native.Mathlib.Omega.{arith}
use lib.ListN.{length, take, drop, get_or}
use lib.Seq.{get_or-take, get_or-drop}
use Rattle.extent.specs.Extent.{mib}
use Rattle.vhdx_header.specs.Current.{header_at, first_mib, other_slot}
use Rattle.vhdx_header.proofs.Standing.{Slots}
use Rattle.vhdx_replay.proofs.Assembled.{inner-part}
use Rattle.vhdx_steps.proofs.Reading.{same-part}

-- either slot lies in the first MiB
pub slots-low : {a b : ℕ} → Slots a b → (65536 ≤ a) × (a + 4096 ≤ mib) × (65536 ≤ b) × (b + 4096 ≤ mib)
slots-low s = ⊎_elim (λ x. (omega (arith, x.0), omega (arith, x.0), omega (arith, x.1), omega (arith, x.1))) (λ x. (omega (arith, x.0), omega (arith, x.0), omega (arith, x.1), omega (arith, x.1))) s

-- and they are apart
pub slots_apart : {a b : ℕ} → Slots a b → (a + 4096 ≤ b) ⊎ (b + 4096 ≤ a)
slots_apart s = ⊎_elim (λ x. inl (omega (arith, x.0, x.1))) (λ x. inr (omega (arith, x.0, x.1))) s

pub slots-back : {a b : ℕ} → Slots a b → other_slot b ≡ a
slots-back s = ⊎_elim (λ x. ap other_slot x.1 ∙ sym x.0) (λ x. ap other_slot x.1 ∙ sym x.0) s

pub slots-turned : {a b : ℕ} → Slots a b → Slots b a
slots-turned s = ⊎_elim (λ x. inr (x.1, x.0)) (λ x. inl (x.1, x.0)) s

pub slot-part : (b : List ℕ) (a : ℕ) → a + 4096 ≤ mib → mib ≤ length b → header_at (first_mib b) a ≡ take 4096 (drop a b)
unfolding header_at first_mib
slot-part b a l h =
    inner-part b 0 mib a 4096 h l ∙ ap (λ (k : ℕ). take 4096 (drop k b)) {x = 0 + a} {y = a} (omega arith)

pub slot_same : (b b' : List ℕ) (a : ℕ) → a + 4096 ≤ mib → mib ≤ length b' → mib ≤ length b
    → ((i : ℕ) → a ≤ i → i < a + 4096 → get_or b' i 0 ≡ get_or b i 0) → header_at (first_mib b') a ≡ header_at (first_mib b) a
slot_same b b' a l h' h s =
    slot-part b' a l h' ∙ same-part a 4096 b b' (omega arith) (omega arith) s ∙ sym (slot-part b a l h)

pub slot-byte : (b : List ℕ) (a i : ℕ) → a + 4096 ≤ mib → mib ≤ length b → a ≤ i → i < a + 4096 → get_or b i 0 ≡ get_or (header_at (first_mib b) a) (i - a) 0
slot-byte b a i l h from to =
    sym (ap (λ (x : List ℕ). get_or x (i - a) 0) (slot-part b a l h)
    ∙ get_or-take 4096 (drop a b) (i - a) 0 (omega arith) ∙ get_or-drop a b (i - a) 0
    ∙ ap (λ (n : ℕ). get_or b n 0) {x = a + (i - a)} {y = i} (omega arith))
