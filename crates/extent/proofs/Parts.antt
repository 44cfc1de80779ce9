-- A part of a list, as the code takes it out of a slice.
-- Assumes nothing.
use mathlib.Core.Path.{◌≡◌, ap, ◌∙◌}
use mathlib.Core.List.{List}
use Prim.Native.Nat.{ℕ, ◌+◌, ◌-◌, ◌≤◌}
use native.Mathlib.Nat.{add-sub_cancel_left}
use native.Mathlib.Omega.{arith}
use lib.ListN.{length, take, drop, length-drop}
use lib.Seq.{length-take-le}
use Rattle.extent.specs.declared.Extent.{Extent}
use Rattle.extent.specs.Extent.{part}

pub part_length : (s : List ℕ) (e : Extent) → e.offset + e.length ≤ length s → length (part s e) ≡ e.length
unfolding part
part_length s e h = length-take-le e.length (drop e.offset s) (simp length-drop (omega arith))

-- n bytes at an offset, and that they are n
pub part-taken : (s : List ℕ) (at n : ℕ) → at + n ≤ length s
    → (take (at + n - at) (drop at s) ≡ take n (drop at s)) × (length (take (at + n - at) (drop at s)) ≡ n)
unfolding part
part-taken s at n h =
    let e : take (at + n - at) (drop at s) ≡ take n (drop at s) = ap (λ (k : ℕ). take k (drop at s)) (add-sub_cancel_left at n) in
    (e, ap length e ∙ part_length s (record { offset = at; length = n }) h)
