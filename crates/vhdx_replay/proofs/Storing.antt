-- A list pasted over a part of another, lib.Seq's `paste`: element by element, and whole, as `put`.
-- Assumes nothing.
use mathlib.Core.Path.{◌≡◌, ap, ◌∙◌}
use mathlib.Core.List.{List}
use Prim.Native.Nat.{ℕ, ◌+◌, ◌-◌, ◌≤◌, ◌<◌}
use native.Mathlib.Numerals.{add-one}
use native.Mathlib.Omega.{arith}
use lib.ListN.{length, get_or, set}
use lib.Seq.{paste, paste-suc, take-length}
use Rattle.vhdx_steps.specs.Buffer.{put}

-- one more, at `at`
pub paste_more : (r : List ℕ) (from : ℕ) (d : List ℕ) (at v : ℕ) {b : List ℕ} → b ≡ paste r from d (at - from) → from ≤ at → at < length r
    → at - from < length d → get_or d (at - from) 0 ≡ v → set b at v ≡ paste r from d (at + 1 - from)
paste_more r from d at v {b} e h hr hd ev =
    ap (λ (i : ℕ). set b i v) {x = at} {y = from + (at - from)} (omega arith)
    ∙ rw (e, ← ev, add-one) (paste-suc r from d (at - from) 0 (omega arith) hd)
    ∙ ap (paste r from d) {x = (at - from) + 1} {y = at + 1 - from} (omega arith)

pub pasted : (r : List ℕ) (at : ℕ) (d : List ℕ) (n : ℕ) → length d ≡ n → paste r at d n ≡ put r at d
unfolding put
pasted r at d n e = rw (← e, take-length)
