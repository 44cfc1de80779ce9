-- The bytes of a data sector, as the code puts them together.
-- Assumes nothing.
use mathlib.Core.Path.{◌≡◌, sym, ap, ap₂, ◌∙◌}
use mathlib.Core.List.{List, ◌++◌}
use Prim.Native.Nat.{ℕ, ◌+◌, ◌-◌, ◌≤◌}
use native.Mathlib.Omega.{arith}
use lib.ListN.{length, take, drop}
use Rattle.vhdx_entry.specs.Entry.{leading_bytes, trailing_bytes}
use Rattle.vhdx_walk.specs.Bytes.{sector_bytes}
use Rattle.vhdx_steps.specs.Buffer.{put}
use Rattle.vhdx_steps.proofs.Bytes.{part-long}
use Rattle.vhdx_replay.proofs.Assembled.{assembled, inner-part}

-- n bytes at an offset, as the code takes them by start and end
taken : (s : List ℕ) (a e n : ℕ) → e ≡ a + n → take (e - a) (drop a s) ≡ take n (drop a s)
taken s a e n p = ap (λ (k : ℕ). take k (drop a s)) {x = e - a} {y = n} (omega arith)

module _ (log z : List ℕ) (d s : ℕ) (p : length z ≡ 4096) (q : d + 32 ≤ length log) (r : s + 4096 ≤ length log) where
  lead : take 8 (drop (d + 8) log) ≡ leading_bytes (take 32 (drop d log))
  lead = sym (inner-part log d 32 8 8 q (omega arith))

  trail : take 4 (drop (d + 4) log) ≡ trailing_bytes (take 32 (drop d log))
  trail = sym (inner-part log d 32 4 4 q (omega arith))

  pub data-bytes : put (put (put z 0 (take 4096 (drop s log))) 0 (take 8 (drop (d + 8) log))) 4092 (take 4 (drop (d + 4) log))
      ≡ sector_bytes (take 32 (drop d log)) (take 4096 (drop s log))
  unfolding sector_bytes
  data-bytes =
      let sector = take 4096 (drop s log) in
      let l = leading_bytes (take 32 (drop d log)) in
      let t = trailing_bytes (take 32 (drop d log)) in
      let ls : length sector ≡ 4096 = part-long log s 4096 r in
      let ll : length l ≡ 8 = sym (ap length lead) ∙ part-long log (d + 8) 8 (omega arith) in
      let lt : length t ≡ 4 = sym (ap length trail) ∙ part-long log (d + 4) 4 (omega arith) in
      let done = assembled z sector l t 4084 (omega (arith, ls, p)) (omega (arith, ls, ll, lt)) in
      ap₂ (λ (x y : List ℕ). put (put (put z 0 sector) 0 x) 4092 y) lead trail
      ∙ ap (λ (k : ℕ). put (put (put z 0 sector) 0 l) k t) {x = 4092} {y = length l + 4084} (omega (arith, ll))
      ∙ done
      ∙ ap (λ (k : ℕ). l ++ (take 4084 (drop k sector) ++ t)) ll

  -- with the ends of parts as sums
  pub stored : (a b c : List ℕ) → a ≡ put z 0 (take (s + 4096 - s) (drop s log)) → b ≡ put a 0 (take (d + 16 - (d + 8)) (drop (d + 8) log))
      → c ≡ put b 4092 (take (d + 8 - (d + 4)) (drop (d + 4) log)) → c ≡ sector_bytes (take 32 (drop d log)) (take 4096 (drop s log))
  stored a b c x y w =
      w ∙ ap (λ (t : List ℕ). put b 4092 t) (taken log (d + 4) (d + 8) 4 (omega arith))
      ∙ ap (λ (v : List ℕ). put v 4092 (take 4 (drop (d + 4) log)))
      (y ∙ ap (λ (t : List ℕ). put a 0 t) (taken log (d + 8) (d + 16) 8 (omega arith))
      ∙ ap (λ (v : List ℕ). put v 0 (take 8 (drop (d + 8) log))) (x ∙ ap (λ (t : List ℕ). put z 0 t) (taken log s (s + 4096) 4096 (omega arith))))
      ∙ data-bytes
