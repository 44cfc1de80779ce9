-- Parts of a list, and the bytes of a buffer after `put` and `zeroed`, by index.
-- Assumes nothing.
use mathlib.Core.Path.{◌≡◌, ap, ◌∙◌}
use mathlib.Core.Logic.{◌⊎◌, inl, inr, ⊎_elim}
use mathlib.Core.List.{List, ◌++◌}
use Prim.Native.Nat.{ℕ, ◌+◌, ◌-◌, ◌≤◌, ◌<◌}
use native.Mathlib.Decide.{dec_lt}
use native.Mathlib.Omega.{arith}
use lib.ListN.{length, take, drop, get_or, replicate, length-append, length-take, length-drop, length-replicate, get_or-replicate, get_or-append}
use lib.Seq.{length-take-le, get_or-append-add, get_or-take, get_or-drop}
use Rattle.vhdx_steps.specs.Buffer.{put, zeroed}

-- n bytes at an offset are n
pub part-long : (s : List ℕ) (at n : ℕ) → at + n ≤ length s → length (take n (drop at s)) ≡ n
part-long s at n h = length-take-le n (drop at s) (simp length-drop (omega arith))

pub lt-or-le : (a b : ℕ) → (a < b) ⊎ (b ≤ a)
lt-or-le a b = elim (dec_lt a b) [ yes h ↦ inl h | no h ↦ inr (omega arith) ]

module _ (r : List ℕ) (at : ℕ) (d : List ℕ) (h : at + length d ≤ length r) where
  pub put-length : length (put r at d) ≡ length r
  unfolding put
  put-length = simp (length-append, length-take, length-drop) (omega arith)

  l₁ : length (take at r) ≡ at
  l₁ = length-take-le at r (omega arith)

  l₂ : length (take at r ++ d) ≡ at + length d
  l₂ = length-append (take at r) d ∙ ap (λ (n : ℕ). n + length d) l₁

  pub put_in : (i : ℕ) → at ≤ i → i < at + length d → get_or (put r at d) i 0 ≡ get_or d (i - at) 0
  unfolding put
  put_in i a b =
      let e : i ≡ length (take at r) + (i - at) = omega (arith, l₁) in
      get_or-append (take at r ++ d) (drop (at + length d) r) 0 i (omega (arith, l₂))
      ∙ ap (λ (n : ℕ). get_or (take at r ++ d) n 0) e
      ∙ get_or-append-add (take at r) d (i - at) 0

  pub put-out : (i : ℕ) → ¬ ((at ≤ i) × (i < at + length d)) → get_or (put r at d) i 0 ≡ get_or r i 0
  unfolding put
  put-out i n = ⊎_elim low (λ a. ⊎_elim (λ b. absurd (n (a, b))) high (lt-or-le i (at + length d))) (lt-or-le i at)
    where
      low : i < at → get_or (take at r ++ d ++ drop (at + length d) r) i 0 ≡ get_or r i 0
      low a =
          get_or-append (take at r ++ d) (drop (at + length d) r) 0 i (omega (arith, l₂))
          ∙ get_or-append (take at r) d 0 i (omega (arith, l₁))
          ∙ get_or-take at r i 0 a

      high : at + length d ≤ i → get_or (take at r ++ d ++ drop (at + length d) r) i 0 ≡ get_or r i 0
      high a =
          let j : ℕ = i - (at + length d) in
          let e : i ≡ length (take at r ++ d) + j = omega (arith, l₂) in
          let e' : at + length d + j ≡ i = omega arith in
          ap (λ (n : ℕ). get_or (take at r ++ d ++ drop (at + length d) r) n 0) e
          ∙ get_or-append-add (take at r ++ d) (drop (at + length d) r) j 0
          ∙ get_or-drop (at + length d) r j 0
          ∙ ap (λ (n : ℕ). get_or r n 0) e'

module _ (r : List ℕ) (a e : ℕ) (le : a ≤ e) (h : e ≤ length r) where
  zeros-fit : a + length {A = ℕ} (replicate (e - a) 0) ≤ length r
  zeros-fit = simp length-replicate (omega arith)

  pub zeroed-length : length (zeroed r a e) ≡ length r
  zeroed-length = put-length r a (replicate (e - a) 0) zeros-fit

  pub zeroed-in : (i : ℕ) → a ≤ i → i < e → get_or (zeroed r a e) i 0 ≡ 0
  zeroed-in i p q = put_in r a (replicate (e - a) 0) zeros-fit i p (simp length-replicate (omega arith)) ∙ get_or-replicate (e - a) (i - a) 0 0 (omega arith)

  pub zeroed-low : (i : ℕ) → i < a → get_or (zeroed r a e) i 0 ≡ get_or r i 0
  zeroed-low i p = put-out r a (replicate (e - a) 0) zeros-fit i (λ x. omega (arith, x.0))

  pub zeroed-high : (i : ℕ) → e ≤ i → get_or (zeroed r a e) i 0 ≡ get_or r i 0
  zeroed-high i p =
      let n : length {A = ℕ} (replicate (e - a) 0) ≡ e - a = length-replicate (e - a) 0 in
      put-out r a (replicate (e - a) 0) zeros-fit i (λ x. omega (arith, n, x.1))
