-- A sector put together in an array: the stored sector, then the bytes at its two ends over it.
-- Assumes nothing.
use mathlib.Core.Path.{◌≡◌, sym, ap, ◌∙◌}
use mathlib.Core.Logic.{⊎_elim}
use mathlib.Core.List.{List, ◌++◌}
use Prim.Native.Nat.{ℕ, ◌+◌, ◌-◌, ◌≤◌, ◌<◌}
use native.Mathlib.Omega.{arith}
use lib.ListN.{length, take, drop, get_or, length-append, get_or-append}
use lib.Seq.{get_or-append-add, get_or-take, get_or-drop, ext_get_or}
use Rattle.vhdx_steps.specs.Buffer.{put}
use Rattle.vhdx_steps.proofs.Bytes.{part-long, lt-or-le, put-length, put_in, put-out}

module _ (z s l t : List ℕ) (n : ℕ) (p : length s ≡ length z) (q : length l + n + length t ≡ length s) where
  middle-long : length (take n (drop (length l) s)) ≡ n
  middle-long = part-long s (length l) n (omega arith)

  one : length (put z 0 s) ≡ length z
  one = put-length z 0 s (omega arith)

  two : length (put (put z 0 s) 0 l) ≡ length z
  two = put-length (put z 0 s) 0 l (omega (arith, one)) ∙ one

  three : length (put (put (put z 0 s) 0 l) (length l + n) t) ≡ length z
  three = put-length (put (put z 0 s) 0 l) (length l + n) t (omega (arith, two)) ∙ two

  long : length (l ++ (take n (drop (length l) s) ++ t)) ≡ length z
  long = length-append l (take n (drop (length l) s) ++ t) ∙ ap (λ (x : ℕ). length l + x) (length-append (take n (drop (length l) s)) t) ∙ omega (arith, middle-long)

  below : (i : ℕ) → i < length l + n → get_or (put (put (put z 0 s) 0 l) (length l + n) t) i 0 ≡ get_or (put (put z 0 s) 0 l) i 0
  below i b = put-out (put (put z 0 s) 0 l) (length l + n) t (omega (arith, two)) i (λ x. omega (arith, x.0))

  in-lead : (i : ℕ) → i < length l → get_or (put (put (put z 0 s) 0 l) (length l + n) t) i 0 ≡ get_or (l ++ (take n (drop (length l) s) ++ t)) i 0
  in-lead i b =
      below i (omega arith) ∙ put_in (put z 0 s) 0 l (omega (arith, one)) i (omega arith) (omega arith)
      ∙ ap (λ (k : ℕ). get_or l k 0) {x = i - 0} {y = i} (omega arith)
      ∙ sym (get_or-append l (take n (drop (length l) s) ++ t) 0 i b)

  behind-lead : (j : ℕ) → get_or (l ++ (take n (drop (length l) s) ++ t)) (length l + j) 0 ≡ get_or (take n (drop (length l) s) ++ t) j 0
  behind-lead j = get_or-append-add l (take n (drop (length l) s) ++ t) j 0

  in-middle : (j : ℕ) → j < n → get_or (put (put (put z 0 s) 0 l) (length l + n) t) (length l + j) 0 ≡ get_or (l ++ (take n (drop (length l) s) ++ t)) (length l + j) 0
  in-middle j b =
      below (length l + j) (omega arith)
      ∙ put-out (put z 0 s) 0 l (omega (arith, one)) (length l + j) (λ x. omega (arith, x.1))
      ∙ put_in z 0 s (omega arith) (length l + j) (omega arith) (omega arith)
      ∙ ap (λ (k : ℕ). get_or s k 0) {x = length l + j - 0} {y = length l + j} (omega arith)
      ∙ sym (behind-lead j ∙ get_or-append (take n (drop (length l) s)) t 0 j (omega (arith, middle-long)) ∙ get_or-take n (drop (length l) s) j 0 b ∙ get_or-drop (length l) s j 0)

  in-trail : (j : ℕ) → j < length t → get_or (put (put (put z 0 s) 0 l) (length l + n) t) (length l + n + j) 0 ≡ get_or (l ++ (take n (drop (length l) s) ++ t)) (length l + n + j) 0
  in-trail j b =
      put_in (put (put z 0 s) 0 l) (length l + n) t (omega (arith, two)) (length l + n + j) (omega arith) (omega arith)
      ∙ ap (λ (k : ℕ). get_or t k 0) {x = length l + n + j - (length l + n)} {y = j} (omega arith)
      ∙ sym (ap (λ (k : ℕ). get_or (l ++ (take n (drop (length l) s) ++ t)) k 0) {x = length l + n + j} {y = length l + (n + j)} (omega arith)
      ∙ behind-lead (n + j)
      ∙ ap (λ (k : ℕ). get_or (take n (drop (length l) s) ++ t) k 0) {x = n + j} {y = length (take n (drop (length l) s)) + j} (omega (arith, middle-long))
      ∙ get_or-append-add (take n (drop (length l) s)) t j 0)

  same_at : (i : ℕ) → i < length z → get_or (put (put (put z 0 s) 0 l) (length l + n) t) i 0 ≡ get_or (l ++ (take n (drop (length l) s) ++ t)) i 0
  same_at i b =
      ⊎_elim (in-lead i)
      (λ c. ⊎_elim
      (λ d. at-index (length l + (i - length l)) i (omega arith) (in-middle (i - length l) (omega arith)))
      (λ d. at-index (length l + n + (i - (length l + n))) i (omega arith) (in-trail (i - (length l + n)) (omega arith)))
      (lt-or-le i (length l + n)))
      (lt-or-le i (length l))
    where
      at-index : (a b : ℕ) → a ≡ b → get_or (put (put (put z 0 s) 0 l) (length l + n) t) a 0 ≡ get_or (l ++ (take n (drop (length l) s) ++ t)) a 0
          → get_or (put (put (put z 0 s) 0 l) (length l + n) t) b 0 ≡ get_or (l ++ (take n (drop (length l) s) ++ t)) b 0
      at-index a b e h = rw (← e) h

  pub assembled : put (put (put z 0 s) 0 l) (length l + n) t ≡ l ++ (take n (drop (length l) s) ++ t)
  assembled = ext_get_or 0 _ _ (three ∙ sym long) (λ i b. same_at i (omega (arith, three)))

-- ---- a part of a part

pub inner-part : (s : List ℕ) (at w a n : ℕ) → at + w ≤ length s → a + n ≤ w → take n (drop a (take w (drop at s))) ≡ take n (drop (at + a) s)
inner-part s at w a n h b =
    ext_get_or 0 (take n (drop a (take w (drop at s)))) (take n (drop (at + a) s)) (left ∙ sym right)
    (λ i c.
    let d : i < n = omega (arith, left) in
    get_or-take n (drop a (take w (drop at s))) i 0 d ∙ get_or-drop a (take w (drop at s)) i 0 ∙ get_or-take w (drop at s) (a + i) 0 (omega arith) ∙ get_or-drop at s (a + i) 0
    ∙ ap (λ (k : ℕ). get_or s k 0) {x = at + (a + i)} {y = at + a + i} (omega arith)
    ∙ sym (get_or-take n (drop (at + a) s) i 0 d ∙ get_or-drop (at + a) s i 0))
  where
    outer : length (take w (drop at s)) ≡ w
    outer = part-long s at w h

    left : length (take n (drop a (take w (drop at s)))) ≡ n
    left = part-long (take w (drop at s)) a n (omega (arith, outer))

    right : length (take n (drop (at + a) s)) ≡ n
    right = part-long s (at + a) n (omega arith)
