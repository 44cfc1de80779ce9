-- Whatever is fed, a walker keeps to its bounds and comes nearer to its end.
-- Assumes nothing.
use mathlib.Core.Path.{◌≡◌, refl, sym, ap, ◌∙◌, subst}
use mathlib.Core.Bool.{Bool, true, false, cond}
use mathlib.Core.List.{List}
use Prim.Native.Nat.{ℕ, zero, suc, ◌+◌, ◌-◌, ◌*◌, ◌≤◌, ◌<◌}
use native.Mathlib.Nat.{add-mul, mul-le-mul_right, mod-lt}
use native.Mathlib.Omega.{arith}
use lib.Dec.{eqb, ltb}
use borrow.Author.Tests.{ltb-true, ltb-false, eqb-false}
use Rattle.vhdx_entry.specs.Ring.{advanced}
use Rattle.vhdx_entry.specs.Entry.{descriptor_sectors, is_data_descriptor, file_offset, zero_length}
use Rattle.vhdx_pieces_entry.specs.Sector.{descriptor_in, length_in}
use Rattle.vhdx_pieces_walk.specs.declared.Bounds.{Bounds}
use Rattle.vhdx_pieces_walk.specs.declared.Stage.{Stage}
use Rattle.vhdx_pieces_walk.specs.declared.Stage.TheVariants as stage
use Rattle.vhdx_pieces_walk.specs.declared.Walker.{Walker}
use Rattle.vhdx_pieces_walk.specs.declared.Step.{Step}
use Rattle.vhdx_pieces_walk.specs.declared.Step.TheVariants.{Read, Ended}
use Rattle.vhdx_pieces_walk.specs.Walking.{at_header, resumed, idle_from, past_by, allowed, met, from_in, here_in, looked, opened, fits, step_in, step_of, wrote_in, wrote_of, Standing, Opened, ReadingIn, WritingIn, Onward, left_behind, left_in, left_of, WalkAdvances, WalkStarts}
use Rattle.vhdx_pieces_walk.proofs.Allowed.{allowed-is, allowed-behind}
use Rattle.vhdx_pieces_walk.proofs.Turns.{opened-staged, opened-past, opened-beyond, header-standing, opened-is}

-- ---- descriptors that name nothing

idle-few : (s : List ℕ) (from j m : ℕ) → idle_from s from j m ≤ m
unfolding idle_from
idle-few s from j zero = omega arith
idle-few s from j (suc m) = go (eqb (length_in (descriptor_in s from j)) 0) (idle-few s from (j + 1) m)
  where
    go : (t : Bool) → idle_from s from (j + 1) m ≤ m → cond t (suc (idle_from s from (j + 1) m)) 0 ≤ suc m
    go true h = omega arith
    go false h = omega arith

-- where they end, one names bytes
idle-names : (s : List ℕ) (from j m : ℕ) → idle_from s from j m < m → 0 < length_in (descriptor_in s from (j + idle_from s from j m))
unfolding idle_from
idle-names s from j zero h = absurd (omega arith)
idle-names s from j (suc m) h = go (eqb (length_in (descriptor_in s from j)) 0) refl (idle-names s from (j + 1) m) h
  where
    go : (t : Bool) → eqb (length_in (descriptor_in s from j)) 0 ≡ t → (idle_from s from (j + 1) m < m → 0 < length_in (descriptor_in s from (j + 1 + idle_from s from (j + 1) m)))
        → cond t (suc (idle_from s from (j + 1) m)) 0 < suc m → 0 < length_in (descriptor_in s from (j + cond t (suc (idle_from s from (j + 1) m)) 0))
    go true e next h =
        let same : j + 1 + idle_from s from (j + 1) m ≡ j + suc (idle_from s from (j + 1) m) = omega arith in
        subst (λ (i : ℕ). 0 < length_in (descriptor_in s from i)) same (next (omega arith))
    go false e next h =
        let same : j ≡ j + 0 = omega arith in
        let no : ¬ (length_in (descriptor_in s from j) ≡ 0) = eqb-false _ 0 e in
        subst (λ (i : ℕ). 0 < length_in (descriptor_in s from i)) same (omega (arith, no))

-- ---- what is left

-- more whole digits are more, whatever the last one is
digit : (d a c x : ℕ) → a < c → x < d → a * d + x < c * d
digit d a c x h l = omega (arith, add-mul a 1 d, mul-le-mul_right {m = a + 1} {n = c} d (omega arith))

module _ (b : Bounds) where
  falls : (w : Walker) (i : ℕ) → left_behind b (past_by w i) ≤ left_behind b w
  falls w i = mul-le-mul_right {m = (w.left - 1) * 4294967296 + (w.count - (w.index + i))} {n = (w.left - 1) * 4294967296 + (w.count - w.index)} (b.limit + 3) (omega arith)

  -- past a descriptor less is left, with what its run asks for
  less : (w : Walker) (i x : ℕ) → w.index < w.count → 0 < i → x < b.limit + 3 → left_behind b (past_by w i) + x < left_behind b w
  less w i x h k l = digit (b.limit + 3) _ _ x (omega arith) l

  -- it may go on, with less than k left
  abbrev Nearer : ℕ → ℕ → Step → Type 0
  Nearer n k st = Onward b n st × (left_of b st < k)

  chosen : (n k : ℕ) (t : Bool) (x y : Step) → (t ≡ true → Nearer n k x) → (t ≡ false → Nearer n k y) → Nearer n k (cond t x y)
  chosen n k true x y f g = f refl
  chosen n k false x y f g = g refl

  nearer-resumed : (w : Walker) (k : ℕ) → Opened w → left_behind b w < k → Nearer w.pos.len k (resumed w)
  unfolding resumed
  nearer-resumed w k o h =
      chosen w.pos.len k (ltb w.index w.count) _ _
      (λ e. (((opened-staged w stage.Descriptors o, ltb-true _ _ e), refl), h))
      (λ _. chosen w.pos.len k (ltb 1 w.left) _ _
      (λ e.
      let more : 1 < w.left = ltb-true _ _ e in (
        (header-standing (advanced w.pos w.size) (w.left - 1) (mod-lt (w.pos.at + w.size) {m = w.pos.len} (omega (arith, o.standing.on))) o.standing.few (omega arith) (omega (arith, o.standing.bounded)), refl),
        omega (arith, h, mul-le-mul_right {m = (w.left - 1) * 4294967296} {n = (w.left - 1) * 4294967296 + (w.count - w.index)} (b.limit + 3) (omega arith)),
      ))
      (λ _. (tt, omega (arith, h))))

  nearer-met : (w : Walker) (d : List ℕ) (k : ℕ) → Opened w → w.index < w.count → 0 < length_in d → left_behind b w ≤ k → Nearer w.pos.len k (met b w d)
  unfolding met
  nearer-met w d k o i names h =
      chosen w.pos.len k (allowed b (file_offset d) (length_in d)) _ _
      (λ ok.
      chosen w.pos.len k (is_data_descriptor d) _ _
      (λ e. chosen w.pos.len k (ltb (descriptor_sectors w.count + w.«data») w.size) _ _
      (λ l. (((opened-beyond w (w.«data» + 1) _ o i (omega (arith, o.rank)), ltb-true _ _ l, sector-allowed e ok), refl), omega (arith, h, less w 1 2 i (omega arith) (omega arith))))
      (λ _. (tt, omega (arith, h, less w 1 0 i (omega arith) (omega arith)))))
      (λ _. (((opened-beyond w w.«data» _ o i (omega (arith, o.rank)), names, ok), refl), omega (arith, h, less w 1 (length_in d) i (omega arith) (omega (arith, (allowed-is b (file_offset d) (length_in d) ok).0))))))
      (λ _. (tt, omega (arith, h, less w 1 0 i (omega arith) (omega arith))))
    where
      sector-allowed : is_data_descriptor d ≡ true → allowed b (file_offset d) (length_in d) ≡ true → allowed b (file_offset d) 4096 ≡ true
      sector-allowed e ok = ap (λ (t : Bool). allowed b (file_offset d) (cond t 4096 (zero_length d))) (sym e) ∙ ok

  -- k is more than what is left behind the sector's descriptors, of which none may name bytes
  nearer-looked : (w : Walker) (s : List ℕ) (k : ℕ) → Opened w → left_behind b w ≤ k → left_behind b (past_by w (here_in w)) < k → Nearer w.pos.len k (looked b w s)
  unfolding looked
  nearer-looked w s k o h l =
      let i = idle_from s (from_in w) 0 (here_in w) in
      let few = idle-few s (from_in w) 0 (here_in w) in
      let at = opened-past w i o (omega (arith, o.index)) in
      chosen w.pos.len k (ltb i (here_in w)) _ _
      (λ e.
      let c : i < here_in w = ltb-true _ _ e in
      let names = subst (λ (x : ℕ). 0 < length_in (descriptor_in s (from_in w) x)) {x = 0 + i} {y = i} (omega arith) (idle-names s (from_in w) 0 (here_in w) c) in
      nearer-met (past_by w i) (descriptor_in s (from_in w) i) k at (omega arith) names
      (omega (arith, h, falls w i)))
      (λ e.
      let c : here_in w ≤ i = ltb-false _ _ e in
      nearer-resumed (past_by w i) k at (subst (λ (x : ℕ). left_behind b (past_by w x) < k) {x = here_in w} {y = i} (omega arith) l))

  nearer-header : (w : Walker) (s : List ℕ) → Standing w → Nearer w.pos.len (left_in b w stage.Header) (step_in b w stage.Header s)
  nearer-header w s st =
      chosen w.pos.len (left_in b w stage.Header) (fits (opened w s)) _ _
      (λ f.
      let o = opened-is w s (opened w s) st refl f in
      let entry : left_behind b (opened w s) < left_in b w stage.Header = omega (arith, digit (b.limit + 3) ((w.left - 1) * 4294967296 + ((opened w s).count - 0)) (w.left * 4294967296) 0 (omega (arith, o.small, st.some)) (omega arith)) in
      nearer-looked (opened w s) s (left_in b w stage.Header) o (omega arith)
      (omega (arith, entry, falls (opened w s) (here_in (opened w s)))))
      (λ _. (tt, omega (arith, digit (b.limit + 3) 0 (w.left * 4294967296) 0 (omega (arith, st.some)) (omega arith))))

  nearer-read : (w : Walker) (s : List ℕ) (st : Stage) → ReadingIn b w st → Nearer w.pos.len (left_in b w st) (step_in b w st s)
  nearer-read w s stage.Header h = nearer-header w s h
  nearer-read w s stage.Descriptors h =
      let some : 0 < here_in w = omega (arith, h.1) in
      nearer-looked w s (left_behind b w) h.0 (omega arith)
      (omega (arith, less w (here_in w) 0 h.1 some (omega arith)))
  nearer-read w s (stage.Data d) h = (((opened-staged w (stage.Sector d) h.0, h.2), refl), omega arith)
  nearer-read w s (stage.Sector d) h = absurd h
  nearer-read w s (stage.Zeros e) h = absurd h

  nearer-wrote : (w : Walker) (st : Stage) → WritingIn b w st → Nearer w.pos.len (left_in b w st) (wrote_in w st)
  nearer-wrote w (stage.Sector d) h = nearer-resumed w (left_behind b w + 1) h.0 (omega arith)
  nearer-wrote w (stage.Zeros e) h =
      chosen w.pos.len (left_behind b w + e.length) (ltb 4096 e.length) _ _
      (λ t.
      let l : 4096 < e.length = ltb-true _ _ t in
      (((opened-staged w _ h.0, omega arith, allowed-behind b e.offset e.length h.1 h.2 l), refl), omega arith))
      (λ _. nearer-resumed w (left_behind b w + e.length) h.0 (omega (arith, h.1)))
  nearer-wrote w stage.Header h = absurd h
  nearer-wrote w stage.Descriptors h = absurd h
  nearer-wrote w (stage.Data d) h = absurd h

pub walk-advances : WalkAdvances
unfolding step_of wrote_of
walk-advances b w p = (nearer-read b w p w.stage, nearer-wrote b w w.stage)

pub walk-starts : WalkStarts
walk-starts b pos left on few bounded = go (eqb left 0) refl
  where
    go : (t : Bool) → eqb left 0 ≡ t → Onward b pos.len (cond t Ended (Read (at_header pos left))) × (left_of b (cond t Ended (Read (at_header pos left))) ≤ 1048576 * 4294967296 * (b.limit + 3))
    go true e = (tt, omega arith)
    go false e =
        let no : ¬ (left ≡ 0) = eqb-false left 0 e in (
          (header-standing pos left (on (omega (arith, no))) few (omega (arith, no)) bounded, refl),
          mul-le-mul_right {m = left * 4294967296} {n = 1048576 * 4294967296} (b.limit + 3) (omega arith),
        )
