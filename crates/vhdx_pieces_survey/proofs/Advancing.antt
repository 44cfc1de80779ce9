-- Whatever is fed, a tour keeps to its bounds, and asks for less.
-- Assumes nothing.
use mathlib.Core.Path.{◌≡◌, refl, ap, ◌∙◌, subst}
use mathlib.Core.Bool.{Bool, true, cond, and-eq-true_iff}
use mathlib.Core.List.{List}
use Prim.Native.Nat.{ℕ, zero, suc, ◌+◌, ◌-◌, ◌*◌, ◌≤◌, ◌<◌, min}
use native.Mathlib.Nat.{mod-lt}
use native.Mathlib.Numerals.{add-one}
use native.Mathlib.Omega.{arith}
use lib.Dec.{eqb, leb, ltb, eqb-suc-zero}
use borrow.Author.Tests.{leb-true, ltb-true, eqb-true, eqb-false}
use Rattle.vhdx_entry.specs.declared.ring.RingPos.{RingPos}
use Rattle.vhdx_entry.specs.Ring.{advanced}
use Rattle.vhdx_entry.specs.Entry.{descriptor_sectors}
use Rattle.vhdx_log.specs.declared.survey.Survey.{Survey}
use Rattle.vhdx_pieces_entry.specs.Pass.{from_of, places_in}
use Rattle.vhdx_pieces_entry.proofs.Laws.{chosen, falls}
use Rattle.vhdx_pieces_survey.specs.declared.Tour.{Tour}
use Rattle.std.specs.declared.ops.ControlFlow.TheVariants.{Continue}
use Rattle.vhdx_pieces_survey.specs.Touring.{Step, at_header, opened, further, here, empty, fits, moved_on, passed, step_of, Standing, Opened, Sane, Onward, left_of, SurveyAdvances, SurveyStarts}

none_from : (k : ℕ) → from_of (k + 1) ≡ 0
none_from k = rw (add-one k, eqb-suc-zero k)

-- a sector that does not have the last descriptor is full
next_start : (k seen count : ℕ) → 64 + 32 * seen ≡ k * 4096 + from_of k → seen + min (count - seen) (places_in k) < count
    → 64 + 32 * (seen + min (count - seen) (places_in k)) ≡ (k + 1) * 4096 + from_of (k + 1)
next_start zero seen count h l = omega arith
next_start (suc k) seen count h l =
    let a : 64 + 32 * seen ≡ suc k * 4096 + 0 = h ∙ ap (λ (b : Bool). suc k * 4096 + cond b 64 0) (eqb-suc-zero k) in
    let l₂ : seen + min (count - seen) 128 < count = subst (λ (b : Bool). seen + min (count - seen) (cond b 126 128) < count) (eqb-suc-zero k) l in
    rw (eqb-suc-zero k) (omega (arith, a, l₂, none_from (suc k)))

further-sane : (t : Tour) (sv : Survey) → Opened t → t.seen + here t < t.count → Sane (further t (here t) sv)
further-sane t sv o l =
    let s = next_start t.read t.seen t.count o.starts l in
    let standing : Standing (further t (here t) sv) = record { on = o.standing.on; few = o.standing.few; some = o.standing.some; bounded = o.standing.bounded } in
    record {
      standing = standing;
      inside = λ _. (
        record { standing = standing; small = o.small; seen = omega arith; starts = s; front = o.front; size = o.size },
        l,
      );
      short = omega (arith, s, none_from t.read, o.front, o.size);
    }

entry-sane : (pos : RingPos) (left flushed last : ℕ) (sv : Survey) → pos.at < pos.len → pos.len < 1048576 → 0 < left → left ≤ pos.len → Sane (at_header pos left flushed last sv)
entry-sane pos left flushed last sv a b c d =
    record { standing = record { on = a; few = b; some = c; bounded = d }; inside = λ h. absurd (omega (arith, h)); short = omega arith }

pub opened-is : (t : Tour) (s : List ℕ) → Standing t → fits (opened t s) ≡ true → Opened (opened t s)
opened-is t s st f =
    let o = opened t s in
    let both = (and-eq-true_iff (leb (descriptor_sectors o.count) o.size) (leb o.size o.pos.len)).0 f in
    let front : descriptor_sectors o.count ≤ o.size = leb-true _ _ both.0 in
    let size : o.size ≤ o.pos.len = leb-true _ _ both.1 in
    record {
      standing = record { on = st.on; few = st.few; some = st.some; bounded = st.bounded };
      small = omega (arith, st.few);
      seen = omega arith;
      starts = refl;
      front = front;
      size = size;
    }

-- over n sectors it may be fed again, less than m being left
abbrev Below : ℕ → ℕ → Step → Type 0
Below n m r = Onward n r × (left_of r < m)

moves : (t : Tour) (sv : Survey) → Opened t → t.read < t.pos.len → Below t.pos.len (left_of (Continue t)) (moved_on t (here t) sv)
unfolding moved_on
moves t sv o r =
    let n = t.pos.len in
    let P = Below n (left_of (Continue t)) in
    chosen P (ltb (t.seen + here t) t.count) _ _
    (λ h. let s = further-sane t sv o (ltb-true _ _ h) in ((s, refl), omega (arith, s.short)))
    (λ _. chosen P (ltb 1 t.left) _ _
    (λ h.
    let l : 1 < t.left = ltb-true _ _ h in
    ((entry-sane (advanced t.pos t.size) (t.left - 1) t.flushed t.last sv (mod-lt (t.pos.at + t.size) {m = n} (omega arith)) o.standing.few (omega arith) (omega (arith, o.standing.bounded)), refl), falls {a₂ = t.left - 1 - 1} n (omega arith) (omega arith) (omega arith)))
    (λ _. (tt, omega arith)))

pub survey-advances : SurveyAdvances
unfolding step_of passed
survey-advances e t s h =
    let P = Below t.pos.len (left_of (Continue t)) in
    chosen P (eqb t.read 0) _ _
    (λ z.
    let zero-read : t.read ≡ 0 = eqb-true _ _ z in
    chosen P (fits (opened t s)) _ _
    (λ f. let x = moves (opened t s) _ (opened-is t s h.standing f) (omega (arith, h.short)) in (x.0, omega (arith, x.1)))
    (λ _. (tt, omega (arith, h.short))))
    (λ z. moves t _ (h.inside (omega (arith, eqb-false t.read 0 z))).0 h.short)

pub survey-starts : SurveyStarts
survey-starts pos more on few l =
    let h = falls {a₂ = more + 1 - 1} {a = pos.len} {b₂ = pos.len - 0} {b = 1} pos.len (omega arith) (omega arith) (omega arith) in
    ((entry-sane pos (more + 1) 0 0 empty on few (omega arith) (omega arith), refl), omega (arith, h))
