-- What the code's tests decide, and an entry's bounds as a walker moves in it.
-- Assumes nothing.
use mathlib.Core.Path.{◌≡◌, sym, ap, ap₂, ◌∙◌}
use mathlib.Core.Bool.{Bool, true, false, cond, and-eq-true_iff}
use mathlib.Core.List.{List}
use Prim.Native.Nat.{ℕ, zero, suc, ◌+◌, ◌-◌, ◌*◌, ◌/◌, ◌%◌, ◌≤◌, ◌<◌, min}
use native.Mathlib.Omega.{arith}
use lib.Dec.{eqb, leb, ltb}
use lib.ListN.{take, drop}
use borrow.Author.Tests.{leb-true, lt-ltb, le-ltb}
use Rattle.vhdx_entry.specs.declared.ring.RingPos.{RingPos}
use Rattle.vhdx_entry.specs.Entry.{descriptor_sectors, is_data_descriptor, file_offset}
use Rattle.vhdx_pieces_entry.specs.Sector.{descriptor_in, length_in}
use Rattle.vhdx_pieces_walk.specs.declared.Bounds.{Bounds}
use Rattle.vhdx_pieces_walk.specs.declared.Stage.{Stage}
use Rattle.vhdx_pieces_walk.specs.declared.Stage.TheVariants as stage
use Rattle.vhdx_pieces_walk.specs.declared.Walker.{Walker}
use Rattle.vhdx_pieces_walk.specs.declared.Step.{Step}
use Rattle.vhdx_pieces_walk.specs.declared.Step.TheVariants.{Read, Write, Broken}
use Rattle.vhdx_pieces_walk.specs.Walking.{staged, at_header, resumed, idle_from, past_by, allowed, beyond_by, held_in, met, from_in, here_in, looked_at, looked, opened, fits, step_in, step_of, Standing, Opened}

pub opened-staged : (w : Walker) (s : Stage) → Opened w → Opened (staged w s)
opened-staged w s o =
    record { standing = record { on = o.standing.on; few = o.standing.few; some = o.standing.some; bounded = o.standing.bounded }; small = o.small; index = o.index; rank = o.rank; front = o.front; size = o.size }

pub opened-past : (w : Walker) (i : ℕ) → Opened w → w.index + i ≤ w.count → Opened (past_by w i)
opened-past w i o h =
    record { standing = record { on = o.standing.on; few = o.standing.few; some = o.standing.some; bounded = o.standing.bounded }; small = o.small; index = h; rank = omega (arith, o.rank); front = o.front; size = o.size }

pub opened-beyond : (w : Walker) (k : ℕ) (s : Stage) → Opened w → w.index < w.count → k ≤ w.index + 1 → Opened (beyond_by w k s)
opened-beyond w k s o h l =
    record { standing = record { on = o.standing.on; few = o.standing.few; some = o.standing.some; bounded = o.standing.bounded }; small = o.small; index = omega arith; rank = l; front = o.front; size = o.size }

pub header-standing : (pos : RingPos) (left : ℕ) → pos.at < pos.len → pos.len < 1048576 → 0 < left → left ≤ pos.len → Standing (at_header pos left)
header-standing pos left a b c d = record { on = a; few = b; some = c; bounded = d }

pub opened-is : (w : Walker) (s : List ℕ) (o : Walker) → Standing w → o ≡ opened w s → fits o ≡ true → Opened o
opened-is w s o st e f =
    let both = (and-eq-true_iff (leb (descriptor_sectors o.count) o.size) (leb o.size o.pos.len)).0 f in
    let p : o.pos ≡ w.pos = ap (λ (x : Walker). x.pos) e in
    let l : o.left ≡ w.left = ap (λ (x : Walker). x.left) e in
    let z : o.index ≡ 0 = ap (λ (x : Walker). x.index) e in
    let d : o.«data» ≡ 0 = ap (λ (x : Walker). x.«data») e in
    let a : o.pos.at ≡ w.pos.at = ap (λ (x : RingPos). x.at) p in
    let n : o.pos.len ≡ w.pos.len = ap (λ (x : RingPos). x.len) p in
    let front : descriptor_sectors o.count ≤ o.size = leb-true _ _ both.0 in
    let size : o.size ≤ o.pos.len = leb-true _ _ both.1 in
    record {
      standing = record { on = omega (arith, st.on); few = omega (arith, st.few); some = omega (arith, st.some); bounded = omega (arith, st.bounded) };
      small = omega (arith, st.few);
      index = omega arith;
      rank = omega arith;
      front = front;
      size = size;
    }

-- ---- descriptors that name nothing

module _ (s : List ℕ) (from i : ℕ) where
  pub idle-end : (m : ℕ) → m ≡ 0 → idle_from s from i m ≡ 0
  unfolding idle_from
  idle-end m h = ap (idle_from s from i) h

  pub idle-stop : (m : ℕ) → 0 < m → eqb (length_in (descriptor_in s from i)) 0 ≡ false → idle_from s from i m ≡ 0
  unfolding idle_from
  idle-stop zero h e = absurd (omega arith)
  idle-stop (suc m) h e = ap (λ (b : Bool). cond b (suc (idle_from s from (i + 1) m)) 0) e

  pub idle-more : (m : ℕ) → 0 < m → eqb (length_in (descriptor_in s from i)) 0 ≡ true → idle_from s from i m ≡ suc (idle_from s from (i + 1) (m - 1))
  unfolding idle_from
  idle-more zero h e = absurd (omega arith)
  idle-more (suc m) h e = ap (λ (b : Bool). cond b (suc (idle_from s from (i + 1) m)) 0) e ∙ ap (λ (k : ℕ). suc (idle_from s from (i + 1) k)) {x = m} {y = suc m - 1} (omega arith)

-- ---- a turn, by its tests

module _ (b : Bounds) (w : Walker) (d : List ℕ) where
  abbrev last : Step
  last = Write (beyond_by w w.«data» (stage.Zeros (record { offset = file_offset d; length = length_in d })))

  abbrev held : Step
  held = Read (beyond_by w (w.«data» + 1) (stage.Data (held_in w d)))

  pub met-nothing : allowed b (file_offset d) (length_in d) ≡ false → Broken ≡ met b w d
  unfolding met
  met-nothing h = rw h

  pub met-zeros : allowed b (file_offset d) (length_in d) ≡ true → is_data_descriptor d ≡ false → last ≡ met b w d
  unfolding met
  met-zeros h e = rw (h, e)

  pub met-data : allowed b (file_offset d) (length_in d) ≡ true → is_data_descriptor d ≡ true → ltb (descriptor_sectors w.count + w.«data») w.size ≡ true → held ≡ met b w d
  unfolding met
  met-data h e f = rw (h, e, f)

  pub met-short : allowed b (file_offset d) (length_in d) ≡ true → is_data_descriptor d ≡ true → ltb (descriptor_sectors w.count + w.«data») w.size ≡ false → Broken ≡ met b w d
  unfolding met
  met-short h e f = rw (h, e, f)

module _ (b : Bounds) (w : Walker) (s : List ℕ) {m i : ℕ} (p : m ≡ here_in w) (q : i ≡ idle_from s (from_in w) 0 m) where
  at_same : looked_at b w s (from_in w) m i ≡ looked b w s
  unfolding looked
  at_same = ap₂ (looked_at b w s (from_in w)) p q ∙ ap (λ (x : ℕ). looked_at b w s (from_in w) (here_in w) (idle_from s (from_in w) 0 x)) p

  pub looked-met : i < m → {x : Walker} {d : List ℕ} → x ≡ past_by w i → d ≡ take 32 (drop (from_in w + 32 * i) s) → met b x d ≡ looked b w s
  unfolding descriptor_in
  looked-met l e f =
      ap₂ (met b) e f ∙ sym (ap (λ (t : Bool). cond t (met b (past_by w i) (take 32 (drop (from_in w + 32 * i) s))) (resumed (past_by w i))) (lt-ltb i m l)) ∙ at_same

  pub looked-past : m ≤ i → {x : Walker} → x ≡ past_by w i → resumed x ≡ looked b w s
  unfolding descriptor_in
  looked-past l e =
      ap resumed e ∙ sym (ap (λ (t : Bool). cond t (met b (past_by w i) (take 32 (drop (from_in w + 32 * i) s))) (resumed (past_by w i))) (le-ltb i m l)) ∙ at_same

module _ (b : Bounds) (w : Walker) (s : List ℕ) (o : Walker) (st : w.stage ≡ stage.Header) (q : o ≡ opened w s) where
  pub header-turn : fits o ≡ true → looked b o s ≡ step_of b w s
  unfolding step_of
  header-turn f =
      ap (λ (x : Walker). looked b x s) q
      ∙ sym (ap (λ (t : Bool). cond t (looked b (opened w s) s) Broken) (sym (ap fits q) ∙ f))
      ∙ sym (ap (λ (x : Stage). step_in b w x s) st)

  pub broken-turn : fits o ≡ false → Broken ≡ step_of b w s
  unfolding step_of
  broken-turn f =
      sym (ap (λ (t : Bool). cond t (looked b (opened w s) s) Broken) (sym (ap fits q) ∙ f)) ∙ sym (ap (λ (x : Stage). step_in b w x s) st)

pub here-fits : (index count : ℕ) → (64 + 32 * index) % 4096 + 32 * min (count - index) ((4096 - (64 + 32 * index) % 4096) / 32) ≤ 4096
here-fits index count = omega arith
