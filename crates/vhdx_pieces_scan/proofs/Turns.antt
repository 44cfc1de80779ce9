-- What the code's tests decide, and what it asks at a moved place.
-- Assumes nothing.
use mathlib.Core.Path.{◌≡◌, refl, sym, ap, ap₂, ◌∙◌, subst}
use mathlib.Core.Bool.{Bool, true, false, cond, ◌&&◌}
use Prim.Native.Nat.{ℕ, ◌+◌, ◌%◌, ◌≤◌, ◌<◌}
use native.Mathlib.Omega.{arith}
use native.Mathlib.Nat.{mod-lt, mod-add-mod, zero-mod}
use lib.Dec.{ltb, eqb}
use borrow.Author.Tests.{lt-ltb, le-ltb}
use Rattle.vhdx_entry.specs.declared.Entry.{Entry}
use Rattle.vhdx_sequence.specs.declared.lap.Place.{Place}
use Rattle.vhdx_sequence.specs.declared.scan.Trace.{Trace}
use Rattle.vhdx_sequence.specs.Scan.{Placed, moved, State, state_of, fresh, run_from, goes_on, Taking}
use Rattle.vhdx_pieces_scan.specs.declared.Stage.TheVariants.{First}
use Rattle.std.specs.declared.ops.ControlFlow.TheVariants.{Continue, Break}
use Rattle.vhdx_pieces_scan.specs.Scanning.{Step, scanner_at, resumed, Upright}

-- ---- places

pub on-ring : {t : Trace} {p : Place} → Upright t p → p.pos.at < p.pos.len
on-ring {t} {p} h = omega (arith, h.here.0, mod-lt p.count {m = p.pos.len} (omega (arith, h.laps)))

pub placed-moved : (p : Place) {q : Place} (by : ℕ) → Placed p.pos.len p → q ≡ moved p by → Placed p.pos.len q
placed-moved p by h e =
    subst (Placed p.pos.len) (sym e) (ap (λ (x : ℕ). (x + by) % p.pos.len) h.0 ∙ mod-add-mod p.count p.pos.len by, refl)

pub run-behind : (u : ℕ) (st : State) (number : ℕ) → st.start ≤ u → run_from u st number ≤ u
run-behind u st number h = go (eqb u st.next && eqb number (st.number + 1))
  where
    go : (b : Bool) → cond b st.start u ≤ u
    go true = h
    go false = omega arith

-- ---- the next place

module _ (n u : ℕ) (st : State) where
  pub goes : goes_on n u st ≡ true → u < n + n → Continue (scanner_at n u st First) ≡ resumed n u st
  unfolding resumed
  goes g l = sym (ap₂ (λ (a b : Bool). cond (a && b) (Continue (scanner_at n u st First)) (Break st.best)) g (lt-ltb u (n + n) l))

  pub laps-done : goes_on n u st ≡ true → n + n ≤ u → Break st.best ≡ resumed n u st
  unfolding resumed
  laps-done g l = sym (ap₂ (λ (a b : Bool). cond (a && b) (Continue (scanner_at n u st First)) (Break st.best)) g (le-ltb u (n + n) l))

  pub stays : goes_on n u st ≡ false → Break st.best ≡ resumed n u st
  unfolding resumed
  stays g = sym (ap (λ (a : Bool). cond (a && ltb u (n + n)) (Continue (scanner_at n u st First)) (Break st.best)) g)

-- an answer of `resume` at a moved place
pub resumed-at : (p q : Place) (by : ℕ) (st st₂ : State) {r : Step} → q ≡ moved p by → st₂ ≡ st
    → r ≡ resumed q.pos.len q.count st₂ → r ≡ resumed p.pos.len (p.count + by) st
resumed-at p q by st st₂ e f h = h ∙ ap (λ (x : Place). resumed x.pos.len x.count st₂) e ∙ ap (resumed p.pos.len (p.count + by)) f

-- what `resume` asks of a moved place
abbrev pub Asked : Trace → Place → Type 0
Asked t p = (p.pos.len < 1048576) × Placed p.pos.len p × Placed p.pos.len t.start

pub asked-moved : {t : Trace} (t₂ : Trace) {p q : Place} (by : ℕ) → Upright t p → q ≡ moved p by → Placed p.pos.len t₂.start → Asked t₂ q
asked-moved t₂ {p} {q} by h e s =
    let l : q.pos.len ≡ p.pos.len = ap (λ (x : Place). x.pos.len) e in
    (omega (arith, h.few), subst (λ (n : ℕ). Placed n q) (sym l) (placed-moved p by h.here e), subst (λ (n : ℕ). Placed n t₂.start) (sym l) s)

pub may-take : {t : Trace} {p : Place} {e : Entry} → Upright t p → e.size ≤ p.pos.len → e.tail < p.pos.len → Taking p t e
may-take {t} {p} {e} h a b =
    record {
      here = h.here;
      there = h.there;
      tail = b;
      few = omega (arith, h.few);
      run = run-behind p.count (state_of t) e.number h.behind;
      countable = omega (arith, h.few, h.laps);
    }

-- before the first entry
pub asked-fresh : (t : Trace) {n : ℕ} → n < 1048576 → state_of t ≡ fresh → t.start.pos.at ≡ 0 → t.start.pos.len ≡ n → Asked t t.start
asked-fresh t h e p l =
    let z : t.start.count ≡ 0 = ap (λ (x : State). x.start) e in
    let q : t.start.pos.at ≡ t.start.count % t.start.pos.len = p ∙ sym (ap (λ (x : ℕ). x % t.start.pos.len) z ∙ zero-mod t.start.pos.len) in
    (omega arith, (q, refl), (q, refl))

pub resumed-fresh : (t : Trace) {n : ℕ} {r : Step} → state_of t ≡ fresh → t.start.pos.len ≡ n
    → r ≡ resumed t.start.pos.len t.start.count (state_of t) → r ≡ resumed n 0 fresh
resumed-fresh t e l h = h ∙ ap₂ (λ (n : ℕ) (st : State). resumed n st.start st) l e
