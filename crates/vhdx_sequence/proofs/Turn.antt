-- What a turn of the scan's loop does: the loop's invariant `Scanned`, its turns and its end.
-- Assumes nothing.
use mathlib.Core.Path.{◌≡◌, refl, sym, ap, ◌∙◌, subst}
use mathlib.Core.Bool.{Bool, true, false, ◌&&◌, ◌||◌, and-eq-true_iff}
use mathlib.Core.List.{List}
use mathlib.Core.Logic.{◌⊎◌, inl, inr, ⊎_elim}
use Rattle.std.specs.Prelude.{Option, None, Some}
use Prim.Native.Nat.{ℕ, suc, ◌+◌, ◌-◌, ◌*◌, ◌%◌, ◌^◌, ◌≤◌, ◌<◌}
use native.Mathlib.Nat.{mod-lt, mod-add-mod, zero-mod}
use native.Mathlib.Omega.{arith}
use lib.Dec.{ltb, leb}
use lib.ListN.{length}
use borrow.Author.Tests.{ltb-true, ltb-false, leb-true, lt-ltb, le-leb}
use Rattle.field.specs.declared.Guid.{Guid}
use Rattle.vhdx_entry.specs.declared.Entry.{Entry}
use Rattle.vhdx_entry.specs.Ring.{sector_count, On}
use Rattle.vhdx_entry.specs.Entry.{entry_at}
use Rattle.vhdx_sequence.specs.Sequence.{active_sequence}
use Rattle.vhdx_sequence.specs.Scan.{Placed, moved, State, state_of, fresh, run_from, taken, goes_on, mark_at, number_at, Takes}
use Rattle.vhdx_sequence.specs.declared.lap.Place.{Place}
use Rattle.vhdx_sequence.specs.declared.scan.Trace.{Trace}
use Rattle.vhdx_sequence.proofs.Apart.{apart, whole-sectors}
use Rattle.vhdx_sequence.proofs.Chain.{Apart, chain_fits}
use Rattle.vhdx_sequence.proofs.Invariant.{Inv, Ran, Reach, reach, inv-fresh, inv-none, inv-some, inv-skip, done}

-- the scan has come to a place with the state st
pub record Scanned (log : List ℕ) (guid : Guid) (place : Place) (st : Trace) : Type 0 where
  pub whole : length log % 4096 ≡ 0
  pub few : length log < 2 ^ 32
  pub here : Placed (sector_count log) place
  pub there : Placed (sector_count log) st.start
  pub inv : Inv (sector_count log) (entry_at log guid) place.count (state_of st)

-- what the loop's test tells
test-true : (n u : ℕ) (st : State) → goes_on n u st ≡ true → (u < n) ⊎ ((u ≤ st.next) × (st.start < n))
test-true n u st h = go (ltb u n) (leb u st.next) (ltb st.start n) refl refl refl h
  where
    go : (a b c : Bool) → ltb u n ≡ a → leb u st.next ≡ b → ltb st.start n ≡ c → (a || (b && c)) ≡ true → (u < n) ⊎ ((u ≤ st.next) × (st.start < n))
    go true b c p q r k = inl (ltb-true _ _ p)
    go false true true p q r k = inr (leb-true _ _ q, ltb-true _ _ r)
    go false true false p q r k = let z : ◌≡◌ {A = ℕ} 0 1 = cc in absurd (omega arith)
    go false false c p q r k = let z : ◌≡◌ {A = ℕ} 0 1 = cc in absurd (omega arith)

test-false : (n u : ℕ) (st : State) → goes_on n u st ≡ false → (n ≤ u) × ((u ≤ st.next) × (st.start < n) → ⊥)
test-false n u st h = go (ltb u n) refl h
  where
    go : (a : Bool) → ltb u n ≡ a → (a || (leb u st.next && ltb st.start n)) ≡ false → (n ≤ u) × ((u ≤ st.next) × (st.start < n) → ⊥)
    go true p k = let z : ◌≡◌ {A = ℕ} 0 1 = cc in absurd (omega arith)
    go false p k = (ltb-false _ _ p, λ q. no_run q)
      where
        no_run : (u ≤ st.next) × (st.start < n) → ⊥
        no_run q =
            let j = (and-eq-true_iff (leb u st.next) (ltb st.start n)).1 ((le-leb _ _ q.0), (lt-ltb _ _ q.1)) in
            let z : ◌≡◌ {A = ℕ} 0 1 = cc in
            omega arith

module _ {log : List ℕ} {guid : Guid} where
  pub begun : {st : Trace} → length log % 4096 ≡ 0 → length log < 2 ^ 32 → state_of st ≡ fresh → st.start.pos.at ≡ 0 → st.start.pos.len ≡ sector_count log → Scanned log guid st.start st
  begun {st} w f e p l =
      record {
        whole = w;
        few = f;
        here = (p ∙ sym at_zero, l);
        there = (p ∙ sym at_zero, l);
        inv =
            subst (λ (u : ℕ). Inv (sector_count log) (entry_at log guid) u (state_of st)) (sym zero-count)
            (subst (Inv (sector_count log) (entry_at log guid) 0) (sym e) (inv-fresh (sector_count log) (entry_at log guid) (mark_at log) (number_at log) (apart log guid w)));
      }
    where
      zero-count : st.start.count ≡ 0
      zero-count = ap (λ (x : State). x.start) e

      at_zero : st.start.count % sector_count log ≡ 0
      at_zero = ap (λ (x : ℕ). x % sector_count log) zero-count ∙ zero-mod (sector_count log)

  module _ {place : Place} {st : Trace} (now : Scanned log guid place st) where
    lies : Apart (sector_count log) (entry_at log guid) (mark_at log) (number_at log)
    lies = apart log guid now.whole

    -- the last run ends before the end of the second lap
    next-below : 0 < sector_count log → st.next ≤ st.start.count + sector_count log
    next-below p = ⊎_elim (λ e. omega arith) ran now.inv.run
      where
        ran : Ran (sector_count log) (entry_at log guid) (state_of st) → st.next ≤ st.start.count + sector_count log
        ran r =
            omega (arith, r.ends, chain_fits (sector_count log) (entry_at log guid) (mark_at log) (number_at log) lies (st.start.count % sector_count log) r.more r.link (mod-lt st.start.count {m = sector_count log} p) r.there)

    -- in a turn: the place is on one of two laps, its position is one of the log's ring
    pub within : goes_on place.pos.len place.count (state_of st) ≡ true → (place.count < sector_count log + sector_count log) × On log place.pos
    within h =
        ⊎_elim (λ a. ok (omega arith) (omega arith))
        (λ a. let p : 0 < sector_count log = omega arith in ok p (omega (arith, next-below p)))
        (test-true (sector_count log) place.count (state_of st) (ap (λ (m : ℕ). goes_on m place.count (state_of st)) (sym now.here.1) ∙ h))
      where
        ok : 0 < sector_count log → place.count < sector_count log + sector_count log → (place.count < sector_count log + sector_count log) × On log place.pos
        ok p q =
            (q, (omega (arith, now.here, mod-lt place.count {m = sector_count log} p), whole-sectors log now.whole ∙ ap (λ (m : ℕ). m * 4096) (sym now.here.1)))

    -- where the loop ends
    pub finished : goes_on place.pos.len place.count (state_of st) ≡ false → st.best ≡ active_sequence log guid
    unfolding active_sequence
    finished h =
        let t = test-false (sector_count log) place.count (state_of st) (ap (λ (m : ℕ). goes_on m place.count (state_of st)) (sym now.here.1) ∙ h) in
        done (sector_count log) (entry_at log guid) (mark_at log) (number_at log) lies place.count (state_of st) now.inv t.0 t.1

    placed_on : (by : ℕ) (next : Place) → next ≡ moved place by → Placed (sector_count log) next
    placed_on by next e =
        subst (Placed (sector_count log)) (sym e) (
          ap (λ (m : ℕ). (place.pos.at + by) % m) now.here.1 ∙ ap (λ (x : ℕ). (x + by) % sector_count log) now.here.0 ∙ mod-add-mod place.count (sector_count log) by,
          now.here.1,
        )

    -- no entry starts here
    pub turn-empty : {s : Option Entry} {next : Place} → s ≡ entry_at log guid place.pos.at → s ≡ None → next ≡ moved place 1 → Scanned log guid next st
    turn-empty {s} {next} a b e =
        record {
          whole = now.whole;
          few = now.few;
          here = placed_on 1 next e;
          there = now.there;
          inv =
              subst (λ (x : ℕ). Inv (sector_count log) (entry_at log guid) x (state_of st)) {x = suc place.count} (omega (arith, ap (λ (p : Place). p.count) e))
              (inv-none (sector_count log) (entry_at log guid) (mark_at log) (number_at log) lies place.count (state_of st) (ap (entry_at log guid) (sym now.here.0) ∙ sym a ∙ b) now.inv);
        }

    module _ (on : On log place.pos) {s : Option Entry} {e : Entry} (is : s ≡ entry_at log guid place.pos.at) (valid : s ≡ Some e) where
      some-sector : 0 < sector_count log
      some-sector = omega (arith, now.here.1)

      entry_here : entry_at log guid (place.count % sector_count log) ≡ Some e
      entry_here = ap (entry_at log guid) (sym now.here.0) ∙ sym is ∙ valid

      pub sized-here : (0 < e.size) × (e.size ≤ place.pos.len) × (e.tail < place.pos.len)
      sized-here =
          subst (λ (m : ℕ). (0 < e.size) × (e.size ≤ m) × (e.tail < m)) (sym now.here.1)
          (lies.sized (place.count % sector_count log) e (mod-lt place.count {m = sector_count log} some-sector) entry_here)

      reached : Reach (sector_count log) (entry_at log guid) place.count (run_from place.count (state_of st) e.number) e
      reached = reach (sector_count log) (entry_at log guid) (mark_at log) (number_at log) lies place.count (state_of st) e some-sector now.inv entry_here

      -- an entry starts here, and may be taken up
      pub takes : place.count < sector_count log + sector_count log → Takes log place st e
      takes u =
          record {
            on = on;
            taking =
                record {
                  here = subst (λ (m : ℕ). Placed m place) (sym now.here.1) now.here;
                  there = subst (λ (m : ℕ). Placed m st.start) (sym now.here.1) now.there;
                  tail = sized-here.2;
                  few = omega (arith, now.few);
                  run = omega (arith, reached.at);
                  countable = omega (arith, sized-here, now.few, now.here.1);
                };
          }

      -- the entry was taken up
      pub turn-valid : {after : Trace} {next : Place} → state_of after ≡ taken log place.pos.len place.count (state_of st) e → Placed place.pos.len after.start → next ≡ moved place e.size → Scanned log guid next after
      turn-valid {after} {next} t p m =
          record {
            whole = now.whole;
            few = now.few;
            here = placed_on e.size next m;
            there = subst (λ (m : ℕ). Placed m after.start) now.here.1 p;
            inv =
                subst (λ (x : ℕ). Inv (sector_count log) (entry_at log guid) x (state_of after)) (sym (ap (λ (p : Place). p.count) m))
                (subst (Inv (sector_count log) (entry_at log guid) (place.count + e.size)) (sym (t ∙ ap (λ (n : ℕ). taken log n place.count (state_of st) e) now.here.1))
                (subst (λ (x : ℕ). Inv (sector_count log) (entry_at log guid) x state) {x = suc (place.count + (e.size - 1))} (omega (arith, sized-here))
                (inv-skip (sector_count log) (entry_at log guid) (mark_at log) (number_at log) lies place.count e state some-sector entry_here
                (inv-some (sector_count log) (entry_at log guid) (mark_at log) (number_at log) lies place.count (run_from place.count (state_of st) e.number) e some-sector entry_here reached (state_of st) now.inv)
                (e.size - 1) (omega (arith, sized-here)))));
          }
        where
          state : State
          state = taken log (sector_count log) place.count (state_of st) e
