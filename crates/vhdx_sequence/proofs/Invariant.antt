-- The scan finds the active sequence: the invariant `Inv u st` of the scan at place u with the state st, its steps, and what
-- it gives at the end.
-- Assumes nothing.
use Prim.Native.Nat.{ℕ, zero, suc, ◌+◌, ◌-◌, ◌%◌, ◌≤◌, ◌<◌}
use mathlib.Core.Path.{◌≡◌, refl, sym, ap, ◌∙◌, subst}
use mathlib.Core.Bool.{Bool, true, false, cond, ◌&&◌, and-eq-true_iff}
use Rattle.std.specs.Prelude.{Option, None, Some}
use mathlib.Core.Logic.{◌⊎◌, inl, inr, ⊎_elim}
use native.Mathlib.Nat.{mod-lt, mod-eq_of_lt, add-mod-mod}
use native.Mathlib.Omega.{arith}
use native.Mathlib.Decide.{dec_lt}
use lib.Dec.{eqb, leb}
use borrow.Author.Tests.{eqb-true, eq-eqb, leb-true, le-leb}
use Rattle.decision.specs.Bounded.{only_if}
use Rattle.vhdx_entry.specs.declared.Entry.{Entry}
use Rattle.vhdx_entry.proofs.Laws.{mod-round}
use Rattle.vhdx_sequence.specs.Sequence.{Link, upto, better, chain, active_in}
use Rattle.vhdx_sequence.specs.declared.Sequence.{Sequence}
use Rattle.vhdx_sequence.specs.Scan.{State, fresh, run_from, away, headed_by, taken_by}
use Rattle.vhdx_sequence.proofs.Best.{All, Covers, as_good-refl, better-left, better-right, all-better}
use Rattle.vhdx_sequence.proofs.Greatest.{Is, only, sequence-path, is-active}
use Rattle.vhdx_sequence.proofs.Chain.{Apart, mod-on, Ended, chain_first, chain-one, chain_more, chain-ended, chain-at, chain-number, chain_head, Suffix, suffix-from, not-inside}

-- the run of the state: the chain from its start on that ends where the state says
pub record Ran (n : ℕ) (entry : ℕ → Option Entry) (st : State) : Type 0 where
  pub more : ℕ
  pub link : Link
  pub there : chain n entry (st.start % n) more ≡ Some link
  pub ends : st.start + upto link ≡ st.next
  pub number : link.entry.number ≡ st.number

-- the scan at place u. `going`: a chain whose last entry begins before u and ends at u or later is the state's run, or the end of it.
-- `all`: the best so far is at least as good as every sequence whose head begins before u
pub record Inv (n : ℕ) (entry : ℕ → Option Entry) (u : ℕ) (st : State) : Type 0 where
  pub run : (st.start ≡ st.next) ⊎ Ran n entry st
  pub going : (s k : ℕ) (l : Link) → s < n → chain n entry s k ≡ Some l → s + l.before < u → u ≤ s + upto l → (st.next ≡ s + upto l) × (st.number ≡ l.entry.number) × (st.start ≤ s)
  pub sound : All (Is n entry) st.best
  pub all : (q : Sequence) (i : Is n entry q) → q.start + i.link.before < u → Covers st.best q

-- place r is where the longest chain to the entry e at place u begins, of those that begin on the first lap
pub record Reach (n : ℕ) (entry : ℕ → Option Entry) (u r : ℕ) (e : Entry) : Type 0 where
  pub more : ℕ
  pub link : Link
  pub there : chain n entry (r % n) more ≡ Some link
  pub at : r + link.before ≡ u
  pub is : link.entry ≡ e
  pub least : (s k : ℕ) (l : Link) → s < n → chain n entry s k ≡ Some l → s + l.before ≡ u → r ≤ s

module _ (n : ℕ) (entry : ℕ → Option Entry) (mark : ℕ → Bool) (number : ℕ → ℕ) (apart : Apart n entry mark number) where
  module _ (u : ℕ) (st : State) (e : Entry) (pos : 0 < n) (inv : Inv n entry u st) (here : entry (u % n) ≡ Some e) where
    -- a chain whose last entry stands at u ends in e
    same-entry : (s k : ℕ) (l : Link) → s < n → chain n entry s k ≡ Some l → s + l.before ≡ u → l.entry ≡ e
    same-entry s k l b h p =
        let a : entry ((s + l.before) % n) ≡ Some l.entry = chain-at n entry s k l b h in
        let c : entry ((s + l.before) % n) ≡ entry (u % n) = ap (λ (x : ℕ). entry (x % n)) p in
        cc

    -- such a chain is that entry alone, or goes on with the state's run
    on-or-new : (s k : ℕ) (l : Link) → s < n → chain n entry s k ≡ Some l → s + l.before ≡ u → (s ≡ u) ⊎ ((st.next ≡ u) × (e.number ≡ st.number + 1) × (st.start ≤ s))
    on-or-new s zero l b h p = inl (omega (arith, (chain_first n entry s l h).1))
    on-or-new s (suc k) l b h p =
        let d = chain-ended n entry s k l h in
        let f = d.from in
        let z = apart.sized ((s + d.prior.before) % n) d.prior.entry (mod-lt (s + d.prior.before) {m = n} pos) (chain-at n entry s k d.prior b d.there) in
        let o = inv.going s k d.prior b d.there (omega arith) (omega arith) in
        let w : l.entry.number ≡ e.number = ap (λ (x : Entry). x.number) (same-entry s (suc k) l b h p) in
        inr (omega arith, omega (arith, d.rises), o.2)

    reach-new : ((s k : ℕ) (l : Link) → s < n → chain n entry s k ≡ Some l → s + l.before ≡ u → u ≤ s) → Reach n entry u u e
    reach-new h =
        record {
          more = 0;
          link = record { before = 0; entry = e };
          there = chain-one n entry (u % n) e here;
          at = omega arith;
          is = refl;
          least = h;
        }

    reach-on : u ≡ st.next → e.number ≡ st.number + 1 → Reach n entry u st.start e
    reach-on p q = go inv.run
      where
        least : st.start ≤ u → (s k : ℕ) (l : Link) → s < n → chain n entry s k ≡ Some l → s + l.before ≡ u → st.start ≤ s
        least x s k l b h p = ⊎_elim (λ y. omega arith) (λ y. y.2) (on-or-new s k l b h p)

        go : (st.start ≡ st.next) ⊎ Ran n entry st → Reach n entry u st.start e
        go (inl x) =
            record {
              more = 0;
              link = record { before = 0; entry = e };
              there = chain-one n entry (st.start % n) e (ap (λ (y : ℕ). entry (y % n)) (x ∙ sym p) ∙ here);
              at = omega arith;
              is = refl;
              least = least (omega arith);
            }
        go (inr x) =
            let w = x.ends in
            let v = x.number in
            record {
              more = suc x.more;
              link = record { before = upto x.link; entry = e };
              there = chain_more n entry (st.start % n) x.more x.link e x.there (ap entry (mod-on n st.start (upto x.link) u (omega arith)) ∙ here) (omega arith);
              at = omega arith;
              is = refl;
              least = least (omega arith);
            }

    pub reach : Reach n entry u (run_from u st e.number) e
    reach = go (eqb u st.next && eqb e.number (st.number + 1)) refl
      where
        go : (t : Bool) → (eqb u st.next && eqb e.number (st.number + 1)) ≡ t → Reach n entry u (cond t st.start u) e
        go true h =
            let k = (and-eq-true_iff (eqb u st.next) (eqb e.number (st.number + 1))).0 h in
            reach-on (eqb-true u st.next k.0) (eqb-true e.number (st.number + 1) k.1)
        go false h = reach-new fresh_start
          where
            fresh_start : (s k : ℕ) (l : Link) → s < n → chain n entry s k ≡ Some l → s + l.before ≡ u → u ≤ s
            fresh_start s k l b c p = ⊎_elim (λ x. omega arith) (λ x. absurd (no_way x)) (on-or-new s k l b c p)
              where
                no_way : (st.next ≡ u) × (e.number ≡ st.number + 1) × (st.start ≤ s) → ⊥
                no_way x =
                    let y = (and-eq-true_iff (eqb u st.next) (eqb e.number (st.number + 1))).1 ((eq-eqb _ _ (sym x.0)), (eq-eqb _ _ x.1)) in
                    let z : ◌≡◌ {A = ℕ} 0 1 = cc in
                    omega arith

  module _ (u r : ℕ) (e : Entry) (pos : 0 < n) (here : entry (u % n) ≡ Some e) (run : Reach n entry u r e) where
    abbrev found : Option Sequence
    found = headed_by n u r e (mark e.tail) (number e.tail)

    back : (r % n + away n (r % n) e.tail) % n ≡ e.tail
    back =
        let x : r % n < n = mod-lt r {m = n} pos in
        add-mod-mod (r % n) (e.tail + (n - r % n)) n
        ∙ mod-round n e.tail (r % n + (e.tail + (n - r % n))) (apart.sized (u % n) e (mod-lt u {m = n} pos) here).2 (omega arith)

    -- a marked tail in the run is where a sequence with the head e starts
    headed-sound : All (Is n entry) (found)
    headed-sound q h = go (mark e.tail && leb (away n (r % n) e.tail) (u - r)) refl h
      where
        go : (t : Bool) → (mark e.tail && leb (away n (r % n) e.tail) (u - r)) ≡ t → only_if {A = Sequence} t (record { start = e.tail; more = e.number - number e.tail; number = e.number }) ≡ Some q → Is n entry q
        go false a b = let z : ◌≡◌ {A = ℕ} 0 1 = cc in absurd (omega arith)
        go true a b =
            let k = (and-eq-true_iff (mark e.tail) (leb (away n (r % n) e.tail) (u - r))).0 a in
            let d : away n (r % n) e.tail ≤ u - r = leb-true _ _ k.1 in
            let at = run.at in
            let c = suffix-from n entry mark number apart (r % n) run.more (away n (r % n) e.tail) run.link (mod-lt r {m = n} pos) run.there (omega arith) (ap mark back ∙ k.0) in
            let there : chain n entry e.tail c.more ≡ Some c.to = ap (λ (s : ℕ). chain n entry s c.more) (sym back) ∙ c.there in
            made c there (chain_head n entry e.tail c.more c.to there)
          where
            made : (c : Suffix n entry (r % n) (away n (r % n) e.tail) run.link) → chain n entry e.tail c.more ≡ Some c.to → (f : Entry) × (entry e.tail ≡ Some f) → Is n entry q
            made c there (f, g) =
                let i : c.to.entry ≡ e = c.last ∙ run.is in
                let j : c.to.entry.number ≡ e.number = ap (λ (x : Entry). x.number) i in
                let t : e.tail < n = (apart.sized (u % n) e (mod-lt u {m = n} pos) here).2 in
                let v = apart.numbered e.tail f t g in
                let w = chain-number n entry e.tail c.more c.to f g there in
                let m : e.number - number e.tail ≡ c.more = omega arith in
                subst (Is n entry) {x = record { start = e.tail; more = e.number - number e.tail; number = e.number }} (cc)
                (record {
                  starts = t;
                  link = c.to;
                  there = ap (λ (x : ℕ). chain n entry e.tail x) m ∙ there;
                  tail = ap (λ (x : Entry). x.tail) i;
                  number = sym j;
                })

    -- every sequence with its head at u is found there
    headed-finds : (q : Sequence) (i : Is n entry q) → q.start + i.link.before ≡ u → found ≡ Some q
    headed-finds q i p = go (chain_head n entry q.start q.more i.link i.there)
      where
        entry-is : i.link.entry ≡ e
        entry-is =
            let a : entry ((q.start + i.link.before) % n) ≡ Some i.link.entry = chain-at n entry q.start q.more i.link i.starts i.there in
            let c : entry ((q.start + i.link.before) % n) ≡ entry (u % n) = ap (λ (x : ℕ). entry (x % n)) p in
            cc

        tail-is : e.tail ≡ q.start
        tail-is = ap (λ (x : Entry). x.tail) (sym entry-is) ∙ i.tail

        near : away n (r % n) e.tail ≤ u - r
        near =
            let b = run.least q.start q.more i.link i.starts i.there p in
            let s = i.starts in
            let m : r % n ≡ r = mod-eq_of_lt (omega arith) in
            let t = tail-is in
            let w : away n (r % n) e.tail ≡ e.tail - r = mod-round n (e.tail - r) (e.tail + (n - r % n)) (omega arith) (omega arith) in
            omega arith

        go : (f : Entry) × (entry q.start ≡ Some f) → found ≡ Some q
        go (f, g) =
            let a : mark e.tail ≡ true = ap mark tail-is ∙ apart.marked q.start f i.starts g in
            let b : number e.tail ≡ f.number = ap number tail-is ∙ apart.numbered q.start f i.starts g in
            let c : i.link.entry.number ≡ e.number = ap (λ (x : Entry). x.number) entry-is in
            let d = chain-number n entry q.start q.more i.link f g i.there in
            only (mark e.tail && leb (away n (r % n) e.tail) (u - r)) _ q ((and-eq-true_iff (mark e.tail) _).1 (a, (le-leb _ _ near)))
            (sequence-path tail-is (omega arith) (sym c ∙ sym i.number))

    -- the entry at u is taken up
    pub inv-some : (st : State) → Inv n entry u st → Inv n entry (suc u) (taken_by n u r st e (mark e.tail) (number e.tail))
    inv-some st inv =
        record {
          run = inr (record {
            more = run.more;
            link = run.link;
            there = run.there;
            ends = omega (arith, run.at, ap (λ (x : Entry). x.size) run.is);
            number = ap (λ (x : Entry). x.number) run.is;
          });
          going = going;
          sound = all-better (Is n entry) st.best (found) inv.sound headed-sound;
          all = λ q i p. covers q i (dec_lt (q.start + i.link.before) u) p;
        }
      where
        covers : (q : Sequence) (i : Is n entry q) → Dec (q.start + i.link.before < u) → q.start + i.link.before < suc u → Covers (better st.best (found)) q
        covers q i (yes a) p = better-left st.best (found) q (inv.all q i a)
        covers q i (no a) p =
            better-right st.best (found) q
            (subst (λ (o : Option Sequence). Covers o q) (sym (headed-finds q i (omega arith))) (as_good-refl q))

        decided : (s k : ℕ) (l : Link) → s < n → chain n entry s k ≡ Some l → s + l.before < suc u → suc u ≤ s + upto l → Dec (s + l.before < u) → (u + e.size ≡ s + upto l) × (e.number ≡ l.entry.number) × (r ≤ s)
        decided s k l b h p o (yes a) =
            absurd
            (not-inside n entry mark number apart ((s + l.before) % n) l.entry e (u - (s + l.before)) (u % n)
            (mod-lt (s + l.before) {m = n} pos) (chain-at n entry s k l b h) (omega arith) (omega arith)
            (mod-on n (s + l.before) (u - (s + l.before)) u (omega arith)) here)
        decided s k l b h p o (no a) =
            let at : s + l.before ≡ u = omega arith in
            let x : entry ((s + l.before) % n) ≡ Some l.entry = chain-at n entry s k l b h in
            let y : entry ((s + l.before) % n) ≡ entry (u % n) = ap (λ (x : ℕ). entry (x % n)) at in
            let z : l.entry ≡ e = cc in
            (omega (arith, ap (λ (x : Entry). x.size) z), ap (λ (x : Entry). x.number) (sym z), run.least s k l b h at)

        going : (s k : ℕ) (l : Link) → s < n → chain n entry s k ≡ Some l → s + l.before < suc u → suc u ≤ s + upto l → (u + e.size ≡ s + upto l) × (e.number ≡ l.entry.number) × (r ≤ s)
        going s k l b h p o = decided s k l b h p o (dec_lt (s + l.before) u)

  -- there is no entry at u
  pub inv-none : (u : ℕ) (st : State) → entry (u % n) ≡ None → Inv n entry u st → Inv n entry (suc u) st
  inv-none u st h inv =
      record {
        run = inv.run;
        going = λ s k l b c p o. inv.going s k l b c (earlier s k l b c p) (omega arith);
        sound = inv.sound;
        all = λ q i p. inv.all q i (earlier q.start q.more i.link i.starts i.there p);
      }
    where
      earlier : (s k : ℕ) (l : Link) → s < n → chain n entry s k ≡ Some l → s + l.before < suc u → s + l.before < u
      earlier s k l b c p = go (dec_lt (s + l.before) u)
        where
          go : Dec (s + l.before < u) → s + l.before < u
          go (yes a) = a
          go (no a) =
              let at : s + l.before ≡ u = omega arith in
              let x : entry ((s + l.before) % n) ≡ Some l.entry = chain-at n entry s k l b c in
              let y : entry ((s + l.before) % n) ≡ entry (u % n) = ap (λ (x : ℕ). entry (x % n)) at in
              let z : ◌≡◌ {A = ℕ} 0 1 = cc in
              absurd (omega arith)

  pub inv-fresh : Inv n entry 0 fresh
  inv-fresh =
      record {
        run = inl refl;
        going = λ s k l b h p o. absurd (omega arith);
        sound = λ q h. let z : ◌≡◌ {A = ℕ} 0 1 = cc in absurd (omega arith);
        all = λ q i p. absurd (omega arith);
      }

  -- no entry starts inside the entry at u, so the scan may go on behind it
  pub inv-skip : (u : ℕ) (e : Entry) (st : State) → 0 < n → entry (u % n) ≡ Some e → Inv n entry (suc u) st → (j : ℕ) → j < e.size → Inv n entry (suc (u + j)) st
  inv-skip u e st pos h inv zero p = subst (λ (x : ℕ). Inv n entry (suc x) st) {x = u} (omega arith) inv
  inv-skip u e st pos h inv (suc j) p =
      subst (λ (x : ℕ). Inv n entry (suc x) st) {x = suc (u + j)} (omega arith)
      (inv-none (suc (u + j)) st (empty (entry (suc (u + j) % n)) refl) (inv-skip u e st pos h inv j (omega arith)))
    where
      empty : (w : Option Entry) → entry (suc (u + j) % n) ≡ w → entry (suc (u + j) % n) ≡ None
      empty None g = g
      empty (Some f) g =
          absurd
          (not-inside n entry mark number apart (u % n) e f (suc j) (suc (u + j) % n) (mod-lt u {m = n} pos) h (omega arith) p
          (mod-on n u (suc j) (suc (u + j)) (omega arith)) g)

  -- a sequence that starts before u and has its head at u or later has an entry that begins before u and ends at u or later
  across : (u s k : ℕ) (l : Link) → chain n entry s k ≡ Some l → s < u → u ≤ s + l.before → (j : ℕ) × (m : Link) × (chain n entry s j ≡ Some m) × (s + m.before < u) × (u ≤ s + upto m)
  across u s zero l h a b = absurd (omega (arith, (chain_first n entry s l h).1))
  across u s (suc k) l h a b =
      let d = chain-ended n entry s k l h in
      go d (dec_lt (s + d.prior.before) u) (λ c. across u s k d.prior d.there a c)
    where
      go : (d : Ended n entry s k l) → Dec (s + d.prior.before < u) → (u ≤ s + d.prior.before → (j : ℕ) × (m : Link) × (chain n entry s j ≡ Some m) × (s + m.before < u) × (u ≤ s + upto m)) → (j : ℕ) × (m : Link) × (chain n entry s j ≡ Some m) × (s + m.before < u) × (u ≤ s + upto m)
      go d (yes c) r = (k, d.prior, d.there, c, omega (arith, d.from))
      go d (no c) r = r (omega arith)

  -- once the first lap is done and no run of it goes on, every sequence was met
  pub inv-done : (u : ℕ) (st : State) → Inv n entry u st → n ≤ u → ((u ≤ st.next) × (st.start < n) → ⊥) → (q : Sequence) → Is n entry q → Covers st.best q
  inv-done u st inv a no_run q i = go (dec_lt (q.start + i.link.before) u)
    where
      go : Dec (q.start + i.link.before < u) → Covers st.best q
      go (yes b) = inv.all q i b
      go (no b) =
          let s = i.starts in
          let (j, m, h, c, d) = across u q.start q.more i.link i.there (omega arith) (omega arith) in
          let o = inv.going q.start j m i.starts h c d in
          absurd (no_run (omega arith))

  -- where the scan ends
  pub done : (u : ℕ) (st : State) → Inv n entry u st → n ≤ u → ((u ≤ st.next) × (st.start < n) → ⊥) → st.best ≡ active_in n entry
  done u st inv a b = is-active n entry mark number apart st.best inv.sound (inv-done u st inv a b)
