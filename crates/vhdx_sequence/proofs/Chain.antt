-- Chains of entries in a ring of n sectors whose entries lie apart: what a chain is made of, that it takes at most n sectors,
-- and that it can be split at each marked sector.
-- Assumes nothing.
use Prim.Native.Nat.{ℕ, zero, suc, ◌+◌, ◌-◌, ◌%◌, ◌≤◌, ◌<◌}
use mathlib.Core.Path.{◌≡◌, refl, sym, ap, ◌∙◌}
use mathlib.Core.Bool.{Bool, true, false}
use Rattle.std.specs.Prelude.{Option, None, Some}
use native.Mathlib.Nat.{mod-lt, mod-eq_of_lt, mod-add-mod, add-zero}
use native.Mathlib.Omega.{arith}
use native.Mathlib.Decide.{dec_lt, dec_le}
use lib.Dec.{eqb}
use borrow.Author.Tests.{eqb-true, eq-eqb}
use Rattle.decision.specs.Bounded.{only_if}
use Rattle.vhdx_entry.specs.declared.Entry.{Entry}
use Rattle.vhdx_entry.proofs.Laws.{mod-round}
use Rattle.vhdx_sequence.specs.Sequence.{Link, upto, ◌>>=◌, chain}

-- places in a ring: on from a place that was taken modulo n
pub mod-on : (n a b c : ℕ) → a + b ≡ c → (a % n + b) % n ≡ c % n
mod-on n a b c h = mod-add-mod a n b ∙ ap (λ (x : ℕ). x % n) h

-- valid entries lie apart, where `mark s` says that sector s is marked as the first of an entry, and `number s` is the sequence
-- number there: a sector of a valid entry after its first is not marked
pub record Apart (n : ℕ) (entry : ℕ → Option Entry) (mark : ℕ → Bool) (number : ℕ → ℕ) : Type 0 where
  pub sized : (s : ℕ) (e : Entry) → s < n → entry s ≡ Some e → (0 < e.size) × (e.size ≤ n) × (e.tail < n)
  pub marked : (s : ℕ) (e : Entry) → s < n → entry s ≡ Some e → mark s ≡ true
  pub numbered : (s : ℕ) (e : Entry) → s < n → entry s ≡ Some e → number s ≡ e.number
  pub inside : (s : ℕ) (e : Entry) → s < n → entry s ≡ Some e → (j : ℕ) → 0 < j → j < e.size → mark ((s + j) % n) ≡ false

-- how a chain of more than one entry ends
pub record Ended (n : ℕ) (entry : ℕ → Option Entry) (s k : ℕ) (l : Link) : Type 0 where
  pub prior : Link
  pub there : chain n entry s k ≡ Some prior
  pub found : entry ((s + upto prior) % n) ≡ Some l.entry
  pub rises : l.entry.number ≡ prior.entry.number + 1
  pub from : l.before ≡ upto prior

module _ (n : ℕ) (entry : ℕ → Option Entry) where
  first_of : (l : Link) (w : Option Entry) → ◌>>=◌ {B = Link} w (λ e. Some (record { before = 0; entry = e })) ≡ Some l → (w ≡ Some l.entry) × (l.before ≡ 0)
  first_of l None h = let z : ◌≡◌ {A = ℕ} 0 1 = cc in absurd (omega arith)
  first_of l (Some e) h =
      let g : ◌≡◌ {A = Link} (record { before = 0; entry = e }) l = cc in
      (ap (λ (x : Link). Some x.entry) g, ap (λ (x : Link). x.before) (sym g))

  pub chain_first : (s : ℕ) (l : Link) → chain n entry s 0 ≡ Some l → (entry s ≡ Some l.entry) × (l.before ≡ 0)
  unfolding chain
  chain_first s l h = first_of l (entry s) h

  pub chain-one : (s : ℕ) (e : Entry) → entry s ≡ Some e → chain n entry s 0 ≡ Some (record { before = 0; entry = e })
  unfolding chain
  chain-one s e h = rw h

  pub chain_more : (s k : ℕ) (p : Link) (e : Entry) → chain n entry s k ≡ Some p → entry ((s + upto p) % n) ≡ Some e → e.number ≡ p.entry.number + 1 → chain n entry s (suc k) ≡ Some (record { before = upto p; entry = e })
  unfolding chain
  chain_more s k p e h f r = rw (h, f, eq-eqb _ _ r)

  ended : (s k : ℕ) (l p : Link) (e : Entry) → chain n entry s k ≡ Some p → entry ((s + upto p) % n) ≡ Some e → (t : Bool) → eqb e.number (p.entry.number + 1) ≡ t → only_if {A = Link} t (record { before = upto p; entry = e }) ≡ Some l → Ended n entry s k l
  ended s k l p e a c true r h =
      let g : ◌≡◌ {A = Link} (record { before = upto p; entry = e }) l = cc in
      record {
        prior = p;
        there = a;
        found = c ∙ ap (λ (x : Link). Some x.entry) g;
        rises = ap (λ (x : Link). x.entry.number) (sym g) ∙ eqb-true e.number (p.entry.number + 1) r;
        from = ap (λ (x : Link). x.before) (sym g);
      }
  ended s k l p e a c false r h = let z : ◌≡◌ {A = ℕ} 0 1 = cc in absurd (omega arith)

  ended_at : (s k : ℕ) (l p : Link) → chain n entry s k ≡ Some p → (w : Option Entry) → entry ((s + upto p) % n) ≡ w → (w >>= (λ e. only_if {A = Link} (eqb e.number (p.entry.number + 1)) (record { before = upto p; entry = e }))) ≡ Some l → Ended n entry s k l
  ended_at s k l p a None c h = let z : ◌≡◌ {A = ℕ} 0 1 = cc in absurd (omega arith)
  ended_at s k l p a (Some e) c h = ended s k l p e a c (eqb e.number (p.entry.number + 1)) refl h

  ended-from : (s k : ℕ) (l : Link) (w : Option Link) → chain n entry s k ≡ w → (w >>= (λ p. entry ((s + upto p) % n) >>= (λ e. only_if {A = Link} (eqb e.number (p.entry.number + 1)) (record { before = upto p; entry = e })))) ≡ Some l → Ended n entry s k l
  ended-from s k l None a h = let z : ◌≡◌ {A = ℕ} 0 1 = cc in absurd (omega arith)
  ended-from s k l (Some p) a h = ended_at s k l p a (entry ((s + upto p) % n)) refl h

  pub chain-ended : (s k : ℕ) (l : Link) → chain n entry s (suc k) ≡ Some l → Ended n entry s k l
  unfolding chain
  chain-ended s k l h = ended-from s k l (chain n entry s k) refl h

  -- the last entry stands where its link says
  pub chain-at : (s k : ℕ) (l : Link) → s < n → chain n entry s k ≡ Some l → entry ((s + l.before) % n) ≡ Some l.entry
  chain-at s zero l b h =
      let c : s + l.before ≡ s = omega (arith, (chain_first s l h).1) in
      ap (λ (x : ℕ). entry (x % n)) c ∙ ap entry (mod-eq_of_lt b) ∙ (chain_first s l h).0
  chain-at s (suc k) l b h =
      let d = chain-ended s k l h in
      ap (λ (x : ℕ). entry ((s + x) % n)) d.from ∙ d.found

  -- its number counts the entries
  pub chain-number : (s k : ℕ) (l : Link) (f : Entry) → entry s ≡ Some f → chain n entry s k ≡ Some l → l.entry.number ≡ f.number + k
  chain-number s zero l f a h =
      let b = (chain_first s l h).0 in
      let c : l.entry ≡ f = cc in
      ap (λ (x : Entry). x.number) c ∙ sym (add-zero f.number)
  chain-number s (suc k) l f a h =
      let d = chain-ended s k l h in
      omega (arith, chain-number s k d.prior f a d.there, d.rises)

  pub chain_head : (s k : ℕ) (l : Link) → chain n entry s k ≡ Some l → (f : Entry) × (entry s ≡ Some f)
  chain_head s zero l h = (l.entry, (chain_first s l h).0)
  chain_head s (suc k) l h = let d = chain-ended s k l h in chain_head s k d.prior d.there

-- where a part of a chain begins: the rest of it is a chain to the same entry
pub record Suffix (n : ℕ) (entry : ℕ → Option Entry) (r d : ℕ) (l : Link) : Type 0 where
  pub more : ℕ
  pub to : Link
  pub there : chain n entry ((r + d) % n) more ≡ Some to
  pub reach : d + to.before ≡ l.before
  pub last : to.entry ≡ l.entry

module _ (n : ℕ) (entry : ℕ → Option Entry) (mark : ℕ → Bool) (number : ℕ → ℕ) (apart : Apart n entry mark number) where
  -- no valid entry starts inside another
  pub not-inside : (s : ℕ) (e f : Entry) (j t : ℕ) → s < n → entry s ≡ Some e → 0 < j → j < e.size → (s + j) % n ≡ t → entry t ≡ Some f → ⊥
  not-inside s e f j t b h p q r g =
      let k : t < n = rw r at (mod-lt (s + j) {m = n} (omega arith)) in
      let x = apart.marked t f k g in
      let y = apart.inside s e b h j p q in
      let w : mark ((s + j) % n) ≡ mark t = ap mark r in
      let z : ◌≡◌ {A = ℕ} 0 1 = cc in
      omega arith

  -- a chain takes at most n sectors: it can neither reach into its first entry nor take it up again
  pub chain_fits : (s k : ℕ) (l : Link) → s < n → chain n entry s k ≡ Some l → upto l ≤ n
  chain_fits s zero l b h =
      let (a, c) = chain_first n entry s l h in
      omega (arith, apart.sized s l.entry b a)
  chain_fits s (suc k) l b h =
      let d = chain-ended n entry s k l h in
      go d (chain_head n entry s k d.prior d.there) (chain_fits s k d.prior b d.there) (dec_le (upto l) n) (dec_lt l.before n)
    where
      go : (d : Ended n entry s k l) → (f : Entry) × (entry s ≡ Some f) → upto d.prior ≤ n → Dec (upto l ≤ n) → Dec (l.before < n) → upto l ≤ n
      go d (f, g) i (yes p) q = p
      go d (f, g) i (no p) (yes q) =
          absurd
          (not-inside ((s + l.before) % n) l.entry f (n - l.before) s (mod-lt (s + l.before) {m = n} (omega arith))
          (chain-at n entry s (suc k) l b h) (omega arith) (omega arith)
          (mod-on n (s + l.before) (n - l.before) (s + n) (omega arith) ∙ mod-round n s (s + n) b refl) g)
      go d (f, g) i (no p) (no q) =
          let e : l.before ≡ n = omega (arith, d.from) in
          let x : entry s ≡ Some l.entry = ap entry (sym (mod-round n s (s + l.before) b (omega arith))) ∙ chain-at n entry s (suc k) l b h in
          let y : f ≡ l.entry = cc in
          let w : f.number ≡ l.entry.number = ap (λ (x : Entry). x.number) y in
          absurd (omega (arith, chain-number n entry s (suc k) l f g h))

  suffix_last : (r m d : ℕ) (l : Link) → r < n → chain n entry r m ≡ Some l → d ≡ l.before → Suffix n entry r d l
  suffix_last r m d l b h p =
      record {
        more = 0;
        to = record { before = 0; entry = l.entry };
        there = chain-one n entry ((r + d) % n) l.entry (ap (λ (x : ℕ). entry ((r + x) % n)) p ∙ chain-at n entry r m l b h);
        reach = omega arith;
        last = refl;
      }

  -- a marked sector that a chain covers, up to its last entry's first, is where one of its entries starts
  pub suffix-from : (r m d : ℕ) (l : Link) → r < n → chain n entry r m ≡ Some l → d ≤ l.before → mark ((r + d) % n) ≡ true → Suffix n entry r d l
  suffix-from r zero d l b h p k = suffix_last r zero d l b h (omega (arith, (chain_first n entry r l h).1))
  suffix-from r (suc m) d l b h p k =
      let e = chain-ended n entry r m l h in
      go e (dec_lt d l.before) (dec_le d e.prior.before) (λ q. suffix-from r m d e.prior b e.there q k)
    where
      go : (e : Ended n entry r m l) → Dec (d < l.before) → Dec (d ≤ e.prior.before) → (d ≤ e.prior.before → Suffix n entry r d e.prior) → Suffix n entry r d l
      go e (no x) y i = suffix_last r (suc m) d l b h (omega arith)
      go e (yes x) (no y) i =
          let v = apart.inside ((r + e.prior.before) % n) e.prior.entry (mod-lt (r + e.prior.before) {m = n} (omega arith)) (chain-at n entry r m e.prior b e.there) (d - e.prior.before) (omega arith) (omega (arith, e.from)) in
          let w = ap mark (mod-on n (r + e.prior.before) (d - e.prior.before) (r + d) (omega arith)) in
          let z : ◌≡◌ {A = ℕ} 0 1 = cc in
          absurd (omega arith)
      go e (yes x) (yes y) i =
          let c = i y in
          let w : c.to.entry.size ≡ e.prior.entry.size = ap (λ (t : Entry). t.size) c.last in
          let u : c.to.entry.number ≡ e.prior.entry.number = ap (λ (t : Entry). t.number) c.last in
          record {
            more = suc c.more;
            to = record { before = upto c.to; entry = l.entry };
            there = chain_more n entry ((r + d) % n) c.more c.to l.entry c.there (ap entry (mod-on n (r + d) (upto c.to) (r + upto e.prior) (omega (arith, c.reach))) ∙ e.found) (omega (arith, e.rises));
            reach = omega (arith, c.reach, e.from);
            last = refl;
          }
