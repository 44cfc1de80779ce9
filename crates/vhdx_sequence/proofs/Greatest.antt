-- What the active sequence is, in a ring whose entries lie apart: the only log sequence that is at least as good as each.
-- Assumes nothing.
use Prim.Native.Nat.{ℕ, zero, suc, ◌+◌, ◌%◌, ◌<◌}
use mathlib.Core.Path.{◌≡◌, refl, sym, ap, ◌∙◌, subst}
use mathlib.Core.Bool.{Bool, true, false, ◌&&◌, and-eq-true_iff}
use Rattle.std.specs.Prelude.{Option, None, Some}
use mathlib.Core.Logic.{inl, inr}
use native.Mathlib.Nat.{mod-lt}
use native.Mathlib.Omega.{arith}
use lib.Dec.{eqb, leb}
use borrow.Author.Tests.{eqb-true, eq-eqb, le-leb}
use Rattle.decision.specs.Bounded.{only_if}
use Rattle.vhdx_entry.specs.declared.Entry.{Entry}
use Rattle.vhdx_sequence.specs.Sequence.{Link, upto, best_of, ◌>>=◌, chain, sequence, active_in}
use Rattle.vhdx_sequence.specs.declared.Sequence.{Sequence}
use Rattle.vhdx_sequence.proofs.Best.{All, Covers, AsGood, as_good-refl, all-best, best-covers}
use Rattle.vhdx_sequence.proofs.Chain.{Apart, chain_first, chain-ended, chain-at, chain-number, chain_head, chain_fits}

-- q is a log sequence
pub record Is (n : ℕ) (entry : ℕ → Option Entry) (q : Sequence) : Type 0 where
  pub starts : q.start < n
  pub link : Link
  pub there : chain n entry q.start q.more ≡ Some link
  pub tail : link.entry.tail ≡ q.start
  pub number : q.number ≡ link.entry.number

pub only : {A : Type 0} (t : Bool) (a b : A) → t ≡ true → a ≡ b → only_if t a ≡ Some b
only t a b p q = rw (p, q)

pub sequence-path : {a b c x y z : ℕ} → a ≡ x → b ≡ y → c ≡ z → ◌≡◌ {A = Sequence} (record { start = a; more = b; number = c }) (record { start = x; more = y; number = z })
sequence-path p q r i = record { start = p i; more = q i; number = r i }

module _ (n : ℕ) (entry : ℕ → Option Entry) (mark : ℕ → Bool) (number : ℕ → ℕ) (apart : Apart n entry mark number) where
  of-link : (s k : ℕ) (q : Sequence) (w : Option Link) → s < n → chain n entry s k ≡ w → (w >>= (λ l. only_if {A = Sequence} (leb (upto l) n && eqb l.entry.tail s) (record { start = s; more = k; number = l.entry.number }))) ≡ Some q → Is n entry q
  of-link s k q None b c h = let z : ◌≡◌ {A = ℕ} 0 1 = cc in absurd (omega arith)
  of-link s k q (Some l) b c h = go (leb (upto l) n && eqb l.entry.tail s) refl h
    where
      go : (t : Bool) → (leb (upto l) n && eqb l.entry.tail s) ≡ t → only_if {A = Sequence} t (record { start = s; more = k; number = l.entry.number }) ≡ Some q → Is n entry q
      go false a g = let z : ◌≡◌ {A = ℕ} 0 1 = cc in absurd (omega arith)
      go true a g =
          subst (Is n entry) {x = record { start = s; more = k; number = l.entry.number }} (cc)
          (record { starts = b; link = l; there = c; tail = eqb-true _ _ ((and-eq-true_iff (leb (upto l) n) (eqb l.entry.tail s)).0 a).1; number = refl })

  sequence-is : (s k : ℕ) → s < n → All (Is n entry) (sequence n entry s k)
  unfolding sequence
  sequence-is s k b q h = of-link s k q (chain n entry s k) b refl h

  is-sequence : (q : Sequence) (i : Is n entry q) → sequence n entry q.start q.more ≡ Some q
  unfolding sequence
  is-sequence q i =
      rw i.there
      (only (leb (upto i.link) n && eqb i.link.entry.tail q.start) _ q
      ((and-eq-true_iff (leb (upto i.link) n) _).1 ((le-leb _ _ (chain_fits n entry mark number apart q.start q.more i.link i.starts i.there)), (eq-eqb _ _ i.tail)))
      (sequence-path refl refl (sym i.number)))

  -- an entry has at least one sector, so a chain has at most as many entries as it takes sectors
  chain-count : (s k : ℕ) (l : Link) → s < n → chain n entry s k ≡ Some l → k < upto l
  chain-count s zero l b h =
      omega (arith, apart.sized s l.entry b (chain_first n entry s l h).0)
  chain-count s (suc k) l b h =
      let d = chain-ended n entry s k l h in
      omega (arith, d.from, chain-count s k d.prior b d.there, apart.sized ((s + l.before) % n) l.entry (mod-lt (s + l.before) {m = n} (omega arith)) (chain-at n entry s (suc k) l b h))

  -- what the active sequence is
  pub active-is : All (Is n entry) (active_in n entry)
  unfolding active_in
  active-is = all-best (Is n entry) n (λ s. best_of n (λ k. sequence n entry s k)) (λ s b. all-best (Is n entry) n (λ k. sequence n entry s k) (λ k c. sequence-is s k b))

  active-covers : (q : Sequence) → Is n entry q → Covers (active_in n entry) q
  unfolding active_in
  active-covers q i =
      best-covers n (λ s. best_of n (λ k. sequence n entry s k)) q.start q i.starts
      (best-covers n (λ k. sequence n entry q.start k) q.more q
      (omega (arith, chain-count q.start q.more i.link i.starts i.there, chain_fits n entry mark number apart q.start q.more i.link i.starts i.there))
      (subst (λ (o : Option Sequence). Covers o q) (sym (is-sequence q i)) (as_good-refl q)))

  -- of two sequences each as good as the other there is one
  one : (p q : Sequence) → Is n entry p → Is n entry q → AsGood p q → AsGood q p → p ≡ q
  one p q i j (inl a) (inl b) = absurd (omega arith)
  one p q i j (inl a) (inr b) = absurd (omega arith)
  one p q i j (inr a) (inl b) = absurd (omega arith)
  one p q i j (inr a) (inr b) = go (chain_head n entry p.start p.more i.link i.there)
    where
      start : p.start ≡ q.start
      start = omega arith

      go : (f : Entry) × (entry p.start ≡ Some f) → p ≡ q
      go (f, g) =
          sequence-path start
          (omega (arith, i.number, j.number, chain-number n entry p.start p.more i.link f g i.there, chain-number n entry q.start q.more j.link f (ap entry (sym start) ∙ g) j.there))
          a.0

  -- what is sound and covers all is the active sequence
  pub is-active : (o : Option Sequence) → All (Is n entry) o → ((q : Sequence) → Is n entry q → Covers o q) → o ≡ active_in n entry
  is-active o a c = go o (active_in n entry) a c active-is active-covers
    where
      go : (o w : Option Sequence) → All (Is n entry) o → ((q : Sequence) → Is n entry q → Covers o q) → All (Is n entry) w → ((q : Sequence) → Is n entry q → Covers w q) → o ≡ w
      go None None a c b d = refl
      go None (Some q) a c b d = absurd (c q (b q refl))
      go (Some p) None a c b d = absurd (d p (a p refl))
      go (Some p) (Some q) a c b d = ap {B = Option Sequence} Some (one p q (a p refl) (b q refl) (c q (b q refl)) (d p (a p refl)))
