-- What `all` and `find` over the numbers below a bound answer, in the words of `Bounded`, where the closure is a test of its number.
-- Assumes nothing.
use mathlib.Core.Path.{◌≡◌, refl, sym, ap, ◌∙◌}
use mathlib.Core.Bool.{Bool, true, false, ◌&&◌}
use Prim.Native.Nat.{ℕ, zero, suc, ◌+◌, ◌≤◌, ◌<◌}
use native.Mathlib.Numerals.{add-one}
use native.Mathlib.Omega.{arith}
use denote.Ref.{Bor}
use denote.Param.Members.{Mut}
use Rattle.std.specs.declared.ops.Range.{Range}
use Rattle.std.specs.Iterator.{YieldsThen}
use Rattle.std.proofs.iter.Yields.{nat_range_steps}
use Rattle.std.specs.Prelude.{List, Option, None, Some, MatchOption, ⊤}
use Rattle.std.specs.List.{FoldsTo, list_all, range_with_len}
use Rattle.std.specs.Fn.{Called, CalledAt}
use Rattle.std.proofs.lemmas.Iterator.{YieldsList-from_range, first_from_Range}
use Rattle.std.proofs.lemmas.Iterator.Search.{all_from_yields_List}
use Rattle.decision.specs.Bounded.{every, first}
use Rattle.decision.proofs.Laws.{first-hit, none_first}

module _ (p : ℕ → Bool) where
  and-true : (b : Bool) → b ≡ (b && true)
  and-true true = refl
  and-true false = refl

  assoc : (a b c : Bool) → ((a && b) && c) ≡ (a && (b && c))
  assoc true b c = refl
  assoc false b c = refl

  -- `every` goes on where a list of tests begins
  onward : (n a : ℕ) → every (a + n) p ≡ (every a p && list_all p (range_with_len a n))
  unfolding every
  onward zero a = ap (λ (m : ℕ). every m p) {x = a + 0} {y = a} (omega arith) ∙ and-true (every a p)
  onward (suc n) a =
      let step : every ((a + 1) + n) p ≡ (every (a + 1) p && list_all p (range_with_len (a + 1) n)) = onward n (a + 1) in
      let split : every (a + 1) p ≡ (every a p && p a) = rw add-one refl in
      ap (λ (m : ℕ). every m p) {x = a + suc n} {y = (a + 1) + n} (omega arith)
      ∙ step
      ∙ ap (λ b. b && list_all p (range_with_len (a + 1) n)) split
      ∙ assoc (every a p) (p a) (list_all p (range_with_len (a + 1) n))

  all-every : (n : ℕ) → list_all p (range_with_len 0 n) ≡ every n p
  unfolding every
  all-every n = sym (ap (λ (m : ℕ). every m p) {x = n} {y = 0 + n} (omega arith) ∙ onward n 0)

  first-is : (n : ℕ) (r : Option ℕ)
      → MatchOption r ((k : ℕ) → 0 ≤ k → k < n → p k ≡ false) (λ i. (0 ≤ i) × (i < n) × (p i ≡ true) × ((k : ℕ) → 0 ≤ k → k < i → p k ≡ false))
      → r ≡ first n p
  first-is n None h = sym (none_first p n (λ k l. h k (omega arith) l))
  first-is n (Some i) h = sym (first-hit p i n h.1 (none_first p i (λ k l. h.3 k (omega arith) l)) h.2)

module _ {F : Type 0} {g : Mut F (ℕ × Unit {0}) Bool} (p : ℕ → Bool) (n : ℕ) (u : Range ℕ) (f : F) where
  pub every_from_all : (r : Bool)
      → (xs : List ℕ) × (o : Option ℕ) × (j : F) × YieldsThen nat_range_steps (record { start = 0; end = n }) xs o u × FoldsTo (λ a x q. Called g a (x, tt) true q) f xs j × MatchOption o (r ≡ true) (λ x. (r ≡ false) × ((h : F) × Called g j (x, tt) false h))
      → ((x : ℕ) (b : Bool) (q : F) → Called g f (x, tt) b q → (q ≡ f) × (b ≡ p x)) → r ≡ every n p
  every_from_all r d k = all_from_yields_List p u f r d (YieldsList-from_range 0 n n refl (omega arith)) k ∙ all-every p n

module _ {F : Type 0} {g : Mut F (Bor ℕ × Unit {0}) Bool} (p : ℕ → Bool) (n : ℕ) (u : Range ℕ) (f : F) where
  pub first_from_find : (r : Option ℕ)
      → (xs : List ℕ) × (j : F) × YieldsThen nat_range_steps (record { start = 0; end = n }) xs r u × FoldsTo (λ a x q. CalledAt g a x false q) f xs j × MatchOption r ⊤ (λ x. (h : F) × CalledAt g j x true h)
      → ((x : ℕ) (b : Bool) (q : F) → CalledAt g f x b q → (q ≡ f) × (b ≡ p x)) → r ≡ first n p
  first_from_find r d k =
      first-is p n r (first_from_Range (record { start = 0; end = n }) u f r (λ x. p x ≡ true) (λ x. p x ≡ false) d (λ x q c. sym (k x true q c).1) (λ x q c. ((k x false q c).0, sym (k x false q c).1)))
