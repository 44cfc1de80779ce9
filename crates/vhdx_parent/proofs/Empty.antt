-- A key's value is empty exactly when document 01 says so.
-- Assumes nothing.
use mathlib.Core.Path.{◌≡◌, refl}
use mathlib.Core.Bool.{Bool, true, false, cond, ◌&&◌}
use mathlib.Core.List.{List}
use mathlib.Core.Logic.{◌⊎◌, inl, inr, ⊎_elim, ◌↔◌}
use Rattle.std.specs.Prelude.{Option, None, Some}
use Prim.Native.Nat.{ℕ, ◌<◌}
use native.Mathlib.Omega.{arith}
use lib.ListN.{length, take}
use borrow.Author.Tests.{lt-ltb}
use Rattle.extent.specs.declared.Extent.{Extent}
use Rattle.extent.specs.Extent.{nowhere, part}
use Rattle.vhdx_locator.specs.Locator.{locator_rule, entry_of, value_at, value_of}
use Rattle.vhdx_locator.proofs.Laws.{value_found}
use Rattle.vhdx_fit.specs.Fit.{fits}
use Rattle.vhdx_parent.specs.Key.{within, in_locator, key_extent, EmptyExactlyThen}

clash : {t : Bool} {A : Type 0} → t ≡ true → t ≡ false → A
clash p q = let z : ◌≡◌ {A = ℕ} 0 1 = cc in absurd (omega arith)

found-not : {o : Option ℕ} {i : ℕ} {A : Type 0} → o ≡ Some i → o ≡ None → A
found-not p q = let z : ◌≡◌ {A = ℕ} 0 1 = cc in absurd (omega arith)

-- the value of an entry that keeps its rule has a byte
with-a-byte : (base : ℕ) (v : Extent) {A : Type 0} → 0 < v.length → (within base v).length ≡ 0 → A
with-a-byte base v h e = let z : v.length ≡ 0 = simp (lt-ltb 0 v.length h) at e in absurd (omega arith)

pub empty-exactly-then : EmptyExactlyThen
unfolding key_extent in_locator value_of
empty-exactly-then f buffer n key =
    let item = part (take n buffer) f.locator in
    go item (fits (length buffer) n f) f.has_parent (locator_rule item) (entry_of item key) refl refl refl refl
  where
    go : (item : List ℕ) (t u r : Bool) (o : Option ℕ) → fits (length buffer) n f ≡ t → f.has_parent ≡ u → locator_rule item ≡ r → entry_of item key ≡ o
        → ((cond (t && u) (within f.locator.offset (cond r (value_at item o) nowhere)) nowhere).length ≡ 0)
        ↔ ((fits (length buffer) n f ≡ false) ⊎ ((f.has_parent ≡ false) ⊎ ((locator_rule item ≡ false) ⊎ (entry_of item key ≡ None))))
    go item false u r o a b c d = (λ e. inl a, λ v. refl)
    go item true false r o a b c d = (λ e. inr (inl b), λ v. refl)
    go item true true false o a b c d = (λ e. inr (inr (inl c)), λ v. refl)
    go item true true true None a b c d = (λ e. inr (inr (inr d)), λ v. refl)
    go item true true true (Some i) a b c d = (
      with-a-byte f.locator.offset (value_at item (Some i)) (value_found item key c d).not_empty,
      ⊎_elim (clash a) (⊎_elim (clash b) (⊎_elim (clash c) (found-not d))),
    )
