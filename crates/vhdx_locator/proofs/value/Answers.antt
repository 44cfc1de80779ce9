-- `vhdx_locator::value` meets its contract: an entry that is found is one of those that the rule speaks of.
use Rattle.std.proofs.Common.{rules, arith, ◌≡◌, sym, ◌∙◌, ℕ, ◌+◌, ◌≤◌, length, List, Option, None, Some, MatchOption}
use Rattle.extent.specs.declared.Extent.{Extent}
use Rattle.extent.specs.Extent.{nowhere}
use Rattle.vhdx_locator.specs.Locator.{entry_start, value_at, value_of}
use Rattle.vhdx_locator.proofs.Laws.{keeps, entry_found}
use Rattle.vhdx_locator.proofs.value.Goals as goal

pub returns-then-not-keeps_rule : goal.returns-then-not-keeps_rule
unfolding value_of
returns-then-not-keeps_rule c =
    simp (c.nowhere.ensures, sym c.keeps_rule.ensures ∙ c.if-not-keeps_rule.true)

pub entry_of-requires : goal.entry_of-requires
entry_of-requires c = sym c.keeps_rule.ensures ∙ c.if-not-keeps_rule.false

pub map_or-requires : goal.map_or-requires
map_or-requires c =
    let item = c.args.item.now in
    let kept = keeps item (sym c.keeps_rule.ensures ∙ c.if-not-keeps_rule.false) in
    let inside : (i : ℕ) → c.entry_of.result ≡ Some i → entry_start (i + 1) ≤ length item = λ i e. omega (arith, kept, entry_found item c.args.key.now (sym c.entry_of.ensures ∙ e)) in
    search (rules, inside)

-- what `map_or` gives, where the closure is `value`
at : {P : ℕ → Type 0} (item : List ℕ) (o : Option ℕ) (v : Extent) → MatchOption o (v ≡ nowhere) P → ((i : ℕ) → P i → v ≡ value_at item (Some i)) → v ≡ value_at item o
at item None v d f = d
at item (Some i) v d f = f i d

pub returns : goal.returns
unfolding value_of
returns c =
    let item = c.args.item.now in
    let found : c.map_or.result ≡ value_at item c.entry_of.result = at item c.entry_of.result c.map_or.result (rw c.nowhere-2.ensures at c.map_or.ensures) (λ i p. search rules) in
    simp (found, c.entry_of.ensures, sym c.keeps_rule.ensures ∙ c.if-not-keeps_rule.false)
