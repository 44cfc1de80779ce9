-- `vhdx_locator::entry_of` meets its contract: the closure is the test of `first`.
use Rattle.std.proofs.Common.{rules, ap, ◌∙◌, ℕ, ◌<◌}
use native.Mathlib.Omega.{arith}
use Rattle.std.proofs.lemmas.Iterator.{serves_from_Range}
use Rattle.decision.specs.Bounded.{first}
use Rattle.decision.proofs.Ranges.{first_from_find}
use Rattle.vhdx_locator.specs.Locator.{entry_count, has_key, entry_of}
use Rattle.vhdx_locator.proofs.Laws.{keeps, entry_inside, entry_kept}
use Rattle.vhdx_locator.proofs.entry_of.Goals as goal

pub count-requires : goal.count-requires
count-requires c = (keeps c.args.item.now c.requires).size

-- each number that `find` asks the test of is below the count
pub find-requires-clause-callable : goal.find-requires-clause-callable
find-requires-clause-callable c =
    let item = c.args.item.now in
    serves_from_Range
    (λ x q r. search rules)
    (λ x low below.
    let b : x < entry_count item = omega (arith, below, c.count.ensures) in
    let inside = entry_inside item x c.requires b in
    let kept = entry_kept item x c.requires b in
    search rules)

pub returns : goal.returns
unfolding entry_of
returns c =
    let test = has_key c.args.item.now c.args.key.now in
    first_from_find test c.count.result _ _ c.find.result c.find.ensures.ran (λ x b q k. search rules)
    ∙ ap (λ (n : ℕ). first n test) c.count.ensures
