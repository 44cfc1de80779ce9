-- `vhdx_locator::entries_keep_rule` meets its contract: the closure is the test of `every`.
use Rattle.std.proofs.Common.{rules, arith, ◌≡◌, length}
use borrow.Author.Tests.{le-leb}
use Rattle.decision.specs.Bounded.{every}
use Rattle.decision.proofs.Ranges.{every_from_all}
use Rattle.vhdx_locator.specs.Locator.{entry_start, entry_rule}
use Rattle.vhdx_locator.proofs.entries_keep_rule.Goals as goal

pub returns-then-count-item : goal.returns-then-count-item
returns-then-count-item c =
    let item = c.args.item.now in
    let all : c.all.result ≡ every c.count-count.result (λ i. entry_rule item i) = every_from_all (λ i. entry_rule item i) c.count-count.result _ _ c.all.result c.all.ensures.ran (λ x b q k. search rules) in
    simp (all, ← c.count-count.ensures, le-leb (entry_start c.count-count.result) (length item) (omega arith))
