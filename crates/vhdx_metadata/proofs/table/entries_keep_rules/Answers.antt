-- `vhdx_metadata::table::entries_keep_rules` meets its contract: the closure is the test of `every`.
use Rattle.std.proofs.Common.{rules, ap, ◌∙◌, ℕ}
use Rattle.decision.specs.Bounded.{every}
use Rattle.decision.proofs.Ranges.{every_from_all}
use Rattle.vhdx_metadata.specs.Table.{entry_rule, entries_rule}
use Rattle.vhdx_metadata.proofs.table.entries_keep_rules.Goals as goal

pub returns : goal.returns
unfolding entries_rule
returns c =
    let test = entry_rule c.args.region.now in
    every_from_all test c.count.result _ _ c.all.result c.all.ensures.ran (λ x b q k. search rules)
    ∙ ap (λ (n : ℕ). every n test) c.count.ensures.0
