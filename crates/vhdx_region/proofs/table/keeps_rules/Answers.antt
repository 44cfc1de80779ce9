-- `vhdx_region::table::keeps_rules` meets its contract: the closure is the rule of an entry.
use Rattle.std.proofs.Common.{rules, ◌∙◌, ap}
use Rattle.decision.specs.Bounded.{every}
use Rattle.decision.proofs.Ranges.{every_from_all}
use Rattle.vhdx_region.specs.Region.{entry_rule, entries_rule}
use Rattle.vhdx_region.proofs.table.keeps_rules.Goals as goal

pub returns : goal.returns
unfolding entries_rule
returns c =
    let a = c.args in
    let rule = entry_rule a.length a.log a.t.now in
    every_from_all rule c.count.result _ _ c.all.result c.all.ensures.ran (λ x b q k. search rules)
    ∙ ap (λ n. every n rule) c.count.ensures.0
