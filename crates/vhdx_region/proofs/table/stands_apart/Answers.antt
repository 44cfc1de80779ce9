-- `vhdx_region::table::stands_apart` meets its contract: the closure is the rule of two entries.
use Rattle.std.proofs.Common.{rules}
use Rattle.decision.proofs.Ranges.{every_from_all}
use Rattle.vhdx_region.specs.Region.{entry, pair_rule}
use Rattle.vhdx_region.proofs.table.stands_apart.Goals as goal

pub returns : goal.returns
returns c =
    let a = c.args in
    every_from_all (λ j. pair_rule (entry a.t.now j) (entry a.t.now a.i)) a.i _ _ c.all.result c.all.ensures.ran (λ x b q k. search rules)
