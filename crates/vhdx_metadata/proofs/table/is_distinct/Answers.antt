-- `vhdx_metadata::table::is_distinct` meets its contract: the closure is the test of `every`.
use Rattle.std.proofs.Common.{rules, ap, ◌∙◌, ℕ, List}
use Rattle.decision.specs.Bounded.{every}
use Rattle.decision.proofs.Ranges.{every_from_all}
use Rattle.vhdx_metadata.specs.Table.{entry, unique_rule}
use Rattle.vhdx_metadata.proofs.table.is_distinct.Goals as goal

pub returns : goal.returns
returns c =
    let test = λ (e : List ℕ) (j : ℕ). unique_rule (entry c.args.region.now j) e in
    every_from_all (test c.entry-e.result.now) c.args.i _ _ c.all.result c.all.ensures.ran (λ x b q k. search rules)
    ∙ ap (λ (e : List ℕ). every c.args.i (test e)) c.entry-e.ensures
