-- `vhdx_metadata::table::find` meets its contract: the closure is the test of `first`.
use Rattle.std.proofs.Common.{rules, ap, ◌∙◌, ℕ}
use Rattle.decision.specs.Bounded.{first}
use Rattle.decision.proofs.Ranges.{first_from_find}
use Rattle.vhdx_metadata.specs.Table.{entry}
use Rattle.vhdx_metadata.specs.Items.{is_item, entry_of}
use Rattle.vhdx_metadata.proofs.table.find.Goals as goal

pub returns : goal.returns
unfolding entry_of
returns c =
    let test = λ (i : ℕ). is_item c.args.row (entry c.args.region.now i) in
    first_from_find test c.count.result _ _ c.find.result c.find.ensures.ran (λ x b q k. search rules)
    ∙ ap (λ (n : ℕ). first n test) c.count.ensures.0
