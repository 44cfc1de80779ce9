-- `vhdx_region::table::find` meets its contract: the closure is the test of `entry_of`.
use Rattle.std.proofs.Common.{rules, ◌∙◌, ap}
use Rattle.decision.specs.Bounded.{first}
use Rattle.decision.proofs.Ranges.{first_from_find}
use Rattle.vhdx_region.proofs.Entries.{identified, is_of}
use Rattle.vhdx_region.specs.Region.{entry_of}
use Rattle.vhdx_region.proofs.table.find.Goals as goal

pub returns : goal.returns
unfolding entry_of
returns c =
    let a = c.args in
    first_from_find (is_of a.t.now a.row) c.count.result _ _ c.find.result c.find.ensures.ran (λ x b q k. search (rules, identified))
    ∙ ap (λ n. first n (is_of a.t.now a.row)) c.count.ensures.0
