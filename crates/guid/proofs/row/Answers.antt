-- `guid::row` meets its contract: the closure is the test of `row_of`.
use Rattle.std.proofs.Common.{rules, nat_eq, length}
use Rattle.decision.proofs.Ranges.{first_from_find}
use Rattle.field.specs.Fields.{number}
use Rattle.guid.specs.Stored.{identifier_in, row_of}
use Rattle.guid.proofs.row.Goals as goal

pub returns : goal.returns
unfolding row_of
returns c =
    first_from_find (λ k. nat_eq (identifier_in c.args.table.now k) (number c.args.id)) (length c.args.table.now) _ _ c.find.result c.find.ensures.ran (λ x b q k. search rules)
