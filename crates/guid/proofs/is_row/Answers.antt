-- `guid::is_row` meets its contract.
use Rattle.guid.specs.Stored.{identifier_in}
use borrow.Author.Rules.{rules}
use Rattle.guid.proofs.is_row.Goals as goal

pub returns : goal.returns
unfolding identifier_in
returns c = search rules
