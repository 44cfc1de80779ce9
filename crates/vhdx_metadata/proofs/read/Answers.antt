-- `vhdx_metadata::read` meets its contract: the tests are the definition's, in its order.
use mathlib.Core.Path.{sym, ◌∙◌}
use Rattle.vhdx_metadata.proofs.Laws.{holds-table}
use Rattle.vhdx_metadata.proofs.read.Goals as goal

pub needed_are_there-requires : goal.needed_are_there-requires
needed_are_there-requires c =
    let kept = sym c.keeps_rules.ensures ∙ c.if-not-keeps_rules.false in
    (holds-table c.args.region.now kept c.requires, kept)

pub contents-requires : goal.contents-requires
contents-requires c = (
  c.requires,
  sym c.keeps_rules.ensures ∙ c.if-not-keeps_rules.false,
  sym c.needed_are_there.ensures ∙ c.if-not-needed_are_there.false,
)
