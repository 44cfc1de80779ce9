-- `vhdx_metadata::item::needed_are_there` meets its contract.
use mathlib.Core.Path.{sym, ◌∙◌}
use native.Mathlib.Omega.{arith}
use Rattle.decision.proofs.Laws.{every-at}
use Rattle.vhdx_metadata.specs.Items.{is_there}
use Rattle.vhdx_metadata.proofs.Laws.{table_kept}
use Rattle.vhdx_metadata.proofs.item.needed_are_there.Goals as goal

pub five_are_there-requires : goal.five_are_there-requires
five_are_there-requires c =
    (omega arith, table_kept c.args.region.now c.requires.1)

pub has_parent-requires : goal.has_parent-requires
has_parent-requires c =
    let five = sym c.five_are_there.ensures ∙ c.if-five_are_there.true in
    (omega arith, c.requires.1, every-at (is_there c.args.region.now) 5 0 five (omega arith))

pub is_there-requires : goal.is_there-requires
is_there-requires c =
    (omega arith, table_kept c.args.region.now c.requires.1, omega arith)
