-- `vhdx_metadata::entry::is_item` meets its contract.
use mathlib.Core.Path.{sym, ◌∙◌}
use native.Mathlib.Omega.{arith}
use Rattle.vhdx_metadata.specs.Known.{known_items}
use Rattle.field.proofs.Laws.{number_at}
use Rattle.vhdx_metadata.proofs.entry.is_item.Goals as goal

pub is_row-requires : goal.is_row-requires
unfolding known_items
is_row-requires c = rw c.identifiers.ensures (omega arith)

pub returns-then-not-is_user : goal.returns-then-not-is_user
returns-then-not-is_user c =
    simp (
      c.is_row.ensures,
      c.guid_at.ensures,
      c.identifiers.ensures,
      sym c.is_user.ensures ∙ c.if-not-is_user.true,
      ← number_at c.args.e.now 0 (omega arith),
    )
