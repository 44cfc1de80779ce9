-- `vhdx_metadata::entry::is_known` meets its contract: it is known by the row that was found, unless it is a user item.
use mathlib.Core.Path.{sym, ◌∙◌}
use native.Mathlib.Omega.{arith}
use Rattle.vhdx_metadata.specs.Table.{is_known}
use Rattle.vhdx_metadata.proofs.Laws.{known-by-row}
use Rattle.vhdx_metadata.proofs.entry.is_known.Goals as goal

pub returns-then-not-is_user : goal.returns-then-not-is_user
returns-then-not-is_user c =
    simp (
      c.is_some.ensures,
      known-by-row c.args.e.now (omega arith) c.identifiers.ensures c.guid_at.ensures c.row.ensures,
      sym c.is_user.ensures ∙ c.if-not-is_user.true,
    )

pub returns-else-not-is_user : goal.returns-else-not-is_user
unfolding is_known
returns-else-not-is_user c =
    simp (c.if-not-is_user.false, sym c.is_user.ensures ∙ c.if-not-is_user.false)
