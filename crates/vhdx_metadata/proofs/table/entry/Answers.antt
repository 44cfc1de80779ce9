-- `vhdx_metadata::table::entry` meets its contract.
use Rattle.std.proofs.Common.{◌∙◌, ◌*◌, ◌+◌, take-take}
use native.Mathlib.Omega.{arith}
use lib.ListN.{drop}
use Rattle.vhdx_metadata.specs.Table.{entry}
use Rattle.vhdx_metadata.proofs.table.entry.Goals as goal

pub returns : goal.returns
unfolding entry
returns c = c.array_at.ensures ∙ take-take 32 _ (drop (32 + 32 * c.args.i) c.args.region.now) (omega arith)
