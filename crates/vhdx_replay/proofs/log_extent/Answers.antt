-- `vhdx_replay::log_extent` meets its contract: by the header that is read.
use mathlib.Core.Path.{sym, ap, ◌∙◌}
use Rattle.vhdx_replay.specs.Planned.{extent_by, log_extent}
use Rattle.vhdx_replay.proofs.log_extent.Goals as goal

pub returns-in-Err : goal.returns-in-Err
unfolding log_extent
returns-in-Err c = c.nowhere.ensures ∙ ap extent_by (sym c.in-Err.is ∙ c.read.ensures)

pub returns-in-Ok : goal.returns-in-Ok
unfolding log_extent
returns-in-Ok c = ap extent_by (sym c.in-Ok.is ∙ c.read.ensures)
