-- `vhdx_log::log` meets its contract.
use mathlib.Core.Path.{sym, ◌∙◌}
use Rattle.vhdx_log.proofs.Answering.{log-none, log_is}
use Rattle.vhdx_log.proofs.log.Goals as goal

pub part-requires : goal.part-requires
part-requires c = sym c.read.ensures ∙ c.in-Ok.is

pub returns-in-Err : goal.returns-in-Err
returns-in-Err c = log-none c.args.buffer.now c.args.length (sym c.read.ensures ∙ c.in-Err.is)

pub returns-in-Ok : goal.returns-in-Ok
returns-in-Ok c = c.part.ensures ∙ log_is c.args.buffer.now c.args.length (sym c.read.ensures ∙ c.in-Ok.is)
