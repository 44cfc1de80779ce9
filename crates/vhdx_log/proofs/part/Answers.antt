-- `vhdx_log::part` meets its contract: the slice is the log that the header names.
use native.Mathlib.Omega.{arith}
use Rattle.vhdx_log.proofs.Answering.{log-part, log-inside}
use Rattle.vhdx_log.proofs.part.Goals as goal

pub overflow_add-end : goal.overflow_add-end
overflow_add-end c = let a = c.args in let i = log-inside a.buffer.now a.length a.header c.requires in omega arith

pub slice_bounds-result-end : goal.slice_bounds-result-end
slice_bounds-result-end c = let a = c.args in let i = log-inside a.buffer.now a.length a.header c.requires in omega arith

pub returns : goal.returns
returns c = let a = c.args in log-part a.buffer.now a.header
