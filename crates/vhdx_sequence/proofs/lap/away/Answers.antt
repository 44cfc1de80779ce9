-- `vhdx_sequence::lap::away` meets its contract.
use mathlib.Core.Path.{sym}
use native.Mathlib.Nat.{mod-eq_of_lt}
use native.Mathlib.Omega.{arith}
use Rattle.vhdx_entry.proofs.Laws.{mod-round}
use Rattle.vhdx_sequence.proofs.lap.away.Goals as goal

pub returns-then-from-to : goal.returns-then-from-to
returns-then-from-to c = sym (mod-round _ _ _ (omega arith) (omega arith))

pub returns-else-from-to : goal.returns-else-from-to
returns-else-from-to c = sym (mod-eq_of_lt (omega arith))
