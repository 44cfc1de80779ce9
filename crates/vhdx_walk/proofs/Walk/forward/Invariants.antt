-- `vhdx_walk::Walk::forward` meets its contract: what is left behind k sectors is what is left behind `left` sectors of the present walk.
use mathlib.Core.Path.{◌≡◌}
use Prim.Native.Nat.{◌+◌}
use lib.ListN.{length, drop}
use Rattle.vhdx_walk.specs.Cursor.{descriptors_left}
use Rattle.vhdx_walk.specs.Walk.{sectors_left, Ready}
use Rattle.vhdx_walk.proofs.Walk.forward.Given as goal

abbrev pub invariant-loop-walk : goal.invariant-loop-walk
invariant-loop-walk l = Ready l.log l.walk × (drop l.left (sectors_left l.log l.walk) ≡ drop l.k (sectors_left l.log l.initial.walk))

abbrev pub decreases-loop-walk : goal.decreases-loop-walk
decreases-loop-walk l = length (descriptors_left l.log l.walk.cursor) + l.walk.cursor.left
