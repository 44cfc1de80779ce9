-- The turn may be handed in. The measure is how much may still be asked for.
use Rattle.vhdx_pieces.specs.Machines.{Kept, left_of}
use Rattle.list_writes.proofs.run.Given as goal

abbrev pub invariant-loop-bytes : goal.invariant-loop-bytes
invariant-loop-bytes g l = Kept l.state.turn

abbrev pub decreases-loop-bytes : goal.decreases-loop-bytes
decreases-loop-bytes g l = left_of l.state.turn
