-- `vhdx_replay::store::zeros` meets its contract. The invariant: zeros are stored up to `at`.
use mathlib.Core.Path.{◌≡◌}
use Prim.Native.Nat.{◌-◌}
use lib.ListN.{length, replicate}
use lib.Seq.{paste}
use Rattle.vhdx_replay.proofs.store.zeros.Given as goal

abbrev pub invariant-loop-at : goal.invariant-loop-at
invariant-loop-at l = (length l.buffer ≡ length l.initial.buffer) × (l.buffer ≡ paste l.initial.buffer l.from (replicate (l.to - l.from) 0) (l.at - l.from))
