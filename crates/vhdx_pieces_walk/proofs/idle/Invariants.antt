-- `vhdx_pieces_walk::idle` meets its contract.
use mathlib.Core.Path.{◌≡◌}
use Prim.Native.Nat.{◌+◌, ◌-◌}
use Rattle.vhdx_pieces_walk.specs.Walking.{idle_from}
use Rattle.vhdx_pieces_walk.proofs.idle.Given as goal

abbrev pub invariant-loop-i : goal.invariant-loop-i
invariant-loop-i l = l.i + idle_from l.s l.from l.i (l.m - l.i) ≡ idle_from l.s l.from 0 l.m
