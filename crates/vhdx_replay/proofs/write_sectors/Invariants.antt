-- `vhdx_replay::write_sectors` meets its contract: what is left, written from here, gives what all of them give.
use Rattle.vhdx_replay.proofs.Loop.{Going}
use Rattle.vhdx_replay.proofs.write_sectors.Given as goal

abbrev pub invariant-loop : goal.invariant-loop
invariant-loop l = Going l.initial.buffer l.log l.initial.walk l.count l.buffer l.walk l.counter
