-- `vhdx_sequence::active` meets its contract. The invariant of its loop: the scan has come to the place in the sense of
use Prim.Native.Nat.{◌+◌, ◌-◌}
use Rattle.vhdx_entry.specs.Ring.{sector_count}
use Rattle.vhdx_sequence.proofs.Turn.{Scanned}
use Rattle.vhdx_sequence.proofs.active.Given as goal

-- `Scanned`. The measure: what is left of two laps.
abbrev pub invariant-loop-guid : goal.invariant-loop-guid
invariant-loop-guid l = Scanned l.log l.guid l.place l.trace

abbrev pub decreases-loop-guid : goal.decreases-loop-guid
decreases-loop-guid l = (sector_count l.log + sector_count l.log) - l.place.count
