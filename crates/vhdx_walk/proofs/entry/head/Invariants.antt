-- `vhdx_walk::entry::head` meets its contract. The loop's invariant: the entries still before it have the same head.
use mathlib.Core.Path.{◌≡◌}
use Prim.Native.Nat.{◌-◌}
use Rattle.vhdx_entry.specs.Ring.{On}
use Rattle.vhdx_walk.specs.Entries.{head}
use Rattle.vhdx_walk.specs.Bytes.{entries_from}
use Rattle.vhdx_walk.specs.Cursor.{AllReadable}
use Rattle.vhdx_walk.proofs.entry.head.Given as goal

abbrev pub invariant-loop : goal.invariant-loop
invariant-loop l =
    On l.log l.pos
    × AllReadable l.log l.pos.at (l.more - l.counter)
    × (head (entries_from l.log l.pos.at (l.more - l.counter)) ≡ head (entries_from l.log l.fn.first.at l.more))
