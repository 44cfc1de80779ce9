-- `vhdx_entry::body::checksum` meets its contract: the state is that of the first k sectors, the checksum field as zero.
use mathlib.Core.Path.{◌≡◌}
use mathlib.Core.List.{List}
use Prim.Native.Nat.{ℕ, ◌*◌, ◌≤◌}
use lib.ListN.{take}
use Rattle.crc32c.specs.Crc.{ones, updates, zeroed}
use Rattle.vhdx_entry.specs.Ring.{ring, On}
use Rattle.vhdx_entry.proofs.body.checksum.Given as goal

-- the state of the first k sectors of the ring from sector s on
abbrev pub over : List ℕ → ℕ → ℕ → ℕ
over log s k = updates ones (zeroed (take (k * 4096) (ring log s)) 4)

abbrev pub invariant-loop-k : goal.invariant-loop-k
invariant-loop-k l = On l.log l.pos × (1 ≤ l.k) × (l.sectors ≤ l.pos.len) × (l.state ≡ over l.log l.pos.at l.k)
