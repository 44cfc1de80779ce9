-- `vhdx_entry::body::data_descriptors` meets its contract: the first i keep their rule, and are counted.
use mathlib.Core.Path.{◌≡◌}
use mathlib.Core.Bool.{Bool, true}
use mathlib.Core.List.{List}
use Prim.Native.Nat.{ℕ, ◌≤◌, ◌<◌}
use lib.ListN.{length}
use Rattle.decision.specs.Bounded.{every}
use Rattle.vhdx_entry.specs.Ring.{ring, On}
use Rattle.vhdx_entry.specs.Entry.{descriptor, descriptor_start, descriptor_rule, data_before}
use Rattle.vhdx_entry.proofs.body.data_descriptors.Given as goal

abbrev pub all_rules : List ℕ → ℕ → ℕ → ℕ → Bool
all_rules log s number i = descriptor_rule number (descriptor (ring log s) i)

abbrev pub invariant-loop-i : goal.invariant-loop-i
invariant-loop-i l =
    On l.log l.pos × (descriptor_start l.count ≤ length l.log) × (l.count < 4294967296)
    × (every l.i (all_rules l.log l.pos.at l.number) ≡ true) × (l.found ≡ data_before (ring l.log l.pos.at) l.i) × (l.found ≤ l.i)
