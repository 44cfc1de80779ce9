-- The first i keep their rule, and are counted. Assumes nothing.
use mathlib.Core.Path.{◌≡◌}
use mathlib.Core.Bool.{Bool, true}
use mathlib.Core.List.{List}
use Prim.Native.Nat.{ℕ, ◌+◌, ◌*◌, ◌≤◌}
use Rattle.decision.specs.Bounded.{every}
use Rattle.vhdx_entry.specs.Entry.{descriptor_rule}
use Rattle.vhdx_pieces_entry.specs.Sector.{descriptor_in, data_in}
use Rattle.vhdx_pieces_entry.proofs.sector.descriptors.Given as goal

-- The first i keep their rule, and are counted. Assumes nothing.
abbrev pub all_rules : List ℕ → ℕ → ℕ → ℕ → Bool
all_rules s from number i = descriptor_rule number (descriptor_in s from i)

abbrev pub invariant-loop-i : goal.invariant-loop-i
invariant-loop-i l =
    (l.from + 32 * l.m ≤ 4096)
    × (every l.i (all_rules l.s l.from l.number) ≡ true) × (l.found ≡ data_in l.s l.from l.i) × (l.found ≤ l.i)
