-- `vhdx_facts::geometry::bat_keeps_rule` meets its contract: eight times the entries are fewer than 2^64.
use native.Mathlib.Omega.{arith}
use Rattle.vhdx_facts.specs.Geometry.{bat_rule}
use Rattle.vhdx_facts.proofs.Laws.{counts}
use Rattle.vhdx_facts.proofs.geometry.bat_keeps_rule.Goals as goal

pub overflow_mul-result : goal.overflow_mul-result
overflow_mul-result c =
    record { fits = omega (arith, counts c.args.facts c.requires) }

pub returns : goal.returns
unfolding bat_rule
returns c = rw c.needed_entries.ensures
