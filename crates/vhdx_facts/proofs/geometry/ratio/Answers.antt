-- `vhdx_facts::geometry::ratio` meets its contract: a sector has at most 4,096 bytes; a shift by the logarithm divides.
use mathlib.Core.Path.{ap}
use Prim.Native.Nat.{ℕ, ◌*◌, ◌/◌, ◌^◌}
use native.Mathlib.Omega.{arith}
use Rattle.vhdx_facts.specs.Geometry.{ratio}
use Rattle.vhdx_facts.proofs.Laws.{sizes}
use Rattle.vhdx_facts.proofs.geometry.ratio.Goals as goal

pub overflow_mul-result : goal.overflow_mul-result
overflow_mul-result c = record { fits = omega (arith, sizes c.args.facts c.requires) }

pub returns : goal.returns
unfolding ratio
returns c =
    let f = c.args.facts in
    ap (λ (b : ℕ). 2 ^ 23 * f.logical_sector_size / b) (c.block_shift.ensures.power (sizes f c.requires).block_kept)
