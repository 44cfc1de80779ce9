-- `vhdx_map::sector::block` meets its contract: the sector starts inside the disk, so no product wraps; a shift by the logarithm divides.
use mathlib.Core.Path.{ap}
use Prim.Native.Nat.{ℕ, ◌*◌, ◌/◌}
use Rattle.vhdx_facts.proofs.Laws.{sizes}
use Rattle.vhdx_map.specs.Lookup.{block_of}
use Rattle.vhdx_map.proofs.Laws.{start_small}
use Rattle.vhdx_map.proofs.sector.block.Goals as goal

pub overflow_mul-result : goal.overflow_mul-result
overflow_mul-result c = record { fits = start_small c.args.facts c.args.sector c.requires.0 c.requires.1 }

pub returns : goal.returns
unfolding block_of
returns c =
    let a = c.args in
    ap (λ (b : ℕ). a.sector * a.facts.logical_sector_size / b) (c.block_shift.ensures.power (sizes a.facts c.requires.0).block_kept)
