-- `vhdx_map::offset` meets its contract: the sector starts inside its block, and that ends below 2^64.
use native.Mathlib.Omega.{arith}
use Rattle.vhdx_map.proofs.Laws.{into-block-below}
use Rattle.vhdx_map.proofs.offset.Goals as goal

pub overflow_add-result : goal.overflow_add-result
overflow_add-result c =
    record { fits = omega (arith, c.requires.2, into-block-below c.args.facts c.args.sector c.requires.0 c.requires.1) }

pub returns : goal.returns
returns c = rw (c.into_block.ensures, c.offset.ensures)
