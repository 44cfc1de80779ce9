-- `vhdx_map::sector::payload_index` meets its contract: there are not too many blocks.
use native.Mathlib.Omega.{arith}
use Rattle.vhdx_facts.specs.Geometry.{block_entry}
use Rattle.vhdx_map.specs.Lookup.{payload_index}
use Rattle.vhdx_map.proofs.Laws.{block-small, chunk_of, chunk_small}
use Rattle.vhdx_map.proofs.sector.payload_index.Goals as goal

pub overflow_add-result : goal.overflow_add-result
overflow_add-result c =
    let f = c.args.facts in
    let k = c.args.sector in
    record { fits = omega (arith, c.block.ensures, block-small f k c.requires.0 c.requires.1, chunk_of f k c.requires.0 c.requires.1, chunk_small f k c.requires.0 c.requires.1) }

pub returns : goal.returns
unfolding payload_index block_entry
returns c =
    simp (chunk_of c.args.facts c.args.sector c.requires.0 c.requires.1, c.block.ensures)
