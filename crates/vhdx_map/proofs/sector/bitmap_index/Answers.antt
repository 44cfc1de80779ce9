-- `vhdx_map::sector::bitmap_index` meets its contract: there are not too many chunks.
use native.Mathlib.Omega.{arith}
use Rattle.vhdx_facts.proofs.Laws.{counts}
use Rattle.vhdx_map.specs.Lookup.{bitmap_index}
use Rattle.vhdx_map.proofs.Laws.{chunk_of, chunk_small}
use Rattle.vhdx_map.proofs.sector.bitmap_index.Goals as goal

pub bitmap_entry-requires : goal.bitmap_entry-requires
bitmap_entry-requires c =
    let f = c.args.facts in
    let k = c.args.sector in
    (omega (arith, c.ratio.ensures, counts f c.requires.0), omega (arith, chunk_of f k c.requires.0 c.requires.1, chunk_small f k c.requires.0 c.requires.1))

pub returns : goal.returns
unfolding bitmap_index
returns c =
    simp (
      chunk_of c.args.facts c.args.sector c.requires.0 c.requires.1,
      c.bitmap_entry.ensures,
      c.ratio.ensures,
    )
