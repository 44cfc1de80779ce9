-- `vhdx_map::bat::bitmap_entry` meets its contract: the entry is one that the BAT must hold.
use native.Mathlib.Omega.{arith}
use lib.ListN.{length}
use Rattle.vhdx_fit.proofs.Laws.{sizes-kept}
use Rattle.vhdx_map.specs.Lookup.{bitmap_of}
use Rattle.vhdx_map.proofs.Laws.{bitmap-needed}
use Rattle.vhdx_map.proofs.bat.bitmap_entry.Goals as goal

pub bitmap_index-requires : goal.bitmap_index-requires
bitmap_index-requires c =
    (sizes-kept (length c.args.image.now) c.args.facts c.requires.0, c.requires.1)

pub at-requires : goal.at-requires
at-requires c =
    let f = c.args.facts in
    (c.requires.0, omega (arith, bitmap-needed f c.args.sector (sizes-kept (length c.args.image.now) f c.requires.0) c.requires.1))

pub returns : goal.returns
unfolding bitmap_of
returns c = simp (c.at.ensures, c.bitmap_index.ensures)
