-- `vhdx_map::bat::payload_entry` meets its contract: the entry is one that the BAT must hold.
use native.Mathlib.Omega.{arith}
use lib.ListN.{length}
use Rattle.vhdx_fit.proofs.Laws.{sizes-kept}
use Rattle.vhdx_map.specs.Lookup.{payload_of}
use Rattle.vhdx_map.proofs.Laws.{payload-needed}
use Rattle.vhdx_map.proofs.bat.payload_entry.Goals as goal

pub payload_index-requires : goal.payload_index-requires
payload_index-requires c =
    (sizes-kept (length c.args.image.now) c.args.facts c.requires.0, c.requires.1)

pub at-requires : goal.at-requires
at-requires c =
    let f = c.args.facts in
    (c.requires.0, omega (arith, payload-needed f c.args.sector (sizes-kept (length c.args.image.now) f c.requires.0) c.requires.1))

pub returns : goal.returns
unfolding payload_of
returns c = simp (c.at.ensures, c.payload_index.ensures)
