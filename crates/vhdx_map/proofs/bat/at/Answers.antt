-- `vhdx_map::bat::at` meets its contract: the BAT region lies inside the image and holds every needed entry.
use native.Mathlib.Omega.{arith}
use lib.ListN.{length}
use Rattle.vhdx_fit.proofs.Laws.{sizes-kept, bat-inside, bat-long-enough}
use Rattle.vhdx_facts.proofs.Laws.{counts}
use Rattle.vhdx_map.specs.Lookup.{bat_entry}
use Rattle.vhdx_map.proofs.bat.at.Goals as goal

pub part-requires : goal.part-requires
part-requires c =
    bat-inside (length c.args.image.now) c.args.facts c.requires.0

pub overflow_mul-i : goal.overflow_mul-i
overflow_mul-i c =
    let f = c.args.facts in
    record { fits = omega (arith, c.requires.1, counts f (sizes-kept (length c.args.image.now) f c.requires.0)) }

pub u64_at-requires : goal.u64_at-requires
u64_at-requires c =
    omega (arith, c.requires.1, c.part.ensures.len, bat-long-enough (length c.args.image.now) c.args.facts c.requires.0)

pub returns : goal.returns
unfolding bat_entry
returns c = simp (c.u64_at.ensures, c.part.ensures.bytes)
