-- `vhdx_map::bit` meets its contract: the bitmap lies inside the image, and has a bit for each remainder by 2^23.
use native.Mathlib.Omega.{arith}
use lib.ListN.{length}
use Rattle.bitmap.specs.Bitmap.{bit}
use Rattle.vhdx_map.specs.Lookup.{bitmap_byte}
use Rattle.vhdx_map.proofs.Laws.{bitmap-inside}
use Rattle.vhdx_map.proofs.bit.Goals as goal

pub part-requires : goal.part-requires
part-requires c =
    omega (arith, bitmap-inside (length c.args.image.now) c.args.b c.requires)

pub bit-requires : goal.bit-requires
bit-requires c = omega (arith, c.part.ensures.len)

pub returns : goal.returns
unfolding bit bitmap_byte
returns c = simp (c.bit.ensures, c.part.ensures.bytes, c.offset.ensures)
