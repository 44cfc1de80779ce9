-- `bitmap::bit` meets its contract: it reads the byte and the bit in it that the definition names.
use Rattle.bitmap.specs.Bitmap.{bit}
use Rattle.bitmap.proofs.bit.Goals as goal

pub returns : goal.returns
unfolding bit
returns c = simp (c.bit_of.ensures, c.lowest_first.ensures.value, c.u8_at.ensures)
