-- `crc32c::checksum` meets its contract, by those of `update` and `finish`.
use mathlib.Core.Path.{ap, ◌∙◌}
use Prim.Native.Nat.{ℕ}
use lib.Bits.{bit_xor}
use Rattle.crc32c.specs.Crc.{ones, crc}
use Rattle.crc32c.proofs.checksum.Goals as goal

pub returns : goal.returns
unfolding crc
returns c = c.finish.ensures ∙ ap (λ (s : ℕ). bit_xor s ones) c.update.ensures
