-- `crc32c::step` meets its contract: a byte's step by one look-up.
use mathlib.Core.Path.{ap, ◌∙◌}
use Prim.Native.Nat.{ℕ, ◌/◌, ◌%◌}
use native.Mathlib.Nat.{mod-lt}
use lib.Bits.{bit_xor}
use lib.Dec.{lit<}
use Rattle.crc32c.proofs.Laws.{byte-is}
use Rattle.crc32c.proofs.step.Goals as goal

pub returns : goal.returns
returns c =
    let a = c.args in
    let x = bit_xor a.state a.b in
    ap (λ (y : ℕ). bit_xor y (x / 256)) (c.entries.ensures (x % 256) (mod-lt x (lit< tt))) ∙ byte-is a.state a.b
