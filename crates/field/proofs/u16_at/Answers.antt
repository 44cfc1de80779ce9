-- `field::u16_at` meets its contract: two halves of 1 byte(s), by the law over the width.
use native.Mathlib.Omega.{arith}
use Rattle.field.proofs.Laws.{joined}
use Rattle.field.proofs.u16_at.Goals as goal

pub returns : goal.returns
returns c =
    let a = c.args in
    joined a.s.now a.at 1 (omega arith) c.u8_at.ensures c.u8_at-2.ensures
