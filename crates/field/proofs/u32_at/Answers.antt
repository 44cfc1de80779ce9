-- `field::u32_at` meets its contract: two halves of 2 byte(s), by the law over the width.
use native.Mathlib.Omega.{arith}
use Rattle.field.proofs.Laws.{joined}
use Rattle.field.proofs.u32_at.Goals as goal

pub returns : goal.returns
returns c =
    let a = c.args in
    joined a.s.now a.at 2 (omega arith) c.u16_at.ensures c.u16_at-2.ensures
