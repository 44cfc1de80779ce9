-- `field::u64_at` meets its contract: two halves of 4 byte(s), by the law over the width.
use native.Mathlib.Omega.{arith}
use Rattle.field.proofs.Laws.{joined}
use Rattle.field.proofs.u64_at.Goals as goal

pub returns : goal.returns
returns c =
    let a = c.args in
    joined a.s.now a.at 4 (omega arith) c.u32_at.ensures c.u32_at-2.ensures
