-- `field::u8_at` meets its contract.
use mathlib.Core.Path.{sym}
use native.Mathlib.Omega.{arith}
use borrow.Author.Rules.{rules}
use Rattle.field.proofs.Laws.{field-one}
use Rattle.field.proofs.u8_at.Goals as goal

pub bounds-s-at : goal.bounds-s-at
bounds-s-at c = search rules

pub returns : goal.returns
returns c = sym (field-one c.args.s.now c.args.at (omega arith))
