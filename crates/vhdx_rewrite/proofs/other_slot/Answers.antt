-- `vhdx_rewrite::other_slot` meets its contract.
use mathlib.Core.Path.{sym, ap}
use mathlib.Core.Bool.{Bool, cond}
use borrow.Author.Tests.{eq-eqb, ne_eqb}
use Prim.Native.Nat.{ℕ}
use Rattle.vhdx_rewrite.proofs.other_slot.Goals as goal

pub returns-then-slot-eq65536 : goal.returns-then-slot-eq65536
returns-then-slot-eq65536 c = ap (λ (t : Bool). cond {A = ℕ} t 131072 65536) (sym (eq-eqb _ _ c.if-slot-eq65536.true))

pub returns-else-slot-eq65536 : goal.returns-else-slot-eq65536
returns-else-slot-eq65536 c = ap (λ (t : Bool). cond {A = ℕ} t 131072 65536) (sym (ne_eqb _ _ c.if-slot-eq65536.false))
