-- `vhdx_entry::ring::RingPos::advance` meets its contract.
use mathlib.Core.Path.{sym, ap}
use Prim.Native.Nat.{ℕ}
use native.Mathlib.Nat.{mod-eq_of_lt}
use native.Mathlib.Omega.{arith}
use Rattle.vhdx_entry.specs.declared.ring.RingPos.{RingPos}
use Rattle.vhdx_entry.proofs.ring.RingPos.advance.Goals as goal

pub returns-then-by-before_end-clause-value : goal.returns-then-by-before_end-clause-value
returns-then-by-before_end-clause-value c =
    ap {B = RingPos} (λ (x : ℕ). record { at = x; len = c.args.self.len }) (sym (mod-eq_of_lt (omega arith)))
