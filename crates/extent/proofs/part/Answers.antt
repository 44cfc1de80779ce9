-- `extent::part` meets its contract.
use mathlib.Core.Path.{◌≡◌, ap}
use Prim.Native.Nat.{ℕ, ◌+◌}
use native.Mathlib.Omega.{arith}
use Rattle.extent.specs.Extent.{part}
use Rattle.extent.proofs.Parts.{part-taken}
use Rattle.extent.proofs.part.Goals as goal

pub returns : goal.returns
unfolding part
returns c =
    let a = c.args in
    let taken = part-taken a.bytes.now a.e.offset a.e.length (omega arith) in
    let start : ◌≡◌ {A = ℕ} (a.e.offset + a.bytes.ref_ptr.1) (a.bytes.ref_ptr.1 + a.e.offset) = omega arith in
    record { bytes = taken.0; len = taken.1; place = ap (λ (x : ℕ). (a.bytes.ref_ptr.0, x)) start }
