-- `vhdx_entry::ring::RingPos::offset` meets its contract.
use mathlib.Core.Path.{ap}
use Prim.Native.Nat.{◌+◌, ◌*◌, ◌%◌}
use native.Mathlib.Omega.{arith}
use Rattle.vhdx_entry.specs.declared.ring.RingPos.{RingPos}
use Rattle.vhdx_entry.proofs.ring.RingPos.offset.Goals as goal

pub returns : goal.returns
returns c =
    let n = c.args.n in
    record { value = ap (λ (p : RingPos). p.at * 4096 + n % 4096) c.advance.ensures.value; sector_fits = omega (arith, c.advance.ensures.on_ring) }
