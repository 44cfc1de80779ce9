-- `vhdx_walk::Walk::within` meets its contract.
use mathlib.Core.Path.{refl}
use native.Mathlib.Omega.{arith}
use Rattle.vhdx_walk.proofs.Sectors.{within-left}
use Rattle.vhdx_walk.proofs.Walk.within.Goals as goal

pub returns-clause-rest : goal.returns-clause-rest
returns-clause-rest c =
    let a = c.args in
    (within-left a.log.now a.self a.j c.requires.1 refl, omega (arith, c.requires.1))
