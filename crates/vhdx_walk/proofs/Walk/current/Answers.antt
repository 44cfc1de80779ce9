-- `vhdx_walk::Walk::current` meets its contract.
use native.Mathlib.Omega.{arith}
use Rattle.vhdx_walk.proofs.Sectors.{at-end, at-sector}
use Rattle.vhdx_walk.proofs.Walk.current.Goals as goal

pub returns-then-self-lt4096-clause-next : goal.returns-then-self-lt4096-clause-next
returns-then-self-lt4096-clause-next c = at-end c.args.log.now c.args.self (omega (arith, c.if-self-lt4096.true)) c.requires.1

pub returns-clause-next : goal.returns-clause-next
returns-clause-next c = at-sector c.args.log.now c.args.self (omega (arith, c.if-self-lt4096.false))
