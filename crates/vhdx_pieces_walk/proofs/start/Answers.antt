-- `vhdx_pieces_walk::start` meets its contract.
use mathlib.Core.Path.{refl}
use native.Mathlib.Omega.{arith}
use borrow.Author.Tests.{eq-eqb, ne_eqb}
use Rattle.vhdx_pieces_walk.proofs.Turns.{header-standing}
use Rattle.vhdx_pieces_walk.proofs.start.Goals as goal

pub returns-then-left-eq0 : goal.returns-then-left-eq0
returns-then-left-eq0 c = (simp (eq-eqb _ _ c.if-left-eq0.true), λ _. tt)

pub returns : goal.returns
returns c =
    let a = c.args in
    let p = c.requires in
    (simp (ne_eqb _ _ c.if-left-eq0.false), λ _. (header-standing a.pos a.left (p.0 (omega (arith, c.if-left-eq0.false))) p.1 (omega (arith, c.if-left-eq0.false)) p.2, refl))
