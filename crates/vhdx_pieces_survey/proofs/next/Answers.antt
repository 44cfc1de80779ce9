-- `vhdx_pieces_survey::next` meets its contract.
use mathlib.Core.Path.{sym, ap, ◌∙◌, subst}
use native.Mathlib.Omega.{arith}
use borrow.Author.Tests.{eq-eqb, ne_eqb}
use Rattle.vhdx_pieces_entry.proofs.Laws.{also}
use Rattle.vhdx_pieces_survey.specs.Touring.{fits, Opened, Onward}
use Rattle.vhdx_pieces_survey.proofs.Turns.{fitting, front-long, ring-short, inside-turn, header-turn, broken-turn}
use Rattle.vhdx_pieces_survey.proofs.Advancing.{opened-is, survey-advances}
use Rattle.vhdx_pieces_survey.proofs.next.Goals.{else-sectors-o-via-then-sectors-o+else-o, else-sectors-o-via-else-sectors-o}
use Rattle.vhdx_pieces_survey.proofs.next.Goals as goal

pub pass-requires : goal.pass-requires
pass-requires c = (c.requires.inside (omega (arith, c.if-t-ne0.true))).0

pub pass-requires-then-o : goal.pass-requires-then-o
pass-requires-then-o c =
    let a = c.args in
    let e = c.opened-o.ensures.0 in
    let f = fitting c.opened-o.result c.sectors.ensures c.if-sectors-o.true c.if-o.true in
    subst Opened (sym e) (opened-is a.t a.s.now c.requires.standing (sym (ap fits e) ∙ f))

pub returns-then-t-ne0 : goal.returns-then-t-ne0
returns-then-t-ne0 c =
    let a = c.args in
    also (Onward a.t.pos.len)
    (inside-turn a.log a.t a.s.now (ne_eqb _ _ c.if-t-ne0.true) c.pass.ensures)
    (survey-advances a.log a.t a.s.now c.requires).0

pub returns-then-o : goal.returns-then-o
returns-then-o c =
    let a = c.args in
    also (Onward a.t.pos.len)
    (header-turn a.log a.t a.s.now c.opened-o.result (eq-eqb _ _ c.if-t-ne0.false) c.opened-o.ensures.0
    (fitting c.opened-o.result c.sectors.ensures c.if-sectors-o.true c.if-o.true) c.pass-then-o.ensures)
    (survey-advances a.log a.t a.s.now c.requires).0

pub returns-else-sectors-o : goal.returns-else-sectors-o
returns-else-sectors-o c =
    let a = c.args in
    let broken = broken-turn a.log a.t a.s.now c.opened-o.result (eq-eqb _ _ c.if-t-ne0.false) c.opened-o.ensures.0 in (
      elim c.else-sectors-o.branch [
        | else-sectors-o-via-then-sectors-o+else-o w ↦ broken (ring-short c.opened-o.result w.if-o.false)
        | else-sectors-o-via-else-sectors-o w ↦ broken (front-long c.opened-o.result c.sectors.ensures w.if-sectors-o.false)
      ],
      tt,
    )
