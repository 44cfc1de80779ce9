-- `vhdx_walk::Walk::forward` meets its contract: what is left behind k sectors is what is left behind `left` sectors of the present walk.
use mathlib.Core.Path.{◌≡◌, refl, sym, ◌∙◌, subst}
use lib.ListN.{drop}
use Rattle.vhdx_walk.specs.declared.Walk.{Walk}
use Rattle.vhdx_walk.specs.Walk.{sectors_left, Ready, Settled, walk_from, Following}
use Rattle.vhdx_walk.proofs.Sectors.{from-ready, all-passed, past-run, settled-end, settled-sector, left-from}
use borrow.Author.Rules.{rules}
use Rattle.vhdx_walk.proofs.Walk.forward.Goals as goal

pub loop-walk-init : goal.loop-walk-init
loop-walk-init c = (c.requires, refl)

pub load-requires : goal.load-requires
load-requires c = search rules

pub returns-in_default : goal.returns-in_default
returns-in_default c =
    let a = c.args in
    let none = subst (Following a.log.now c.loop-walk.walk.cursor) c.in_default.is c.load.ensures in
    let parts = subst (λ (v : Walk). Ready a.log.now v × ((sectors_left a.log.now v ≡ drop a.k (sectors_left a.log.now a.self)) × Settled a.log.now v)) (sym c.from.ensures) (
      from-ready a.log.now c.loop-walk.walk.cursor c.loop-walk.invariant.0.placed c.loop-walk.invariant.0.bounded,
      (all-passed a.log.now c.loop-walk.walk c.loop-walk.invariant.1 c.loop-walk-test.true none, settled-end a.log.now (walk_from c.loop-walk.walk.cursor) (left-from a.log.now c.loop-walk.walk.cursor ∙ none)),
    ) in
    record { ready = parts.0; rest = parts.1 }

pub loop-walk-smaller : goal.loop-walk-smaller
loop-walk-smaller c =
    let a = c.args in
    (subst (Following a.log.now c.loop-walk.walk.cursor) c.in-Some.is c.load.ensures).2

pub loop-walk-preserved : goal.loop-walk-preserved
loop-walk-preserved c =
    let a = c.args in
    let some = subst (Following a.log.now c.loop-walk.walk.cursor) c.in-Some.is c.load.ensures in
    (some.1, past-run a.log.now c.loop-walk.walk c.loop-walk.left c.loop-walk-test.true some.0 ∙ c.loop-walk.invariant.1)

pub returns : goal.returns
returns c =
    let a = c.args in
    record { ready = c.within.ensures.ready; rest = (c.within.ensures.rest.0 ∙ c.loop-walk.invariant.1, settled-sector a.log.now c.within.result c.within.ensures.rest.1) }
