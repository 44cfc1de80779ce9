-- `vhdx_sequence::active` meets its contract. The invariant of its loop: the scan has come to the place in the sense of
use mathlib.Core.Path.{sym, ap, ◌∙◌}
use native.Mathlib.Omega.{arith}
use Rattle.vhdx_sequence.specs.declared.lap.Place.{Place}
use Rattle.vhdx_sequence.proofs.Turn.{begun, within, finished, turn-empty, turn-valid, sized-here, takes}
use Rattle.vhdx_sequence.proofs.active.Goals as goal

pub loop-guid-init : goal.loop-guid-init
loop-guid-init c = begun c.requires.0 c.requires.1 c.new-trace.ensures.state c.new-trace.ensures.start.0 c.new-trace.ensures.start.1

pub read-requires : goal.read-requires
read-requires c =
    -- the place is on one of two laps, and its position is one of the log's ring
    let turn = within c.loop-guid.invariant (sym c.goes_on.ensures ∙ c.loop-guid-test.true) in
    turn.1

pub take-trace-requires : goal.take-trace-requires
take-trace-requires c =
    -- the place is on one of two laps, and its position is one of the log's ring
    let turn = within c.loop-guid.invariant (sym c.goes_on.ensures ∙ c.loop-guid-test.true) in
    takes c.loop-guid.invariant turn.1 c.read.ensures c.in-Some.is turn.0

pub advance-place-requires : goal.advance-place-requires
advance-place-requires c =
    -- the place is on one of two laps, and its position is one of the log's ring
    let turn = within c.loop-guid.invariant (sym c.goes_on.ensures ∙ c.loop-guid-test.true) in
    (turn.1.0, (sized-here c.loop-guid.invariant turn.1 c.read.ensures c.in-Some.is).1, (takes c.loop-guid.invariant turn.1 c.read.ensures c.in-Some.is turn.0).taking.countable)

pub loop-guid-smaller-in-Some : goal.loop-guid-smaller-in-Some
loop-guid-smaller-in-Some c =
    -- the place is on one of two laps, and its position is one of the log's ring
    let turn = within c.loop-guid.invariant (sym c.goes_on.ensures ∙ c.loop-guid-test.true) in
    omega (arith, ap (λ (p : Place). p.count) c.advance-place.ensures, sized-here c.loop-guid.invariant turn.1 c.read.ensures c.in-Some.is, turn.0)

pub loop-guid-preserved-in-Some : goal.loop-guid-preserved-in-Some
loop-guid-preserved-in-Some c =
    -- the place is on one of two laps, and its position is one of the log's ring
    let turn = within c.loop-guid.invariant (sym c.goes_on.ensures ∙ c.loop-guid-test.true) in
    turn-valid c.loop-guid.invariant turn.1 c.read.ensures c.in-Some.is c.take-trace.ensures.state c.take-trace.ensures.placed c.advance-place.ensures

pub advance-place-requires-in-None : goal.advance-place-requires-in-None
advance-place-requires-in-None c =
    -- the place is on one of two laps, and its position is one of the log's ring
    let turn = within c.loop-guid.invariant (sym c.goes_on.ensures ∙ c.loop-guid-test.true) in
    (turn.1.0, omega (arith, turn.1.0), omega (arith, turn.0, c.loop-guid.invariant.few))

pub loop-guid-smaller : goal.loop-guid-smaller
loop-guid-smaller c =
    -- the place is on one of two laps, and its position is one of the log's ring
    let turn = within c.loop-guid.invariant (sym c.goes_on.ensures ∙ c.loop-guid-test.true) in
    omega (arith, ap (λ (p : Place). p.count) c.advance-place-in-None.ensures, turn.0)

pub loop-guid-preserved : goal.loop-guid-preserved
loop-guid-preserved c = turn-empty c.loop-guid.invariant c.read.ensures c.in-None.is c.advance-place-in-None.ensures

pub returns : goal.returns
returns c = finished c.loop-guid.invariant (sym c.goes_on.ensures ∙ c.loop-guid-test.false)
