-- `vhdx_pieces_scan::next` meets its contract.
use mathlib.Core.Path.{sym, ap, ◌∙◌, subst}
use native.Mathlib.Omega.{arith}
use Rattle.vhdx_sequence.specs.Scan.{state_of}
use Rattle.vhdx_pieces_entry.proofs.Laws.{also}
use Rattle.vhdx_pieces_scan.specs.declared.Stage.{Stage}
use Rattle.vhdx_pieces_scan.specs.Scanning.{Staged, Onward, progressed, step_in, step_of}
use Rattle.vhdx_pieces_scan.proofs.Advancing.{scan-advances}
use Rattle.vhdx_pieces_scan.proofs.next.Goals as goal

pub first-requires : goal.first-requires
first-requires c = omega (arith, c.requires.upright.few)

pub progress-requires : goal.progress-requires
progress-requires c = c.requires.upright

pub further-requires : goal.further-requires
further-requires c =
    let s = c.args.s in
    (omega (arith, c.requires.upright.few), subst (Staged s.place.pos.len) c.in-Inside.is c.requires.staged)

pub progress-requires-in-Inside : goal.progress-requires-in-Inside
progress-requires-in-Inside c = c.requires.upright

pub take-requires : goal.take-requires
take-requires c =
    let s = c.args.s in
    let k = subst (Staged s.place.pos.len) c.in-Tail.is c.requires.staged in
    (c.requires.upright, k.1, k.2)

pub returns-in-First : goal.returns-in-First
unfolding step_of
returns-in-First c =
    let a = c.args in
    let s = a.s in
    also (Onward s.place.pos.len)
    (c.progress.ensures ∙ ap (progressed s.place.pos.len s.place.count (state_of s.trace)) c.first.ensures.value
    ∙ sym (ap (λ (x : Stage). step_in a.guid s.place.pos.len s.place.count (state_of s.trace) x a.sector.now) c.in-First.is))
    (scan-advances a.guid s a.sector.now c.requires).0

pub returns-in-Inside : goal.returns-in-Inside
unfolding step_of
returns-in-Inside c =
    let a = c.args in
    let s = a.s in
    also (Onward s.place.pos.len)
    (c.progress-in-Inside.ensures ∙ ap (progressed s.place.pos.len s.place.count (state_of s.trace)) c.further.ensures.value
    ∙ sym (ap (λ (x : Stage). step_in a.guid s.place.pos.len s.place.count (state_of s.trace) x a.sector.now) c.in-Inside.is))
    (scan-advances a.guid s a.sector.now c.requires).0

pub returns-in-Tail : goal.returns-in-Tail
unfolding step_of
returns-in-Tail c =
    let a = c.args in
    let s = a.s in
    also (Onward s.place.pos.len)
    (c.take.ensures
    ∙ sym (ap (λ (x : Stage). step_in a.guid s.place.pos.len s.place.count (state_of s.trace) x a.sector.now) c.in-Tail.is))
    (scan-advances a.guid s a.sector.now c.requires).0
