-- `vhdx_pieces_plan::next` meets its contract.
use mathlib.Core.Path.{sym, ap, ◌∙◌}
use native.Mathlib.Omega.{arith}
use Rattle.std.proofs.lemmas.List.{take_all}
use Rattle.vhdx_pieces_entry.proofs.Laws.{also}
use Rattle.vhdx_pieces_scan.specs.Scanning as scanning
use Rattle.vhdx_pieces_survey.specs.Touring as touring
use Rattle.vhdx_pieces_plan.specs.declared.Phase.{Phase}
use Rattle.vhdx_pieces_plan.specs.Planning.{wanted_in, Kept, headed, scanned, toured, step_in, step_of}
use Rattle.vhdx_pieces_plan.proofs.Advancing.{plan-advances}
use Rattle.vhdx_pieces_plan.proofs.next.Goals as goal

pub returns-in-Header : goal.returns-in-Header
unfolding step_of
returns-in-Header c =
    let a = c.args in
    let p = a.p in
    also (Kept p.context.length)
    (c.header_turn.ensures ∙ ap (headed p.context.length p.context.capacity) c.next.ensures
    ∙ sym (ap (λ (x : Phase). step_in p.context x a.piece.now) c.in-Header.is))
    (plan-advances p a.piece.now c.requires.0).0

pub returns-in-Scan : goal.returns-in-Scan
unfolding step_of
returns-in-Scan c =
    let a = c.args in
    let p = a.p in
    let n = c.requires.1 ∙ ap (λ (x : Phase). (wanted_in p.context.log x).length) c.in-Scan.is in
    also (Kept p.context.length)
    (c.scan_turn.ensures ∙ ap (scanned p.context) (c.next-in-Scan.ensures.0 ∙ ap (scanning.step_of p.context.guid c.in-Scan.s) (c.array_at.ensures ∙ take_all 4096 a.piece.now (omega (arith, n))))
    ∙ sym (ap (λ (x : Phase). step_in p.context x a.piece.now) c.in-Scan.is))
    (plan-advances p a.piece.now c.requires.0).0

pub returns-in-Survey : goal.returns-in-Survey
unfolding step_of
returns-in-Survey c =
    let a = c.args in
    let p = a.p in
    let n = c.requires.1 ∙ ap (λ (x : Phase). (wanted_in p.context.log x).length) c.in-Survey.is in
    also (Kept p.context.length)
    (c.survey_turn.ensures ∙ ap (toured p.context _) (c.next-in-Survey.ensures.0 ∙ ap (touring.step_of p.context.log c.in-Survey.s.tour) (c.array_at-in-Survey.ensures ∙ take_all 4096 a.piece.now (omega (arith, n))))
    ∙ sym (ap (λ (x : Phase). step_in p.context x a.piece.now) c.in-Survey.is))
    (plan-advances p a.piece.now c.requires.0).0
