-- `vhdx::plan` meets its contract: a refusal, or planned work.
use Rattle.std.proofs.Common.{◌≡◌, refl, ap, ◌∙◌, Err, rules}
use Rattle.vhdx_replay.proofs.Done.{plan-refused, work-planned}
use Rattle.vhdx.specs.Plan.{planned_numbers}
use Rattle.vhdx.proofs.Foretelling.{refused-plan, applied-plan}
use Rattle.vhdx.proofs.plan.Goals as goal

pub returns-in_err-planned : goal.returns-in_err-planned
returns-in_err-planned c =
    let a = c.args in
    let same : c.from_residual.result ≡ Err c.in_err-planned.field-0.0 = search rules in
    ap (planned_numbers a.length) same
    ∙ refused-plan a.buffer.now a.length _ (plan-refused a.buffer.now a.length c.plan.result (c.plan.ensures.planned, (c.plan.ensures.counted, c.plan.ensures.ready)) c.in_err-planned.was)

pub returns : goal.returns
returns c =
    let a = c.args in
    applied-plan (work-planned a.buffer.now a.length c.plan.result (c.plan.ensures.planned, (c.plan.ensures.counted, c.plan.ensures.ready)) c.in_ok-planned.was refl)
