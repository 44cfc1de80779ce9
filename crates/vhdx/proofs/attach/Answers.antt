-- `vhdx::attach` meets its contract: a refusal changes nothing, and planned work is done and its image read.
use mathlib.Core.Path.{◌∙◌}
use Rattle.vhdx_replay.proofs.Done.{plan-refused, work-planned, holds_first, fits}
use Rattle.vhdx.proofs.Attaching.{refused-answer, refused-buffer, answer, buffer}
use Rattle.vhdx.proofs.attach.Goals as goal

pub first_steps-requires : goal.first_steps-requires
first_steps-requires c =
    let a = c.args in
    work-planned a.buffer.now a.length c.plan.result (c.plan.ensures.planned, (c.plan.ensures.counted, c.plan.ensures.ready)) c.in-Ok.is c.log_extent-log.ensures

pub read-requires : goal.read-requires
read-requires c =
    let a = c.args in
    let p = work-planned a.buffer.now a.length c.plan.result (c.plan.ensures.planned, (c.plan.ensures.counted, c.plan.ensures.ready)) c.in-Ok.is c.log_extent-log.ensures in (
      holds_first a.buffer.now a.length c.log_extent-log.result _ p,
      fits a.buffer.now a.length c.log_extent-log.result _ p c.first_steps.new.buffer c.first_steps.ensures,
    )

pub returns-in-Err : goal.returns-in-Err
returns-in-Err c =
    let a = c.args in
    let e = plan-refused a.buffer.now a.length c.plan.result (c.plan.ensures.planned, (c.plan.ensures.counted, c.plan.ensures.ready)) c.in-Err.is in
    record { value = refused-answer a.buffer.now a.length _ e; buffer_after = refused-buffer a.buffer.now a.length _ e }

pub returns-in-Ok : goal.returns-in-Ok
returns-in-Ok c =
    let a = c.args in
    let p = work-planned a.buffer.now a.length c.plan.result (c.plan.ensures.planned, (c.plan.ensures.counted, c.plan.ensures.ready)) c.in-Ok.is c.log_extent-log.ensures in
    record {
      value = c.read.ensures ∙ answer a.buffer.now a.length c.log_extent-log.result _ p c.first_steps.new.buffer c.first_steps.ensures;
      buffer_after = buffer a.buffer.now a.length c.log_extent-log.result _ p c.first_steps.new.buffer c.first_steps.ensures;
    }
