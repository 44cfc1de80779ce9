-- `vhdx::step` meets its contract: a refusal, growth, or a sector.
use Rattle.std.proofs.Common.{◌≡◌, sym, ap, ◌∙◌, ◌<◌, Result, Err, arith, rules}
use Rattle.decision.specs.declared.Refusal.{Refusal}
use Rattle.decision.specs.Refusal.{refusal_of, outcome}
use Rattle.vhdx_steps.specs.Stepped.{stepped_numbers}
use Rattle.vhdx_replay.proofs.Done.{plan-refused, work-planned}
use Rattle.vhdx.proofs.Stepping.{refused-step, refused-after, grown-step, grown-after, sector-step, sector-after}
use Rattle.vhdx.proofs.step.Goals as goal

pub returns-in_err-work : goal.returns-in_err-work
returns-in_err-work c =
    let a = c.args in
    let same : c.from_residual.result ≡ Err c.in_err-work.field-0.0 = search rules in
    let e = plan-refused a.buffer.now a.length c.plan.result (c.plan.ensures.planned, (c.plan.ensures.counted, c.plan.ensures.ready)) c.in_err-work.was in
    record { value = ap (stepped_numbers a.length) same ∙ refused-step a.buffer.now a.length a.k _ e; buffer_after = refused-after a.buffer.now a.length a.k _ e }

pub first_steps-requires : goal.first_steps-requires
first_steps-requires c =
    let a = c.args in
    work-planned a.buffer.now a.length c.plan.result (c.plan.ensures.planned, (c.plan.ensures.counted, c.plan.ensures.ready)) c.in_ok-work.was c.log_extent-log.ensures

pub one_sector-requires : goal.one_sector-requires
one_sector-requires c =
    let a = c.args in
    work-planned a.buffer.now a.length c.plan.result (c.plan.ensures.planned, (c.plan.ensures.counted, c.plan.ensures.ready)) c.in_ok-work.was c.log_extent-log.ensures

pub returns-then-k-eq0 : goal.returns-then-k-eq0
returns-then-k-eq0 c =
    let a = c.args in
    let p = work-planned a.buffer.now a.length c.plan.result (c.plan.ensures.planned, (c.plan.ensures.counted, c.plan.ensures.ready)) c.in_ok-work.was c.log_extent-log.ensures in
    record {
      value = grown-step a.buffer.now a.length a.k c.log_extent-log.result _ p c.if-k-eq0.true;
      buffer_after = grown-after a.buffer.now a.length a.k c.log_extent-log.result _ p c.if-k-eq0.true c.first_steps.new.buffer c.first_steps.ensures;
    }

pub returns-in_err-one_sector : goal.returns-in_err-one_sector
returns-in_err-one_sector c =
    let a = c.args in
    let p = work-planned a.buffer.now a.length c.plan.result (c.plan.ensures.planned, (c.plan.ensures.counted, c.plan.ensures.ready)) c.in_ok-work.was c.log_extent-log.ensures in
    let h : 0 < a.k = omega (arith, c.if-k-eq0.false) in
    let same : c.from_residual-in_err-one_sector.result ≡ Err c.in_err-one_sector.field-0.0 = search rules in
    let said = ap (λ (r : Result (Unit {0}) Refusal). refusal_of (outcome r)) (sym c.in_err-one_sector.was) ∙ c.one_sector.ensures.value in
    record {
      value = ap (stepped_numbers a.length) same ∙ sector-step a.buffer.now a.length a.k c.log_extent-log.result _ p h _ said;
      buffer_after = sector-after a.buffer.now a.length a.k c.log_extent-log.result _ p h c.one_sector.new.buffer c.one_sector.ensures.buffer_after;
    }

pub returns : goal.returns
returns c =
    let a = c.args in
    let p = work-planned a.buffer.now a.length c.plan.result (c.plan.ensures.planned, (c.plan.ensures.counted, c.plan.ensures.ready)) c.in_ok-work.was c.log_extent-log.ensures in
    let h : 0 < a.k = omega (arith, c.if-k-eq0.false) in
    let said = ap (λ (r : Result (Unit {0}) Refusal). refusal_of (outcome r)) (sym c.in_ok-one_sector.was) ∙ c.one_sector.ensures.value in
    record {
      value = sector-step a.buffer.now a.length a.k c.log_extent-log.result _ p h 0 said;
      buffer_after = sector-after a.buffer.now a.length a.k c.log_extent-log.result _ p h c.one_sector.new.buffer c.one_sector.ensures.buffer_after;
    }
