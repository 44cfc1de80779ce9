-- `vhdx_close::close_step` meets its contract: a refusal, growth, or a later step.
use Rattle.std.proofs.Common.{◌≡◌, sym, ap, subst, ◌∙◌, Result, Err, arith, rules}
use Rattle.decision.specs.declared.Refusal.{Refusal}
use Rattle.decision.specs.Refusal.{refusal_of, outcome}
use Rattle.vhdx_steps.specs.Stepped.{stepped_numbers}
use Rattle.vhdx_close.specs.Deciding.{Decided}
use Rattle.vhdx_close.proofs.Answering.{refused-step, grown-step, later-step}
use Rattle.vhdx_close.proofs.close_step.Goals as goal

pub returns-in_err-job : goal.returns-in_err-job
returns-in_err-job c =
    let a = c.args in
    let same : c.from_residual.result ≡ Err c.in_err-job.field-0.0 = search rules in
    let parts = refused-step a.identifier.now a.buffer.now a.length _ (subst (Decided a.buffer.now a.length) c.in_err-job.was c.decide.ensures a.identifier.now) a.k in
    record { value = ap (stepped_numbers a.length) same ∙ parts.0; buffer_after = parts.1 }

pub returns-then-k-eq0 : goal.returns-then-k-eq0
returns-then-k-eq0 c =
    let a = c.args in
    let parts = grown-step a.identifier.now a.buffer.now a.length _ (subst (Decided a.buffer.now a.length) c.in_ok-job.was c.decide.ensures) a.k
    c.first_steps.new.buffer c.if-k-eq0.true c.first_steps.ensures in
    record { value = parts.0; buffer_after = parts.1 }

pub returns-in_err-write_one : goal.returns-in_err-write_one
returns-in_err-write_one c =
    let a = c.args in
    let same : c.from_residual-in_err-write_one.result ≡ Err c.in_err-write_one.field-0.0 = search rules in
    let told = ap (λ (r : Result (Unit {0}) Refusal). refusal_of (outcome r)) (sym c.in_err-write_one.was) ∙ c.write_one.ensures.value in
    let parts = later-step a.identifier.now a.buffer.now a.length _ (subst (Decided a.buffer.now a.length) c.in_ok-job.was c.decide.ensures) a.k (omega (arith, c.if-k-eq0.false))
    _ c.write_one.new.buffer told c.write_one.ensures.buffer_after in
    record { value = ap (stepped_numbers a.length) same ∙ parts.0; buffer_after = parts.1 }

pub returns : goal.returns
returns c =
    let a = c.args in
    let told = ap (λ (r : Result (Unit {0}) Refusal). refusal_of (outcome r)) (sym c.in_ok-write_one.was) ∙ c.write_one.ensures.value in
    let parts = later-step a.identifier.now a.buffer.now a.length _ (subst (Decided a.buffer.now a.length) c.in_ok-job.was c.decide.ensures) a.k (omega (arith, c.if-k-eq0.false))
    0 c.write_one.new.buffer told c.write_one.ensures.buffer_after in
    record { value = parts.0; buffer_after = parts.1 }
