-- `vhdx_close::close` meets its contract: a refusal changes nothing, and what is decided is carried out.
use Rattle.std.proofs.Common.{◌≡◌, ap, subst, ◌∙◌, Err, rules}
use Rattle.vhdx_close_steps.specs.Close.{closed_numbers}
use Rattle.vhdx_close.specs.Deciding.{Decided}
use Rattle.vhdx_close.proofs.Answering.{refused-close, done-answer}
use Rattle.vhdx_close.proofs.close.Goals as goal

pub returns-in_err-job : goal.returns-in_err-job
returns-in_err-job c =
    let a = c.args in
    let same : c.from_residual.result ≡ Err c.in_err-job.field-0.0 = search rules in
    let parts = refused-close a.identifier.now a.buffer.now a.length _ (subst (Decided a.buffer.now a.length) c.in_err-job.was c.decide.ensures a.identifier.now) in
    record { value = ap (closed_numbers a.length) same ∙ parts.0; buffer_after = parts.1 }

pub returns : goal.returns
returns c =
    let a = c.args in
    record { value = done-answer a.identifier.now a.buffer.now a.length _ (subst (Decided a.buffer.now a.length) c.in_ok-job.was c.decide.ensures); buffer_after = c.carry_out.ensures }
