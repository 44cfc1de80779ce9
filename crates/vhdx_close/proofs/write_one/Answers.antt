-- `vhdx_close::write_one` meets its contract: a sector of the log, the header behind the last one, or 21.
use mathlib.Core.Logic.{⊎_elim}
use Rattle.std.proofs.Common.{arith}
use Rattle.decision.specs.Refusal.{refusal_of, outcome}
use Rattle.vhdx_steps.proofs.Sectors.{clash}
use Rattle.vhdx_close.proofs.Doing.{closable-before}
use Rattle.vhdx_close.proofs.Answering.{sector-step, no_step, header-step}
use Rattle.vhdx_close.proofs.write_one.Goals as goal

pub returns-then-i-job : goal.returns-then-i-job
returns-then-i-job c =
    let a = c.args in
    let parts = sector-step a.identifier.now a.buffer.now a.length a.job c.requires a.i (refusal_of (outcome c.one_sector.result)) c.one_sector.new.buffer c.if-i-job.true
    c.one_sector.ensures.value c.one_sector.ensures.buffer_after in
    record { value = parts.0; buffer_after = parts.1 }

pub write-requires : goal.write-requires
write-requires c =
    let a = c.args in
    closable-before a.identifier.now a.buffer.now a.length a.job c.requires c.if-job.true

pub returns-then-i-job-2 : goal.returns-then-i-job-2
returns-then-i-job-2 c =
    let a = c.args in
    let parts = header-step a.identifier.now a.buffer.now a.length a.job c.requires a.i c.if-job.true c.write.ensures.header_len c.if-i-job-2.true c.write.new.buffer c.write.ensures.buffer_after in
    record { value = parts.0; buffer_after = parts.1 }

pub returns : goal.returns
returns c =
    let a = c.args in
    let parts = no_step a.identifier.now a.buffer.now a.length a.job c.requires a.i (omega (arith, c.if-i-job.false))
    (λ r. ⊎_elim (λ x. omega (arith, c.if-i-job.false, x.1)) (λ f. clash r f) c.else-job.either) in
    record { value = parts.0; buffer_after = parts.1 }
