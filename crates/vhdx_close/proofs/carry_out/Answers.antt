-- `vhdx_close::carry_out` meets its contract: the log's work, then the header where there is one to write.
use Rattle.vhdx_close.proofs.Doing.{closable, done_plain, done-header}
use Rattle.vhdx_close.proofs.carry_out.Goals as goal

pub write-requires : goal.write-requires
write-requires c =
    closable c.args.identifier.now c.args.buffer.now c.args.length c.args.job c.requires c.first_steps.new.buffer c.first_steps.ensures c.if-job.true

pub returns-then-job : goal.returns-then-job
returns-then-job c =
    done-header c.args.identifier.now c.args.buffer.now c.args.length c.args.job c.requires c.first_steps.new.buffer c.first_steps.ensures
    c.write.new.buffer c.if-job.true c.write.ensures.buffer_after

pub returns-else-job : goal.returns-else-job
returns-else-job c =
    done_plain c.args.identifier.now c.args.buffer.now c.args.length c.args.job c.requires c.first_steps.new.buffer c.first_steps.ensures c.if-job.false
