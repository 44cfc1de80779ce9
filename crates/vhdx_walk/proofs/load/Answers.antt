-- `vhdx_walk::load` meets its contract.
use Rattle.vhdx_walk.proofs.Sectors.{follows-done, follows-entry, follows-run}
use Rattle.vhdx_walk.proofs.load.Goals as goal

pub returns-in-Done : goal.returns-in-Done
returns-in-Done c =
    follows-done c.args.log.now c.args.cursor c.requires.0 c.requires.1 c.next.ensures c.in-Done.is

pub returns-in-Entry : goal.returns-in-Entry
returns-in-Entry c =
    follows-entry c.args.log.now c.args.cursor c.requires.0 c.requires.1 c.next.ensures c.in-Entry.is c.from.ensures

pub returns-in-Descriptor : goal.returns-in-Descriptor
returns-in-Descriptor c =
    follows-run c.args.log.now c.args.cursor c.requires.0 c.requires.1 c.next.ensures c.in-Descriptor.is
