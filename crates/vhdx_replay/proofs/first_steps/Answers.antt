-- `vhdx_replay::first_steps` meets its contract: growth leaves the log, and the sectors written are what the steps give.
use mathlib.Core.Path.{◌∙◌}
use Rattle.vhdx_replay.proofs.Applying.{known, grown-inside, start-ready, writable, replayed}
use Rattle.vhdx_replay.proofs.first_steps.Goals as goal

pub grow-requires : goal.grow-requires
grow-requires c =
    let k = known c.args.buffer.now c.args.length c.args.log c.args.work c.requires in
    (k.grows, k.fits)

pub part-requires : goal.part-requires
part-requires c =
    grown-inside c.args.buffer.now c.args.length c.args.log c.args.work c.requires c.grow.new.buffer c.grow.ensures

pub forward-start-requires : goal.forward-start-requires
forward-start-requires c =
    start-ready c.args.buffer.now c.args.length c.args.log c.args.work c.requires c.grow.new.buffer c.grow.ensures
    c.part.result.now c.part.ensures.bytes c.from.result c.from.ensures

pub write_sectors-requires : goal.write_sectors-requires
write_sectors-requires c =
    writable c.args.buffer.now c.args.length c.args.log c.args.work c.requires c.grow.new.buffer c.grow.ensures
    c.part.result.now c.part.ensures.bytes c.from.result c.from.ensures c.forward-start.result c.forward-start.ensures.ready c.forward-start.ensures.rest

pub returns : goal.returns
returns c =
    c.write_sectors.ensures
    ∙ replayed c.args.buffer.now c.args.length c.args.log c.args.work c.requires c.grow.new.buffer c.grow.ensures
    c.part.result.now c.part.ensures.bytes c.from.result c.from.ensures c.forward-start.result c.forward-start.ensures.ready c.forward-start.ensures.rest c.args.count
