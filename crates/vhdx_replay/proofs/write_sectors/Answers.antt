-- `vhdx_replay::write_sectors` meets its contract: what is left, written from here, gives what all of them give.
use Rattle.vhdx_replay.proofs.Loop.{begin, inside-now, writable_now, more, done}
use Rattle.vhdx_replay.proofs.write_sectors.Goals as goal

pub loop-init : goal.loop-init
loop-init c = begin c.args.buffer.now c.args.log c.args.start c.args.count c.requires

pub write_next-walk-requires : goal.write_next-walk-requires
write_next-walk-requires c =
    let a = c.args in
    let i = inside-now a.buffer.now a.log a.start a.count c.loop.buffer c.loop.walk c.loop.counter c.loop.invariant in
    let w = writable_now a.buffer.now a.log a.start a.count c.loop.buffer c.loop.walk c.loop.counter c.loop.invariant in
    (i, w.0, w.1, w.2)

pub loop-preserved : goal.loop-preserved
loop-preserved c =
    let a = c.args in
    more a.buffer.now a.log a.start a.count c.loop.buffer c.loop.walk c.loop.counter c.loop.invariant
    c.write_next-walk.new.buffer c.write_next-walk.result c.loop-test.true c.write_next-walk.ensures.buffer_after c.write_next-walk.ensures.ready c.write_next-walk.ensures.rest

pub shape_of-buffer : goal.shape_of-buffer
shape_of-buffer c = c.loop.invariant.capacity

pub returns : goal.returns
returns c =
    let a = c.args in
    done a.buffer.now a.log a.start a.count c.loop.buffer c.loop.walk c.loop.counter c.loop.invariant c.loop-test.false
