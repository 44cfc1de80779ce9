-- `vhdx_replay::sector::write` meets its contract: by where the bytes are.
use mathlib.Core.Path.{◌∙◌}
use Rattle.extent.specs.Extent.{part}
use Rattle.vhdx_replay.proofs.Writing.{zeros-written, data-held, data-written}
use Rattle.vhdx_replay.proofs.sector.write.Goals as goal

pub data-out-requires : goal.data-out-requires
data-out-requires c =
    let log = part c.args.buffer.now c.args.log in
    data-held c.part.result.now log c.args.s.source _ _ c.requires.2 c.in-Data.is c.part.ensures.bytes

pub returns-in-Zeros : goal.returns-in-Zeros
returns-in-Zeros c =
    c.zeros.ensures
    ∙ zeros-written c.args.buffer.now (part c.args.buffer.now c.args.log) c.args.s.offset c.args.s.source c.in-Zeros.is

pub returns-in-Data : goal.returns-in-Data
returns-in-Data c =
    c.bytes.ensures
    ∙ data-written c.args.buffer.now c.part.result.now (part c.args.buffer.now c.args.log) c.data-out.result c.args.s.offset c.args.s.source _ _
    c.in-Data.is c.part.ensures.bytes c.data-out.ensures
