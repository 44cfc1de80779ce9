-- `vhdx_replay::sector::data` meets its contract: the stored sector, then its two ends over it.
use Rattle.vhdx_replay.proofs.DataBytes.{stored}
use Rattle.vhdx_replay.proofs.sector.data.Goals as goal

pub returns : goal.returns
returns c =
    stored c.args.log.now c.blank-out.result c.args.descriptor c.args.sector c.blank-out.ensures c.requires.0 c.requires.1
    c.bytes.new.buffer c.bytes-2.new.buffer c.bytes-3.new.buffer c.bytes.ensures c.bytes-2.ensures c.bytes-3.ensures
