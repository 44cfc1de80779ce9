-- `vhdx_replay::store::bytes` meets its contract: a copy over a part.
use Rattle.std.proofs.Common.{refl, ◌+◌, ◌-◌, ◌∙◌, length, arith}
use Rattle.std.proofs.lemmas.Slice.{put_mid-paste}
use Rattle.vhdx_replay.proofs.Storing.{pasted}
use Rattle.vhdx_replay.proofs.store.bytes.Goals as goal

pub returns : goal.returns
returns c =
    let d = c.args.given.now in
    put_mid-paste c.args.offset (c.args.offset + length d - c.args.offset) c.args.buffer.now c.copy_from_slice.new.self d (length d) c.copy_from_slice.ensures.after (omega arith) refl
    ∙ pasted c.args.buffer.now c.args.offset d (length d) refl
