-- `vhdx_rewrite::write` meets its contract.
use native.Mathlib.Omega.{arith}
use Rattle.vhdx_rewrite.proofs.Writing.{fits, other_fits, part-fits, written, wide}
use Rattle.vhdx_rewrite.proofs.write.Goals as goal

pub array_at-requires : goal.array_at-requires
array_at-requires c =
    omega (arith, fits c.args.buffer.now c.args.slot c.requires)

pub closed-out-requires : goal.closed-out-requires
closed-out-requires c =
    part-fits c.args.buffer.now c.args.slot c.requires _ c.array_at.ensures

pub bytes-requires : goal.bytes-requires
bytes-requires c =
    omega (arith, other_fits c.args.buffer.now c.args.slot c.requires, c.other_slot.ensures, c.closed-out.ensures.len)

pub returns : goal.returns
returns c =
    record {
      buffer_after = written c.args.buffer.now c.args.slot c.requires _ c.array_at.ensures c.args.identifier.now c.closed-out.result c.bytes.new.buffer c.other_slot.result
          c.closed-out.ensures.value c.other_slot.ensures c.bytes.ensures;
      header_len = wide c.args.buffer.now c.args.slot c.requires _ c.array_at.ensures c.args.identifier.now c.closed-out.result c.closed-out.ensures.value c.closed-out.ensures.len;
    }
