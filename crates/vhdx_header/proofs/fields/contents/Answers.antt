-- `vhdx_header::fields::contents` meets its contract.
use Rattle.vhdx_header.proofs.fields.contents.Goals as goal

pub returns : goal.returns
returns c =
    λ i.
    record {
      slot = c.args.slot;
      sequence_number = c.sequence_number.ensures i;
      log_guid = c.guid_at.ensures i;
      log_offset = c.u64_at.ensures i;
      log_length = c.u32_at.ensures i;
    }
