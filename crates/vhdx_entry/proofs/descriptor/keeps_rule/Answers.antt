-- `vhdx_entry::descriptor::keeps_rule` meets its contract: each test is the rule that stands there.
use Rattle.vhdx_entry.specs.Entry.{descriptor_rule}
use Rattle.vhdx_entry.proofs.descriptor.keeps_rule.Goals as goal

pub returns : goal.returns
unfolding descriptor_rule
returns c = simp (c.u64_at.ensures, c.file_offset-offset.ensures, c.zero_length-length.ensures, c.u32_at-zero.ensures, c.is_data-data.ensures)
