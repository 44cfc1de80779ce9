-- `vhdx_entry::header::keeps_rules` meets its contract: each test is the rule that stands there.
use Rattle.vhdx_entry.specs.Entry.{header_rule}
use Rattle.vhdx_entry.proofs.header.keeps_rules.Goals as goal

pub returns : goal.returns
unfolding header_rule
returns c = simp (c.sequence_number.ensures, c.guid_is.ensures, c.is_marked.ensures, c.u32_at-tail.ensures)
