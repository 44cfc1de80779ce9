-- `vhdx_facts::ranges::sizes_keep_rules` meets its contract: it has the definition's tests.
use Rattle.std.proofs.Common.{rules}
use Rattle.vhdx_facts.specs.Ranges.{sizes_rule}
use Rattle.vhdx_facts.proofs.ranges.sizes_keep_rules.Goals as goal

pub returns-then-is_block_size : goal.returns-then-is_block_size
unfolding sizes_rule
returns-then-is_block_size c = search rules

pub returns-else-is_block_size : goal.returns-else-is_block_size
unfolding sizes_rule
returns-else-is_block_size c = search rules
