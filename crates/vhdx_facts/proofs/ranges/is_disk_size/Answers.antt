-- `vhdx_facts::ranges::is_disk_size` meets its contract: it has the definition's tests.
use Rattle.std.proofs.Common.{rules}
use Rattle.vhdx_facts.specs.Ranges.{disk_size_rule}
use Rattle.vhdx_facts.proofs.ranges.is_disk_size.Goals as goal

pub returns-then-sector_size-n : goal.returns-then-sector_size-n
unfolding disk_size_rule
returns-then-sector_size-n c = search rules

pub returns-else-sector_size-n : goal.returns-else-sector_size-n
unfolding disk_size_rule
returns-else-sector_size-n c = search rules
