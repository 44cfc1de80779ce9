-- `crc32c::table::entries` meets its contract: the table's rule is a test at each of its entries, which antt computes.
use Rattle.crc32c.specs.declared.table.TheConstants.{TABLE}
use Rattle.crc32c.specs.Crc.{bit, bits}
use Rattle.crc32c.proofs.Entrywise.{entry-is}
use Rattle.crc32c.proofs.table.entries.Goals as goal

pub returns : goal.returns
unfolding bits bit
returns c = entry-is (bits 8) TABLE tt
