-- `crc32c::checksum_zeroed` meets its contract.
use Rattle.crc32c.specs.Crc.{crc}
use Rattle.crc32c.proofs.checksum_zeroed.Goals as goal

pub returns : goal.returns
unfolding crc
returns c = simp (c.finish.ensures, c.start_zeroed.ensures)
