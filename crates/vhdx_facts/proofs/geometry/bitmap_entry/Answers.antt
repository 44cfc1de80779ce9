-- `vhdx_facts::geometry::bitmap_entry` meets its contract.
use Rattle.std.proofs.Common.{rules}
use Rattle.vhdx_facts.specs.Geometry.{bitmap_entry}
use Rattle.vhdx_facts.proofs.geometry.bitmap_entry.Goals as goal

pub returns : goal.returns
unfolding bitmap_entry
returns c = search rules
