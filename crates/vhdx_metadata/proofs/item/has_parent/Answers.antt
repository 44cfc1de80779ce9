-- `vhdx_metadata::item::has_parent` meets its contract.
use native.Mathlib.Omega.{arith}
use Rattle.vhdx_metadata.specs.Known.{known_lengths}
use Rattle.vhdx_metadata.proofs.Laws.{fixed_length}
use Rattle.vhdx_metadata.proofs.item.has_parent.Goals as goal

pub u32_at-requires : goal.u32_at-requires
unfolding known_lengths
u32_at-requires c = omega (arith, fixed_length c.bytes.ensures.len)
