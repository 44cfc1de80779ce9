-- `vhdx_slots::write` meets its contract: it writes the slots that the definition names.
use Rattle.vhdx_slots.specs.Slots.{in_slots, numbers}
use Rattle.vhdx_slots.proofs.write.Goals as goal

pub returns : goal.returns
unfolding in_slots numbers
returns c = simp c.bit_of.ensures
