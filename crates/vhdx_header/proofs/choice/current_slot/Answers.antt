-- `vhdx_header::choice::current_slot` meets its contract.
use Rattle.vhdx_header.specs.Current.{current_slot}
use Rattle.vhdx_header.proofs.choice.current_slot.Goals as goal

pub returns : goal.returns
unfolding current_slot
returns c =
    simp (
      c.chosen_slot.ensures,
      c.sequence_number-2.ensures,
      c.sequence_number.ensures,
      c.is_valid-2.ensures,
      c.is_valid.ensures,
      c.header_at-second.ensures,
      c.header_at-first.ensures,
    )
