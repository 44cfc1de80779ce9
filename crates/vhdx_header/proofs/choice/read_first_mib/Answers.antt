-- `vhdx_header::choice::read_first_mib` meets its contract.
use mathlib.Core.Path.{sym, ◌∙◌}
use Rattle.vhdx_header.specs.Current.{read_first_mib}
use Rattle.vhdx_header.proofs.choice.read_first_mib.Goals as goal

pub returns-then-bytes_are : goal.returns-then-bytes_are
unfolding read_first_mib
returns-then-bytes_are c = simp (c.read_slot.ensures, c.current_slot.ensures, sym c.bytes_are.ensures ∙ c.if-bytes_are.true)

pub returns-else-bytes_are : goal.returns-else-bytes_are
unfolding read_first_mib
returns-else-bytes_are c = simp (sym c.bytes_are.ensures ∙ c.if-bytes_are.false)
