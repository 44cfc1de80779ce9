-- `vhdx_pieces_walk::opened` meets its contract.
use Rattle.vhdx_pieces_walk.proofs.opened.Goals as goal

pub returns : goal.returns
returns c = (simp (c.entry_length.ensures, c.descriptor_count.ensures.value), c.descriptor_count.ensures.upper_bound)
