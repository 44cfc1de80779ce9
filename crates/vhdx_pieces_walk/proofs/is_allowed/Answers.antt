-- `vhdx_pieces_walk::is_allowed` meets its contract.
use Rattle.vhdx_pieces_walk.proofs.is_allowed.Goals as goal

pub returns : goal.returns
returns c = simp (c.share_a_byte-2.ensures, c.share_a_byte.ensures, c.is_inside.ensures)
