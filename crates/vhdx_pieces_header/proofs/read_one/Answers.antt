-- `vhdx_pieces_header::read_one` meets its contract.
use Rattle.vhdx_pieces_header.proofs.read_one.Goals as goal

pub returns : goal.returns
returns c = simp (c.keep_rules.ensures, c.is_valid.ensures, c.contents.ensures)
