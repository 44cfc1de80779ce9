-- `vhdx_pieces::wanted` meets its contract.
use mathlib.Core.Path.{subst}
use Rattle.vhdx_pieces.specs.Machines.{bounds_of, Sane}
use Rattle.vhdx_pieces.proofs.wanted.Goals as goal

pub wanted-requires-in-Reading : goal.wanted-requires-in-Reading
wanted-requires-in-Reading c = (bounds_of c.in-Reading.d.order, (subst Sane c.in-Reading.is c.requires).1)
