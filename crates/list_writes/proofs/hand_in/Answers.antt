-- A machine that is handed in advances.
use Rattle.std.proofs.Common.{sym, subst}
use Rattle.vhdx_pieces.proofs.Advancing.{machine-advances}
use Rattle.list_writes.specs.Driver.{Ahead}
use Rattle.list_writes.proofs.hand_in.Goals as goal

pub returns : goal.returns
returns c = subst (Ahead c.args.m) (sym c.next.ensures.0) (machine-advances c.args.m _ c.requires)
