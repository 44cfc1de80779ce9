-- `vhdx_pieces_scan::at` meets its contract.
use mathlib.Core.Path.{ap}
use Rattle.std.specs.declared.ops.ControlFlow.TheVariants.{Continue}
use Rattle.vhdx_pieces_scan.specs.Scanning.{Step}
use Rattle.vhdx_pieces_scan.proofs.Told.{scanner-is}
use Rattle.vhdx_pieces_scan.proofs.at.Goals as goal

pub returns : goal.returns
returns c = ap {B = Step} Continue (scanner-is c.args.stage c.requires.0 c.requires.1)
