-- `vhdx_map::partially_present` meets its contract: 19 before 20 before the bit.
use Rattle.std.proofs.Common.{length}
use Rattle.vhdx_fit.proofs.Laws.{sizes-kept}
use Rattle.vhdx_map.proofs.partially_present.Goals as goal

pub stored_block-requires : goal.stored_block-requires
stored_block-requires c =
    (sizes-kept (length c.args.image.now) c.args.facts c.requires.0, c.requires.1)
