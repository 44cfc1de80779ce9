-- `vhdx_map::in_image` meets its contract: arm by arm.
use Rattle.std.proofs.Common.{length}
use Rattle.vhdx_fit.proofs.Laws.{sizes-kept}
use Rattle.vhdx_map.proofs.in_image.Goals as goal

pub stored_block-requires : goal.stored_block-requires
stored_block-requires c =
    (sizes-kept (length c.args.image.now) c.args.facts c.requires.0, c.requires.1)
