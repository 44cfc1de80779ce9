-- `vhdx_map::stored_block` meets its contract: 19, or the offset in the block.
use mathlib.Core.Path.{sym, ◌∙◌}
use native.Mathlib.Omega.{arith}
use Rattle.vhdx_map.proofs.Laws.{stored-inside}
use Rattle.vhdx_map.proofs.stored_block.Goals as goal

pub offset-requires : goal.offset-requires
offset-requires c =
    let stored = stored-inside c.args.length c.args.facts.block_size c.args.e (sym c.is_stored.ensures ∙ c.if-not-is_stored.false) in
    (c.requires.0, c.requires.1, omega (arith, stored))
