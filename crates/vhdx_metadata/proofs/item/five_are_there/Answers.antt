-- `vhdx_metadata::item::five_are_there` meets its contract: the closure is the test of `every`.
use Rattle.std.proofs.Common.{rules}
use Rattle.decision.proofs.Ranges.{every_from_all}
use Rattle.vhdx_metadata.specs.Items.{is_there}
use Rattle.vhdx_metadata.proofs.item.five_are_there.Goals as goal

pub returns : goal.returns
returns c = every_from_all (is_there c.args.region.now) 5 _ _ c.all.result c.all.ensures.ran (λ x b q k. search rules)
