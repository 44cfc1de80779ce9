-- `field::guid_is` meets its contract: the 16 bytes are two halves of eight, and both decide.
use Rattle.std.proofs.Common.{rules, ◌∙◌, arith}
use Rattle.field.proofs.Laws.{halves_same}
use Rattle.field.proofs.guid_is.Goals as goal

pub returns : goal.returns
returns c = c.eq.ensures ∙ halves_same c.args.s.now c.args.at c.args.guid c.guid_at.result (omega arith) c.guid_at.ensures (search rules) (search rules)
