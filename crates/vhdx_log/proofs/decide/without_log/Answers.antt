-- `vhdx_log::decide::without_log` meets its contract.
use mathlib.Core.Path.{sym, ◌∙◌}
use mathlib.Core.List.{[]}
use Rattle.decision.specs.declared.Refusal.TheVariants.{FinalLength}
use Rattle.vhdx_log.specs.Work.{apply_within}
use Rattle.vhdx_log.proofs.Answering.{refusal, no-log}
use Rattle.vhdx_log.proofs.decide.without_log.Goals as goal

pub returns-then-is_within : goal.returns-then-is_within
returns-then-is_within c = λ log. no-log log c.args.length c.args.capacity (sym c.is_within.ensures ∙ c.if-is_within.true)

pub returns-else-is_within : goal.returns-else-is_within
returns-else-is_within c = λ log.
    refusal log FinalLength (apply_within c.args.capacity c.args.length [])
    (rw (sym c.is_within.ensures ∙ c.if-is_within.false))
