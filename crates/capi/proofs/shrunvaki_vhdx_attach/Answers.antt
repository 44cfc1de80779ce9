-- `capi::shrunvaki_vhdx_attach` meets its contract: what attach answers, in its slots.
use Rattle.std.proofs.Common.{ℕ, ap, ap₂, ◌∙◌, set}
use Rattle.std.specs.Result.{result_unwrap_or}
use Rattle.vhdx_facts.specs.declared.Facts.{Facts}
use Rattle.vhdx_slots.specs.Slots.{facts_in}
use Rattle.vhdx.specs.Attach.{Attached, attached_numbers}
use Rattle.capi.specs.Answers.{rest_cleared, attached_in}
use Rattle.capi.proofs.Slots.{all_slots}
use Rattle.capi.proofs.Told.{facts}
use Rattle.capi.proofs.shrunvaki_vhdx_attach.Goals as goal

pub returns-clause-answer_after : goal.returns-clause-answer_after
returns-clause-answer_after c =
    let s = c.args.answer.now in
    let a = c.attach-attached.result in
    c.clear_rest.ensures
    ∙ ap rest_cleared c.write.ensures
    ∙ ap₂ (λ (x : ℕ) (f : Facts). rest_cleared (facts_in f (set (set (set s 0 x) 1 a.length) 2 a.count))) c.number_of.ensures
    (c.unwrap_or.ensures ∙ ap (result_unwrap_or a.facts) c.none.ensures ∙ facts a.facts)
    ∙ all_slots (attached_numbers a) s
    ∙ ap (λ (x : Attached). attached_in x s) c.attach-attached.ensures.value
