-- `vhdx_pieces_survey::survey_in` meets its contract.
use mathlib.Core.Path.{◌≡◌, refl, sym, ap, ap₂, ◌∙◌}
use native.Mathlib.Omega.{arith}
use Rattle.vhdx_pieces_entry.specs.Sector.{descriptor_in}
use Rattle.vhdx_pieces_survey.specs.Touring.{added_by, survey_in}
use Rattle.vhdx_pieces_survey.proofs.Turns.{survey-more}
use Rattle.vhdx_pieces_survey.proofs.survey_in.Goals as goal

pub loop-i-init : goal.loop-i-init
unfolding survey_in
loop-i-init c = (c.requires, refl)

pub loop-i-preserved : goal.loop-i-preserved
unfolding descriptor_in
loop-i-preserved c =
    let inv = c.loop-i.invariant in
    let a = c.args in (
      inv.0,
      c.add-all.ensures ∙ ap₂ (added_by a.log) inv.1 c.array_at.ensures ∙ sym (survey-more a.log a.found a.s.now a.from c.loop-i.i),
    )

pub returns : goal.returns
returns c =
    let inv = c.loop-i.invariant in
    let a = c.args in
    let end : c.loop-i.i ≡ a.m = omega arith in
    inv.1 ∙ ap (survey_in a.log a.found a.s.now a.from) end
