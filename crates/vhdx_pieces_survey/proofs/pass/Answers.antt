-- `vhdx_pieces_survey::pass` meets its contract.
use mathlib.Core.Path.{ap₂, ◌∙◌}
use native.Mathlib.Omega.{arith}
use Rattle.vhdx_pieces_survey.specs.Touring.{survey_in, moved_on, passed}
use Rattle.vhdx_pieces_survey.proofs.Turns.{fits-here}
use Rattle.vhdx_pieces_survey.proofs.pass.Goals as goal

pub survey_in-requires : goal.survey_in-requires
survey_in-requires c =
    let t = c.args.t in
    omega (arith, c.from-from.ensures, c.here-m.ensures, fits-here t.read t.seen t.count c.requires.starts)

pub returns : goal.returns
unfolding passed
returns c =
    let a = c.args in
    let t = a.t in
    c.moved.ensures ∙ ap₂ (moved_on t) c.here-m.ensures (c.survey_in.ensures ∙ ap₂ (survey_in a.log t.found a.s.now) c.from-from.ensures c.here-m.ensures)
