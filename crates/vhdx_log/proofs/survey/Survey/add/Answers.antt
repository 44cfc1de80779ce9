-- `vhdx_log::survey::Survey::add` meets its contract.
use Rattle.std.proofs.Common.{rules}
use Rattle.vhdx_log.proofs.Surveys.{survey-path}
use Rattle.vhdx_log.proofs.survey.Survey.add.Goals as goal

pub returns : goal.returns
returns c = survey-path (search rules) (search rules) (search rules)
