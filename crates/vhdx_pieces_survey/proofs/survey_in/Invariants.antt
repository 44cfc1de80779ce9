-- `vhdx_pieces_survey::survey_in` meets its contract.
use mathlib.Core.Path.{◌≡◌}
use Prim.Native.Nat.{◌+◌, ◌*◌, ◌≤◌}
use Rattle.vhdx_pieces_survey.specs.Touring.{survey_in}
use Rattle.vhdx_pieces_survey.proofs.survey_in.Given as goal

abbrev pub invariant-loop-i : goal.invariant-loop-i
invariant-loop-i l = (l.from + 32 * l.m ≤ 4096) × (l.all ≡ survey_in l.log l.initial.all l.s l.from l.i)
