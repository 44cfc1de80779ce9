-- `vhdx_log::survey::all` meets its contract. The loop's invariant: what was found, with what is left, is the whole.
use mathlib.Core.Path.{◌≡◌}
use Prim.Native.Nat.{◌+◌}
use lib.ListN.{length}
use Rattle.vhdx_walk.specs.Cursor.{descriptors_left, Placed}
use Rattle.vhdx_log.proofs.Surveys.{survey_from}
use Rattle.vhdx_log.proofs.survey.all.Given as goal

abbrev pub invariant-loop-found : goal.invariant-loop-found
invariant-loop-found l =
    Placed l.log l.rest
    × (survey_from (record { offset = l.log_offset; length = l.log_length }) l.found (descriptors_left l.log l.rest)
    ≡ survey_from (record { offset = l.log_offset; length = l.log_length }) l.initial.found (descriptors_left l.log l.initial.rest))

abbrev pub decreases-loop-found : goal.decreases-loop-found
decreases-loop-found l = length (descriptors_left l.log l.rest) + l.rest.left
