-- Document 01's L1 to L6 and R1 to R6 as one list, and that the definitions give what 01 says in every one of them.
-- Assumes nothing.
use mathlib.Core.Path.{sym, ap₂, ◌∙◌}
use mathlib.Core.List.{List, ◌++◌, map-append}
use Rattle.decision.specs.Examples.{Example, Agree}
use Rattle.vhdx_map.proofs.Examples as L
use Rattle.vhdx_log.proofs.Examples as R

pub examples : List Example
examples = L.examples ++ R.examples

pub agree : Agree examples
unfolding examples
agree =
    map-append (λ (e : Example). e.given) L.examples R.examples
    ∙ ap₂ ◌++◌ L.agree R.agree
    ∙ sym (map-append (λ (e : Example). e.said) L.examples R.examples)
