-- `vhdx_walk::Walk::nth` meets its contract.
use mathlib.Core.Path.{ap, ◌∙◌}
use mathlib.Core.List.{List}
use lib.ListN.{get_elem?}
use Rattle.vhdx_walk.specs.Entries.{Sector}
use Rattle.vhdx_walk.specs.Walk.{sectors_left}
use Rattle.vhdx_walk.proofs.Sectors.{nth_drop}
use Rattle.vhdx_walk.proofs.Walk.nth.Goals as goal

pub returns-clause-next : goal.returns-clause-next
returns-clause-next c =
    let a = c.args in
    c.current.ensures.next ∙ ap (λ (l : List Sector). get_elem? l 0) c.forward.ensures.rest.0 ∙ nth_drop (sectors_left a.log.now a.self) a.k
