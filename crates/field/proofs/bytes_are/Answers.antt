-- `field::bytes_are` meets its contract.
use Rattle.std.proofs.Common.{◌∙◌, ap, List, ℕ}
use Rattle.std.proofs.lemmas.List.{take_rest}
use Rattle.field.specs.Fields.{starts}
use Rattle.field.proofs.Laws.{starts-with}
use Rattle.field.proofs.bytes_are.Goals as goal

pub returns : goal.returns
returns c =
    let a = c.args in
    c.starts_with.ensures.value
    ∙ starts-with _ a.key.now
    ∙ ap (λ (s : List ℕ). starts s a.key.now) (take_rest a.s.now a.at)
