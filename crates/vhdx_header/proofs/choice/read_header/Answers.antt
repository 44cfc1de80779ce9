-- `vhdx_header::choice::read_header` meets its contract.
use mathlib.Core.Path.{sym, ◌∙◌}
use Rattle.vhdx_header.specs.Current.{read_header}
use Rattle.vhdx_header.proofs.choice.read_header.Goals as goal

pub returns-then-keep_rules : goal.returns-then-keep_rules
unfolding read_header
returns-then-keep_rules c =
    let h = c.header_at-h.ensures in
    simp (c.contents.ensures, sym c.keep_rules.ensures ∙ c.if-keep_rules.true, ← h)

pub returns-else-keep_rules : goal.returns-else-keep_rules
unfolding read_header
returns-else-keep_rules c =
    simp (← c.header_at-h.ensures, sym c.keep_rules.ensures ∙ c.if-keep_rules.false)
