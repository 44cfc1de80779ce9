-- `vhdx_pieces_entry::first` meets its contract.
use mathlib.Core.Path.{◌∙◌}
use Rattle.vhdx_pieces_entry.specs.Pass.{Kept}
use Rattle.vhdx_pieces_entry.proofs.Laws.{also}
use Rattle.vhdx_pieces_entry.proofs.Keeping.{first_taken, first-sane, bad-header, too-long, kept-first}
use Rattle.vhdx_pieces_entry.proofs.first.Goals.{else-keeps_rules-via-then-keeps_rules+else-fits, else-keeps_rules-via-else-keeps_rules}
use Rattle.vhdx_pieces_entry.proofs.first.Goals as goal

pub on_front-requires : goal.on_front-requires
on_front-requires c =
    let a = c.args in
    (c.requires, first-sane a.guid a.n a.s.now c.descriptor_count.ensures.value c.sectors.ensures c.keeps_rules.ensures c.requires c.if-keeps_rules.true c.if-fits.true c.begin.ensures.0)

pub returns-then-fits : goal.returns-then-fits
returns-then-fits c =
    let a = c.args in
    let parts = also (Kept a.n) (c.on_front.ensures ∙ first_taken a.guid a.n a.s.now c.descriptor_count.ensures.value c.sectors.ensures c.keeps_rules.ensures c.if-keeps_rules.true c.if-fits.true c.begin.ensures.0)
    (kept-first a.guid a.n a.s.now c.requires) in
    record { value = parts.0; kept = parts.1 }

pub returns-else-keeps_rules : goal.returns-else-keeps_rules
returns-else-keeps_rules c =
    let a = c.args in
    record {
      value =
          elim c.else-keeps_rules.branch [
            | else-keeps_rules-via-then-keeps_rules+else-fits w ↦ too-long a.guid a.n a.s.now c.descriptor_count.ensures.value c.sectors.ensures c.keeps_rules.ensures w.if-fits.false
            | else-keeps_rules-via-else-keeps_rules w ↦ bad-header a.guid a.n a.s.now c.descriptor_count.ensures.value c.sectors.ensures c.keeps_rules.ensures w.if-keeps_rules.false
          ];
      kept = tt;
    }
