-- `vhdx_entry::body::data_sectors` meets its contract: the closure is the test of a sector of the log, which is the ring's.
use mathlib.Core.Path.{sym, ap, ◌∙◌}
use Prim.Native.Nat.{◌+◌, ◌%◌}
use native.Mathlib.Omega.{arith}
use borrow.Author.Rules.{rules}
use Rattle.decision.proofs.Ranges.{every_from_all}
use Rattle.vhdx_entry.specs.Ring.{sector_at}
use Rattle.vhdx_entry.specs.Entry.{data_sector_rule}
use Rattle.vhdx_entry.proofs.Laws.{every-same, sector-on}
use Rattle.vhdx_entry.proofs.body.data_sectors.Goals as goal

pub returns : goal.returns
returns c =
    let a = c.args in
    let on = c.requires.0 in
    every_from_all (λ k. data_sector_rule a.number (sector_at a.log.now ((a.pos.at + (a.from + k)) % a.pos.len))) a.count _ _ c.all.result c.all.ensures.ran (λ x b q k. search rules)
    ∙ every-same _ _ a.count (λ k b. ap (data_sector_rule a.number) (sym (sector-on a.log.now a.pos.len a.pos.at on.1 on.0 (a.from + k) (omega (arith, c.requires.1)))))
