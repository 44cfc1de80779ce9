-- `vhdx_entry::body::ends_well` meets its contract.
use mathlib.Core.Path.{◌≡◌, sym, ◌∙◌}
use Prim.Native.Nat.{ℕ}
use native.Mathlib.Omega.{arith}
use borrow.Author.Tests.{ne_eqb}
use Rattle.vhdx_entry.specs.Ring.{ring}
use Rattle.vhdx_entry.proofs.Laws.{in-first}
use Rattle.vhdx_entry.proofs.Clauses.{other_length, sector-broken, all-but-checksum}
use Rattle.vhdx_entry.proofs.body.ends_well.Goals.{then-entry_length-size, else-entry_length-size}
use Rattle.vhdx_entry.proofs.body.ends_well.Goals as goal

pub returns-then-data_sectors : goal.returns-then-data_sectors
returns-then-data_sectors c =
    let a = c.args in
    let first = in-first a.log.now a.pos.len a.pos.at c.requires.0 c.sector-h.ensures in
    elim c.if-entry_length-size.branch [
      | then-entry_length-size w ↦
          all-but-checksum (ring a.log.now a.pos.at) (c.entry_length.ensures ∙ first 8 4 (omega arith)) c.requires.4
          w.if-entry_length-size.true c.requires.2 c.requires.1 c.sectors-front.ensures w.data_sectors.ensures (sym w.value-is ∙ c.if-data_sectors.true)
          (c.checksum.ensures ∙ first 4 4 (omega arith)) c.checksum-then-data_sectors.ensures
      | else-entry_length-size w ↦
          let no = w.value-is ∙ ne_eqb _ _ w.if-entry_length-size.false in
          let yes = c.if-data_sectors.true in
          let z : ◌≡◌ {A = ℕ} 0 1 = cc in
          absurd (omega arith)
    ]

pub returns-else-data_sectors : goal.returns-else-data_sectors
returns-else-data_sectors c =
    let a = c.args in
    let length = c.entry_length.ensures ∙ in-first a.log.now a.pos.len a.pos.at c.requires.0 c.sector-h.ensures 8 4 (omega arith) in
    c.if-data_sectors.false
    ∙ elim c.if-entry_length-size.branch [
      | then-entry_length-size w ↦
          sector-broken (ring a.log.now a.pos.at) length c.requires.4
          w.if-entry_length-size.true c.requires.2 c.requires.1 c.sectors-front.ensures w.data_sectors.ensures (sym w.value-is ∙ c.if-data_sectors.false)
      | else-entry_length-size w ↦ other_length (ring a.log.now a.pos.at) length c.requires.4 w.if-entry_length-size.false
    ]
