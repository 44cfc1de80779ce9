-- `vhdx_walk::cursor::Cursor::next` meets its contract.
use mathlib.Core.Path.{◌≡◌, ◌∙◌}
use Prim.Native.Nat.{◌<◌}
use native.Mathlib.Omega.{arith}
use Rattle.vhdx_entry.specs.Ring.{ring}
use Rattle.vhdx_entry.specs.Entry.{descriptor_count}
use Rattle.vhdx_entry.proofs.Laws.{in-first}
use Rattle.vhdx_walk.proofs.Moves.{on-done, stands, reads as readable, to-entry}
use Rattle.vhdx_walk.proofs.cursor.Cursor.next.Goals as goal

pub returns-then-self-eq0 : goal.returns-then-self-eq0
returns-then-self-eq0 c = on-done c.args.log.now c.args.self.pos.at c.args.self.index c.args.self.left c.if-self-eq0.true

pub sector-requires : goal.sector-requires
sector-requires c = (stands c.args.log.now c.args.self c.requires (omega arith)).on

pub descriptor-requires : goal.descriptor-requires
descriptor-requires c =
    let a = c.args in
    let log = a.log.now in
    let more : 0 < a.self.left = omega arith in (
      c.requires,
      more,
      c.descriptor_count-count.ensures.value
          ∙ in-first log a.self.pos.len a.self.pos.at (stands log a.self c.requires more).on c.sector.ensures 24 4 (omega arith),
      c.descriptor_count-count.ensures.upper_bound,
      c.if-self-count.true,
    )

pub returns-then-self-count : goal.returns-then-self-count
returns-then-self-count c = c.descriptor.ensures

pub next-requires : goal.next-requires
next-requires c =
    let a = c.args in
    let log = a.log.now in
    let more : 0 < a.self.left = omega arith in
    ((stands log a.self c.requires more).on, readable log a.self c.requires more)

pub returns : goal.returns
returns c =
    let a = c.args in
    let log = a.log.now in
    let more : 0 < a.self.left = omega arith in
    let count : c.descriptor_count-count.result ≡ descriptor_count (ring log a.self.pos.at) =
    c.descriptor_count-count.ensures.value
    ∙ in-first log a.self.pos.len a.self.pos.at (stands log a.self c.requires more).on c.sector.ensures 24 4 (omega arith) in
    to-entry log a.self c.requires more c.next.result c.next.ensures.0 c.next.ensures.1 (omega arith)
