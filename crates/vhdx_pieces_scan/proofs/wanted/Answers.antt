-- `vhdx_pieces_scan::wanted` meets its contract.
use mathlib.Core.Path.{sym, ap, ◌∙◌, subst}
use native.Mathlib.Omega.{arith}
use Rattle.vhdx_pieces_scan.specs.Scanning.{Staged, wanted_in}
use Rattle.vhdx_pieces_scan.proofs.Turns.{on-ring}
use Rattle.vhdx_entry.specs.declared.ring.RingPos.{RingPos}
use Rattle.vhdx_pieces_scan.proofs.wanted.Goals as goal

pub advance-requires : goal.advance-requires
advance-requires c =
    let s = c.args.s in
    let k = subst (Staged s.place.pos.len) c.in-Inside.is c.requires.staged in
    (on-ring c.requires.upright, omega (arith, k.short))

pub returns-in-First : goal.returns-in-First
returns-in-First c =
    let s = c.args.s in
    (sym (ap (wanted_in s.place.pos.len s.place.pos.at) c.in-First.is), on-ring c.requires.upright)

pub returns-in-Inside : goal.returns-in-Inside
returns-in-Inside c =
    let s = c.args.s in
    (ap (λ (p : RingPos). p.at) c.advance.ensures.value ∙ sym (ap (wanted_in s.place.pos.len s.place.pos.at) c.in-Inside.is), c.advance.ensures.on_ring.0)

pub returns-in-Tail : goal.returns-in-Tail
returns-in-Tail c =
    let s = c.args.s in
    let k = subst (Staged s.place.pos.len) c.in-Tail.is c.requires.staged in
    (sym (ap (wanted_in s.place.pos.len s.place.pos.at) c.in-Tail.is), k.2)
