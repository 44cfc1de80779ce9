-- `vhdx_pieces_walk::idle` meets its contract.
use mathlib.Core.Path.{◌≡◌, sym, ap, ◌∙◌}
use Prim.Native.Nat.{◌+◌, ◌-◌}
use native.Mathlib.Omega.{arith}
use lib.Dec.{eqb}
use borrow.Author.Tests.{eq-eqb, ne_eqb}
use Rattle.vhdx_pieces_entry.specs.Sector.{descriptor_in, length_in}
use Rattle.vhdx_pieces_walk.specs.Walking.{idle_from}
use Rattle.vhdx_pieces_walk.proofs.Turns.{idle-end, idle-stop, idle-more}
use mathlib.Core.Bool.{false, true}
use Rattle.vhdx_pieces_walk.proofs.idle.Goals as goal

pub loop-i-init : goal.loop-i-init
loop-i-init c = omega (arith, ap (idle_from c.args.s.now c.args.from 0) {x = c.args.m - 0} {y = c.args.m} (omega arith))

pub array_at-requires : goal.array_at-requires
array_at-requires c = omega (arith, c.requires, c.loop-i-test.true)

pub returns-then-run_length-ne0 : goal.returns-then-run_length-ne0
unfolding descriptor_in
returns-then-run_length-ne0 c =
    let inv = c.loop-i.invariant in
    let a = c.args in
    let i = c.loop-i.i in
    let no : eqb (length_in (descriptor_in a.s.now a.from i)) 0 ≡ false = ne_eqb _ 0 (λ e. c.if-run_length-ne0.true (c.run_length.ensures ∙ ap length_in c.array_at.ensures ∙ e)) in
    (omega (arith, inv, idle-stop a.s.now a.from i (a.m - i) (omega (arith, c.loop-i-test.true)) no), omega (arith, c.loop-i-test.true))

pub loop-i-preserved : goal.loop-i-preserved
unfolding descriptor_in
loop-i-preserved c =
    let inv = c.loop-i.invariant in
    let a = c.args in
    let i = c.loop-i.i in
    let yes : eqb (length_in (descriptor_in a.s.now a.from i)) 0 ≡ true = eq-eqb _ 0 (ap length_in (sym c.array_at.ensures) ∙ sym c.run_length.ensures ∙ omega (arith, c.if-run_length-ne0.false)) in
    let more = idle-more a.s.now a.from i (a.m - i) (omega (arith, c.loop-i-test.true)) yes in
    let same : idle_from a.s.now a.from (i + 1) (a.m - i - 1) ≡ idle_from a.s.now a.from (i + 1) (a.m - (i + 1)) = ap (idle_from a.s.now a.from (i + 1)) {x = a.m - i - 1} {y = a.m - (i + 1)} (omega arith) in
    omega (arith, inv, more, same)

pub returns : goal.returns
returns c =
    let inv = c.loop-i.invariant in
    let a = c.args in
    let i = c.loop-i.i in
    (omega (arith, inv, c.loop-i-test.false, idle-end a.s.now a.from i (a.m - i) (omega (arith, c.loop-i-test.false))), omega arith)
