-- `vhdx_entry::body::data_descriptors` meets its contract: the first i keep their rule, and are counted.
use mathlib.Core.Path.{◌≡◌, sym, ap, ◌∙◌}
use mathlib.Core.Bool.{Bool, true, false, cond}
use mathlib.Core.List.{List}
use Rattle.std.specs.Prelude.{Some}
use Prim.Native.Nat.{ℕ, ◌+◌, ◌≤◌}
use native.Mathlib.Omega.{arith}
use Rattle.decision.specs.Bounded.{every, only_if}
use Rattle.decision.proofs.Laws.{every_more, every-not}
use Rattle.vhdx_entry.specs.Ring.{ring}
use Rattle.vhdx_entry.specs.Entry.{descriptor, descriptor_rule, is_data_descriptor, data_before}
use Rattle.vhdx_entry.proofs.Laws.{data-more}
use borrow.Author.Rules.{rules}
use Rattle.vhdx_entry.proofs.body.data_descriptors.Invariants.{all_rules}
use Rattle.vhdx_entry.proofs.body.data_descriptors.Goals as goal

at_most_one : (b : Bool) {x y i : ℕ} → y ≡ x + cond b 1 0 → x ≤ i → y ≤ i + 1
at_most_one true p q = omega arith
at_most_one false p q = omega arith

pub loop-i-init : goal.loop-i-init
unfolding every data_before
loop-i-init c = search rules

pub returns-then-not-keeps_rule : goal.returns-then-not-keeps_rule
returns-then-not-keeps_rule c =
    let a = c.args in
    let i = c.loop-i.i in
    let f = all_rules a.log.now a.pos.at a.number in
    let no : f i ≡ false =
    ap (descriptor_rule a.number) (sym c.at-d.ensures) ∙ sym c.keeps_rule.ensures ∙ c.if-not-keeps_rule.true in
    sym (ap (λ (x : Bool). only_if {A = ℕ} x (data_before (ring a.log.now a.pos.at) a.count)) (every-not f i a.count (omega arith) no))

pub loop-i-preserved : goal.loop-i-preserved
loop-i-preserved c =
    let inv = c.loop-i.invariant in
    let a = c.args in
    let i = c.loop-i.i in
    let r = ring a.log.now a.pos.at in
    let same = c.at-d.ensures in
    let yes : all_rules a.log.now a.pos.at a.number i ≡ true =
    ap (descriptor_rule a.number) (sym same) ∙ sym c.keeps_rule.ensures ∙ c.if-not-keeps_rule.false in
    let more = c.counted-found.ensures ∙ ap (λ (d : List ℕ). c.loop-i.found + cond (is_data_descriptor d) 1 0) same in (
      inv.0,
      inv.1,
      inv.2,
      every_more (all_rules a.log.now a.pos.at a.number) i inv.3 yes,
      more ∙ ap (λ (x : ℕ). x + cond (is_data_descriptor (descriptor r i)) 1 0) inv.4 ∙ sym (data-more r i),
      at_most_one (is_data_descriptor (descriptor r i)) more inv.5,
    )

pub returns : goal.returns
returns c =
    let inv = c.loop-i.invariant in
    let a = c.args in
    let f = all_rules a.log.now a.pos.at a.number in
    let end : c.loop-i.i ≡ a.count = omega arith in
    ap Some (inv.4 ∙ ap (data_before (ring a.log.now a.pos.at)) end)
    ∙ sym (ap (λ (x : Bool). only_if {A = ℕ} x (data_before (ring a.log.now a.pos.at) a.count)) (sym (ap (λ (m : ℕ). every m f) end) ∙ inv.3))
