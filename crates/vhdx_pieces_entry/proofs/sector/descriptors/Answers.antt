-- The first i keep their rule, and are counted. Assumes nothing.
use mathlib.Core.Path.{◌≡◌, sym, ap, ◌∙◌}
use mathlib.Core.Bool.{Bool, true, false, cond}
use mathlib.Core.List.{List}
use Rattle.std.specs.Prelude.{Some}
use Prim.Native.Nat.{ℕ, ◌+◌, ◌≤◌}
use native.Mathlib.Omega.{arith}
use native.Mathlib.Numerals.{add-one}
use Rattle.decision.specs.Bounded.{every, only_if}
use Rattle.decision.proofs.Laws.{every_more, every-not}
use Rattle.vhdx_entry.specs.Entry.{descriptor_rule, is_data_descriptor}
use Rattle.vhdx_pieces_entry.specs.Sector.{descriptor_in, passes, data_in}
use borrow.Author.Rules.{rules}
use Rattle.vhdx_pieces_entry.proofs.sector.descriptors.Invariants.{all_rules}
use Rattle.vhdx_pieces_entry.proofs.sector.descriptors.Goals as goal

at_most_one : (b : Bool) {x y i : ℕ} → y ≡ x + cond b 1 0 → x ≤ i → y ≤ i + 1
at_most_one true p q = omega arith
at_most_one false p q = omega arith

more-data : (s : List ℕ) (from i : ℕ) → data_in s from (i + 1) ≡ data_in s from i + cond (is_data_descriptor (descriptor_in s from i)) 1 0
unfolding data_in
more-data s from i = rw (add-one i)

pub loop-i-init : goal.loop-i-init
unfolding every data_in
loop-i-init c = search rules

pub returns-then-not-keeps_rule : goal.returns-then-not-keeps_rule
unfolding passes descriptor_in
returns-then-not-keeps_rule c =
    let a = c.args in
    let i = c.loop-i.i in
    let f = all_rules a.s.now a.from a.number in
    let no : f i ≡ false =
    ap (descriptor_rule a.number) (sym c.array_at-d.ensures) ∙ sym c.keeps_rule.ensures ∙ c.if-not-keeps_rule.true in
    sym (ap (λ (x : Bool). only_if {A = ℕ} x (data_in a.s.now a.from a.m)) (every-not f i a.m (omega arith) no))

pub loop-i-preserved : goal.loop-i-preserved
unfolding descriptor_in
loop-i-preserved c =
    let inv = c.loop-i.invariant in
    let a = c.args in
    let i = c.loop-i.i in
    let same = c.array_at-d.ensures in
    let yes : all_rules a.s.now a.from a.number i ≡ true =
    ap (descriptor_rule a.number) (sym same) ∙ sym c.keeps_rule.ensures ∙ c.if-not-keeps_rule.false in
    let more = c.counted-found.ensures ∙ ap (λ (d : List ℕ). c.loop-i.found + cond (is_data_descriptor d) 1 0) same in (
      inv.0,
      every_more (all_rules a.s.now a.from a.number) i inv.1 yes,
      more ∙ ap (λ (x : ℕ). x + cond (is_data_descriptor (descriptor_in a.s.now a.from i)) 1 0) inv.2 ∙ sym (more-data a.s.now a.from i),
      at_most_one (is_data_descriptor (descriptor_in a.s.now a.from i)) more inv.3,
    )

pub returns : goal.returns
unfolding passes
returns c =
    let inv = c.loop-i.invariant in
    let a = c.args in
    let f = all_rules a.s.now a.from a.number in
    let end : c.loop-i.i ≡ a.m = omega arith in
    ap Some (inv.2 ∙ ap (data_in a.s.now a.from) end)
    ∙ sym (ap (λ (x : Bool). only_if {A = ℕ} x (data_in a.s.now a.from a.m)) (sym (ap (λ (m : ℕ). every m f) end) ∙ inv.1))
