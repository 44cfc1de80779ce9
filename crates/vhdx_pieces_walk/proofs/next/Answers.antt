-- `vhdx_pieces_walk::next` meets its contract.
use mathlib.Core.Path.{◌≡◌, sym, ap, ◌∙◌, subst}
use mathlib.Core.Bool.{Bool, true, false, ◌&&◌}
use mathlib.Core.List.{List}
use Prim.Native.Nat.{ℕ}
use lib.Dec.{leb}
use Rattle.vhdx_entry.specs.Entry.{descriptor_sectors}
use Rattle.vhdx_pieces_walk.proofs.Ordered.{both_le, first_above, second_above}
use Rattle.vhdx_pieces_walk.specs.declared.Bounds.{Bounds}
use Rattle.vhdx_pieces_walk.specs.declared.Stage.{Stage}
use Rattle.vhdx_pieces_walk.specs.declared.Walker.{Walker}
use Rattle.vhdx_pieces_walk.specs.declared.Step.{Step}
use Rattle.vhdx_pieces_walk.specs.Walking.{fits, step_in, step_of, ReadingIn, SaneReading, Onward}
use Rattle.vhdx_pieces_walk.proofs.Turns.{opened-is, header-turn, broken-turn}
use Rattle.vhdx_pieces_walk.proofs.Advancing.{walk-advances}
use Rattle.vhdx_pieces_walk.proofs.next.Goals as goal
use Rattle.vhdx_pieces_walk.proofs.next.Goals.{else-sectors-o-via-then-sectors-o+else-o, else-sectors-o-via-else-sectors-o}

tested : (o : Walker) {f : ℕ} (b : Bool) → f ≡ descriptor_sectors o.count → (leb f o.size && leb o.size o.pos.len) ≡ b → fits o ≡ b
tested o b p h = sym (ap (λ (x : ℕ). leb x o.size && leb o.size o.pos.len) p) ∙ h

onward : (b : Bounds) (w : Walker) (s : List ℕ) {r : Step} → SaneReading b w → r ≡ step_of b w s → (r ≡ step_of b w s) × Onward b w.pos.len r
onward b w s h e = (e, subst (Onward b w.pos.len) (sym e) ((walk-advances b w s).0 h).0)

pub look-requires : goal.look-requires
look-requires c =
    let a = c.args in
    (opened-is a.w a.sector.now c.opened-o.result (subst (ReadingIn a.b a.w) c.in-Header.is c.requires) c.opened-o.ensures.0 (tested c.opened-o.result true c.sectors.ensures (both_le _ _ _ c.if-sectors-o.true c.if-o.true)))

pub look-requires-in-Descriptors : goal.look-requires-in-Descriptors
look-requires-in-Descriptors c =
    ((subst (ReadingIn c.args.b c.args.w) c.in-Descriptors.is c.requires).0)

pub returns-then-o : goal.returns-then-o
returns-then-o c =
    let a = c.args in
    onward a.b a.w a.sector.now c.requires
    (c.look.ensures ∙ header-turn a.b a.w a.sector.now c.opened-o.result c.in-Header.is c.opened-o.ensures.0 (tested c.opened-o.result true c.sectors.ensures (both_le _ _ _ c.if-sectors-o.true c.if-o.true)))

pub returns-else-sectors-o : goal.returns-else-sectors-o
returns-else-sectors-o c =
    let a = c.args in
    let no : fits c.opened-o.result ≡ false =
    tested c.opened-o.result false c.sectors.ensures
    (elim c.else-sectors-o.branch [
      | else-sectors-o-via-then-sectors-o+else-o w ↦ second_above _ _ _ w.if-o.false
      | else-sectors-o-via-else-sectors-o w ↦ first_above _ _ _ w.if-sectors-o.false
    ]) in
    (broken-turn a.b a.w a.sector.now c.opened-o.result c.in-Header.is c.opened-o.ensures.0 no, tt)

pub returns-in-Descriptors : goal.returns-in-Descriptors
unfolding step_of
returns-in-Descriptors c =
    let a = c.args in
    onward a.b a.w a.sector.now c.requires
    (c.look-in-Descriptors.ensures ∙ sym (ap (λ (x : Stage). step_in a.b a.w x a.sector.now) c.in-Descriptors.is))

pub returns-in-Data : goal.returns-in-Data
unfolding step_of
returns-in-Data c =
    let a = c.args in
    onward a.b a.w a.sector.now c.requires
    (sym (ap (λ (x : Stage). step_in a.b a.w x a.sector.now) c.in-Data.is))
