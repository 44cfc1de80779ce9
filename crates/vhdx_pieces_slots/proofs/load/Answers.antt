-- `vhdx_pieces_slots::load` meets its contract.
use mathlib.Core.Path.{◌≡◌, sym, ◌∙◌, subst}
use lib.ListN.{length}
use borrow.Author.Rules.{rules}
use Rattle.vhdx_pieces_slots.specs.Loading.{known, Sound}
use Rattle.vhdx_pieces_slots.proofs.Loads.{equal-same, loaded-sound, loaded-is}
use Rattle.vhdx_pieces_slots.proofs.load.Goals as goal
use Rattle.vhdx_pieces_slots.proofs.load.Goals.{then-is_sane, else-is_sane}

pub returns : goal.returns
unfolding known
returns c =
    let ns = c.args.slots.now in
    let long : length ns ≡ 64 = search rules in
    let test : c.if-is_sane.then_some ≡ known ns =
    elim c.if-is_sane.branch [
      | then-is_sane w ↦ w.then_some-is ∙ w.eq.ensures ∙ equal-same _ _ c.save.array_long long ∙ rw (← c.machine-m.ensures, ← c.save.ensures, sym c.is_sane.ensures ∙ w.if-is_sane.true)
      | else-is_sane w ↦ w.then_some-is ∙ w.if-is_sane.false ∙ rw (← c.machine-m.ensures, sym c.is_sane.ensures ∙ w.if-is_sane.false)
    ] in
    let value = c.then_some.ensures ∙ loaded-is ns c.machine-m.ensures test in
    record { value = value; sound = subst Sound (sym value) (loaded-sound ns) }
