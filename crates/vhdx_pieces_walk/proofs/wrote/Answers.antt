-- `vhdx_pieces_walk::wrote` meets its contract.
use mathlib.Core.Path.{◌≡◌, sym, ap, ◌∙◌, subst}
use mathlib.Core.List.{[]}
use native.Mathlib.Omega.{arith}
use borrow.Author.Tests.{lt-ltb, le-ltb}
use Rattle.vhdx_pieces_walk.specs.declared.Bounds.{Bounds}
use Rattle.vhdx_pieces_walk.specs.declared.Step.{Step}
use Rattle.vhdx_pieces_walk.specs.declared.Walker.{Walker}
use Rattle.vhdx_pieces_walk.specs.Walking.{wrote_in, wrote_of, WritingIn, SaneWriting, Onward}
use Rattle.vhdx_pieces_walk.proofs.Allowed.{allowed-is}
use Rattle.vhdx_pieces_walk.proofs.Advancing.{walk-advances}
use Rattle.vhdx_pieces_walk.proofs.wrote.Goals as goal

onward : (w : Walker) {r : Step} → r ≡ wrote_of w → (r ≡ wrote_of w) × ((b : Bounds) → SaneWriting b w → Onward b w.pos.len r)
onward w e = (e, λ b h. subst (Onward b w.pos.len) (sym e) ((walk-advances b w []).1 h).0)

pub resume-requires : goal.resume-requires
resume-requires c =
    (subst (WritingIn c.requires.0 c.args.w) c.in-Sector.is c.requires.1).0

pub overflow_add-result : goal.overflow_add-result
overflow_add-result c =
    let s = subst (WritingIn c.requires.0 c.args.w) c.in-Zeros.is c.requires.1 in
    record { fits = omega (arith, (allowed-is c.requires.0 c.in-Zeros.span.offset c.in-Zeros.span.length s.2).0, c.requires.2, c.if-span-gt4096.true) }

pub resume-requires-else-span-gt4096 : goal.resume-requires-else-span-gt4096
resume-requires-else-span-gt4096 c =
    (subst (WritingIn c.requires.0 c.args.w) c.in-Zeros.is c.requires.1).0

pub returns-in-Sector : goal.returns-in-Sector
unfolding wrote_of
returns-in-Sector c = let w = c.args.w in onward w (c.resume.ensures ∙ sym (ap (wrote_in w) c.in-Sector.is))

pub returns-then-span-gt4096 : goal.returns-then-span-gt4096
unfolding wrote_of
returns-then-span-gt4096 c =
    let w = c.args.w in
    onward w (simp (c.in-Zeros.is, lt-ltb _ _ c.if-span-gt4096.true))

pub returns-else-span-gt4096 : goal.returns-else-span-gt4096
unfolding wrote_of
returns-else-span-gt4096 c =
    let w = c.args.w in
    onward w (c.resume-else-span-gt4096.ensures ∙ simp (c.in-Zeros.is, le-ltb _ _ c.if-span-gt4096.false))
