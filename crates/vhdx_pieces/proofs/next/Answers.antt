-- `vhdx_pieces::next` meets its contract.
use mathlib.Core.Path.{sym, ap, ◌∙◌, subst}
use Prim.Native.Nat.{ℕ}
use native.Mathlib.Omega.{arith}
use Rattle.std.proofs.lemmas.List.{take_all}
use Rattle.vhdx_pieces_walk.specs.Walking as walking
use Rattle.vhdx_pieces.specs.declared.Machine.{Machine}
use Rattle.vhdx_pieces.specs.Machines.{bounds_of, wanted_of, walked, step_in, step_of, Sane}
use Rattle.vhdx_pieces.proofs.next.Goals as goal

pub wrote-requires : goal.wrote-requires
wrote-requires c =
    let s = subst Sane c.in-Writing.is c.requires.0 in
    (bounds_of c.in-Writing.d.order, s.1, omega (arith, s.0.limited))

pub walk_turn-requires-in-Writing : goal.walk_turn-requires-in-Writing
walk_turn-requires-in-Writing c =
    let b = bounds_of c.in-Writing.d.order in
    let s = subst Sane c.in-Writing.is c.requires.0 in
    (s.0, subst (λ (n : ℕ). walking.Onward b n c.wrote.result) s.2 (c.wrote.ensures.1 b s.1))

pub returns-in-Reading : goal.returns-in-Reading
unfolding step_of
returns-in-Reading c =
    let p = c.args.piece.now in
    let d = c.in-Reading.d in
    let n = c.requires.1 ∙ ap (λ (x : Machine). (wanted_of x).length) c.in-Reading.is in
    let step = c.next-step.ensures.0 ∙ ap (walking.step_of (bounds_of d.order) d.walker) (c.array_at.ensures ∙ take_all 4096 p (omega (arith, n))) in
    (c.walk_turn.ensures.0 ∙ ap (walked d.order d.unwritten) step ∙ sym (ap (λ (x : Machine). step_in x p) c.in-Reading.is), c.walk_turn.ensures.1)
