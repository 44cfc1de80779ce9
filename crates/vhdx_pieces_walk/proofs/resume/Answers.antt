-- `vhdx_pieces_walk::resume` meets its contract.
use borrow.Author.Tests.{lt-ltb, le-ltb}
use Rattle.vhdx_pieces_walk.specs.Walking.{resumed}
use Rattle.vhdx_pieces_walk.proofs.resume.Goals as goal

pub returns-then-w : goal.returns-then-w
unfolding resumed
returns-then-w c = simp (lt-ltb _ _ c.if-w.true)

pub returns-then-w-gt1 : goal.returns-then-w-gt1
unfolding resumed
returns-then-w-gt1 c = simp (le-ltb _ _ c.if-w.false, lt-ltb _ _ c.if-w-gt1.true, c.advance.ensures.value)

pub returns : goal.returns
unfolding resumed
returns c = simp (le-ltb _ _ c.if-w.false, le-ltb _ _ c.if-w-gt1.false)
