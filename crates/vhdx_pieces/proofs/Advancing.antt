-- Whatever is fed, a machine keeps to its bounds, and less is left.
-- Assumes nothing.
use mathlib.Core.Path.{subst}
use mathlib.Core.Bool.{Bool, true, false, cond}
use Prim.Native.Nat.{ℕ, zero, suc, ◌+◌, ◌≤◌, ◌<◌}
use native.Mathlib.Omega.{arith}
use lib.Dec.{ltb}
use borrow.Author.Tests.{ne_eqb, lt-ltb}
use Rattle.std.specs.Prelude.{Ok, Err}
use Rattle.std.specs.declared.ops.ControlFlow.TheVariants.{Continue, Break}
use Rattle.vhdx_pieces_plan.specs.declared.Order.{Order}
use Rattle.vhdx_pieces_plan.specs.Planning as planning
use Rattle.vhdx_pieces_plan.specs.Planning.{sectors_of, OrderFor}
use Rattle.vhdx_pieces_plan.proofs.Advancing.{plan-advances}
use Rattle.vhdx_pieces_walk.specs.declared.Step as walk
use Rattle.vhdx_pieces_walk.specs.declared.Step.TheVariants as walk_step
use Rattle.vhdx_pieces_walk.specs.Walking as walking
use Rattle.vhdx_pieces_walk.proofs.Advancing.{walk-advances, walk-starts}
use Rattle.vhdx_pieces.specs.declared.Machine.TheVariants.{Planning, Growing, Reading, Writing}
use Rattle.vhdx_pieces.specs.declared.Turn.{Turn}
use Rattle.vhdx_pieces.specs.declared.Turn.TheVariants.{Grow}
use Rattle.vhdx_pieces.specs.Machines.{bounds_of, walked, walk_from, ordered, planned, step_of, Kept, work_most, left_of, MachineAdvances}

-- it may be fed again, less than k being left
abbrev Below : ℕ → Turn → Type 0
Below k t = Kept t × (left_of t < k)

module _ (o : Order) (for : OrderFor o.length o) where
  walk-below : (j : ℕ) (st : walk.Step) (k : ℕ) → 0 < k → walking.Onward (bounds_of o) (sectors_of o.log) st → walking.left_of (bounds_of o) st < k → Below k (walked o j st)
  walk-below j (walk_step.Read w) k s h l = ((for, h.0, h.1), l)
  walk-below zero (walk_step.Write w) k s h l = (tt, s)
  walk-below (suc j) (walk_step.Write w) k s h l = rw (lt-ltb 0 (suc j) (omega arith)) ((for, h.0, h.1), l)
  walk-below zero walk_step.Ended k s h l = (tt, s)
  walk-below (suc j) walk_step.Ended k s h l = rw (ne_eqb (suc j) 0 (λ e. omega (arith, e))) (tt, s)
  walk-below j walk_step.Broken k s h l = (tt, s)

  pub starts : walking.Onward (bounds_of o) (sectors_of o.log) (walking.started (record { at = o.start; len = sectors_of o.log }) o.left)
      × (walking.left_of (bounds_of o) (walking.started (record { at = o.start; len = sectors_of o.log }) o.left) ≤ work_most)
  starts =
      let w = walk-starts (bounds_of o) (record { at = o.start; len = sectors_of o.log }) o.left for.start (omega (arith, for.short)) for.left in
      (w.0, omega (arith, w.1, for.limited))

  from-below : Below (suc work_most) (walk_from o)
  unfolding walk_from
  from-below = walk-below o.count (walking.started (record { at = o.start; len = sectors_of o.log }) o.left) (suc work_most) (omega arith) starts.0 (omega (arith, starts.1))

order_below : (n : ℕ) (o : planning.Outcome) (k : ℕ) → suc work_most < k → planning.Ordered n o → Below k (ordered n o)
order_below n (Err r) k l h = (tt, omega arith)
order_below n (Ok o) k l h = go (ltb n o.length)
  where
    for : OrderFor o.length o
    for = record { longer = omega arith; limited = h.limited; short = h.short; inside = omega (arith, h.inside, h.longer); left = h.left; start = h.start }

    go : (b : Bool) → Below k (cond b (Grow (Growing o)) (walk_from o))
    go true = (for, l)
    go false = ((from-below o for).0, omega (arith, (from-below o for).1))

plan-below : (n : ℕ) (st : planning.Step) (k : ℕ) → 0 < k → planning.Kept n st → planning.left_of st < k → Below (k + suc work_most) (planned n st)
plan-below n (Continue p) k s h l = (h.0, omega arith)
plan-below n (Break o) k s h l = order_below n o (k + suc work_most) (omega arith) h

pub machine-advances : MachineAdvances
unfolding step_of
machine-advances (Planning p) s h =
    let a = plan-advances p s h in
    plan-below p.context.length (planning.step_of p s) (planning.left_of (Continue p)) (omega (arith, a.1)) a.0 a.1
machine-advances (Growing o) s h = from-below o h
machine-advances (Reading d) s h =
    let o = d.order in
    let a = (walk-advances (bounds_of o) d.walker s).0 h.1 in
    walk-below o h.0 d.unwritten (walking.step_of (bounds_of o) d.walker s) _ (omega (arith, a.1)) (subst (λ (n : ℕ). walking.Onward (bounds_of o) n (walking.step_of (bounds_of o) d.walker s)) h.2 a.0) a.1
machine-advances (Writing d) s h =
    let o = d.order in
    let a = (walk-advances (bounds_of o) d.walker s).1 h.1 in
    walk-below o h.0 d.unwritten (walking.wrote_of d.walker) _ (omega (arith, a.1)) (subst (λ (n : ℕ). walking.Onward (bounds_of o) n (walking.wrote_of d.walker)) h.2 a.0) a.1
