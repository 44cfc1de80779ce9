-- Whatever is fed, the machine ends, asks for nothing that it must not, and writes what it planned or refuses.
-- Assumes nothing.
use mathlib.Core.Path.{◌≡◌, refl, sym, subst}
use mathlib.Core.Bool.{Bool, true, false, cond}
use mathlib.Core.List.{[]}
use Prim.Native.Nat.{ℕ, zero, suc, ◌+◌, ◌-◌, ◌/◌, ◌≤◌, ◌<◌}
use native.Mathlib.Nat.{mod-lt}
use native.Mathlib.Omega.{arith}
use lib.Dec.{ltb, lit≤}
use borrow.Author.Tests.{ne_eqb, lt-ltb, ltb-true, ltb-false}
use Rattle.std.specs.Prelude.{Ok, Err}
use Rattle.std.specs.declared.ops.ControlFlow.TheVariants.{Continue, Break}
use Rattle.vhdx_pieces_plan.specs.declared.Order.{Order}
use Rattle.vhdx_pieces_plan.specs.declared.Planner.{Planner}
use Rattle.vhdx_pieces_plan.specs.Planning as planning
use Rattle.vhdx_pieces_plan.specs.Planning.{sectors_of, OrderFor, plan_most}
use Rattle.vhdx_pieces_plan.proofs.Advancing.{plan-advances, plan-starts}
use Rattle.vhdx_pieces_plan.proofs.Asking.{plan-wants, plan-refuses}
use Rattle.vhdx_pieces_walk.specs.declared.Bounds.{Bounds}
use Rattle.vhdx_pieces_walk.specs.declared.Stage.{Stage}
use Rattle.vhdx_pieces_walk.specs.declared.Stage.TheVariants as stage
use Rattle.vhdx_pieces_walk.specs.declared.Walker.{Walker}
use Rattle.vhdx_pieces_walk.specs.declared.Step as walk
use Rattle.vhdx_pieces_walk.specs.declared.Step.TheVariants as walk_step
use Rattle.vhdx_pieces_walk.specs.Walking as walking
use Rattle.vhdx_pieces_walk.proofs.Allowed.{writes_apart}
use Rattle.vhdx_pieces_walk.proofs.Advancing.{walk-advances}
use Rattle.vhdx_pieces.specs.declared.Machine.TheVariants.{Planning, Growing, Reading, Writing}
use Rattle.vhdx_pieces.specs.declared.Turn.TheVariants.{Read, Grow}
use Rattle.vhdx_pieces.specs.Machines.{bounds_of, walked, walk_from, ordered, planned, step_of, work_most}
use Rattle.vhdx_pieces.specs.Fed as fed
use Rattle.vhdx_pieces.specs.Fed.{Wants, Does, Answers, AlwaysAnswers}
use Rattle.vhdx_pieces.proofs.Advancing.{starts}

-- a walker wants a sector of the log
wanted-below : (b : Bounds) (w : Walker) → walking.SaneReading b w → walking.wanted_of w < w.pos.len
wanted-below b w h = go w.stage h
  where
    go : (s : Stage) → walking.ReadingIn b w s → walking.wanted_in w s < w.pos.len
    go stage.Header h = h.on
    go stage.Descriptors h = mod-lt _ (omega (arith, h.0.standing.on))
    go (stage.Data d) h = mod-lt _ (omega (arith, h.0.standing.on))
    go (stage.Sector d) h = absurd h
    go (stage.Zeros e) h = absurd h

module _ (n : ℕ) (o : Order) (inside : o.log.offset + o.log.length ≤ n) where
  abbrev b : Bounds
  b = bounds_of o

  wants : (w : Walker) (k : ℕ) → walking.SaneReading b w → w.pos.len ≡ sectors_of o.log → Wants n (Reading (record { order = o; walker = w; unwritten = k }))
  wants w k h e =
      let l : walking.wanted_of w < o.log.length / 4096 = omega (arith, wanted-below b w h, e) in
      record { some = lit≤ tt; few = lit≤ tt; inside = omega arith }

  -- a walk's step, and the same with so many requests to come
  abbrev Doing : ℕ → walk.Step → Type 0
  Doing fuel st = (k : ℕ) → walking.Onward b (sectors_of o.log) st → walking.left_of b st ≤ fuel → Does n o fuel k (walked o k st)

  no_fuel : (st : walk.Step) → Doing 0 st
  no_fuel walk_step.Ended zero h l = fed.done
  no_fuel walk_step.Ended (suc k) h l = rw (ne_eqb (suc k) 0 (λ e. omega (arith, e))) fed.refuses
  no_fuel walk_step.Broken k h l = fed.refuses
  no_fuel (walk_step.Read w) k h l = absurd (omega (arith, ((walk-advances b w []).0 h.0).1))
  no_fuel (walk_step.Write w) k h l = absurd (omega (arith, ((walk-advances b w []).1 h.0).1))

  one_more : (fuel : ℕ) → ((st : walk.Step) → Doing fuel st) → (st : walk.Step) → Doing (suc fuel) st
  unfolding step_of
  one_more fuel ih walk_step.Ended zero h l = fed.done
  one_more fuel ih walk_step.Ended (suc k) h l = rw (ne_eqb (suc k) 0 (λ e. omega (arith, e))) fed.refuses
  one_more fuel ih walk_step.Broken k h l = fed.refuses
  one_more fuel ih (walk_step.Read w) k h l =
      fed.reads {m = Reading (record { order = o; walker = w; unwritten = k })} (wants w k h.0 h.1)
      (λ p _.
      let a = (walk-advances b w p).0 h.0 in
      ih (walking.step_of b w p) k (subst (λ (m : ℕ). walking.Onward b m (walking.step_of b w p)) h.1 a.0) (omega (arith, a.1)))
  one_more fuel ih (walk_step.Write w) zero h l = fed.refuses
  one_more fuel ih (walk_step.Write w) (suc k) h l =
      rw (lt-ltb 0 (suc k) (omega arith))
      (fed.writes {k = k} {m = Writing (record { order = o; walker = w; unwritten = suc k - 1 })} (λ p. (writes_apart b w p h.0).0)
      (λ p.
      let a = (walk-advances b w p).1 h.0 in
      subst (λ (j : ℕ). Does n o fuel k (walked o j (walking.wrote_of w))) {x = k} {y = suc k - 1} (omega arith)
      (ih (walking.wrote_of w) k (subst (λ (m : ℕ). walking.Onward b m (walking.wrote_of w)) h.1 a.0) (omega (arith, a.1)))))

  walk-does : (fuel : ℕ) (st : walk.Step) → Doing fuel st
  walk-does zero st = no_fuel st
  walk-does (suc fuel) st = one_more fuel (walk-does fuel) st

-- an order is done
from-does : (n : ℕ) (o : Order) → OrderFor n o → (fuel : ℕ) → work_most ≤ fuel → Does n o fuel o.count (walk_from o)
unfolding walk_from
from-does n o h fuel l =
    let for : OrderFor o.length o = record { longer = omega arith; limited = h.limited; short = h.short; inside = omega (arith, h.inside, h.longer); left = h.left; start = h.start } in
    let s = starts o for in
    walk-does n o h.inside fuel (walking.started (record { at = o.start; len = sectors_of o.log }) o.left) o.count s.0 (omega (arith, s.1))

order-answers : (n : ℕ) (o : planning.Outcome) (fuel : ℕ) → planning.Ordered n o → planning.NumberedIn o → work_most ≤ fuel → Answers n (suc fuel) (ordered n o)
unfolding step_of
order-answers n (Err r) fuel h q l = fed.refuses q.0 q.1
order-answers n (Ok o) fuel h q l = go (ltb n o.length) refl
  where
    go : (b : Bool) → ltb n o.length ≡ b → Answers n (suc fuel) (cond b (Grow (Growing o)) (walk_from o))
    go true e = fed.grows {o = o} (ltb-true n o.length e) refl (λ p. from-does n o h fuel l)
    go false e = fed.orders {o = o} (omega (arith, h.longer, ltb-false n o.length e)) (from-does n o h (suc fuel) (omega arith))

-- a plan's step, and the same with so many pieces to come
abbrev Planned : ℕ → ℕ → planning.Step → Type 0
Planned n fuel st = planning.Kept n st → planning.Numbered st → planning.left_of st ≤ fuel → Answers n (fuel + suc work_most) (planned n st)

-- what was decided
ended : (n fuel : ℕ) (o : planning.Outcome) → Planned n fuel (Break o)
ended n fuel o h q l =
    subst (λ (j : ℕ). Answers n j (ordered n o)) {x = suc (fuel + work_most)} {y = fuel + suc work_most} (omega arith) (order-answers n o (fuel + work_most) h q (omega arith))

piece-more : (n fuel : ℕ) → ((st : planning.Step) → Planned n fuel st) → (p : Planner) → Planned n (suc fuel) (Continue p)
unfolding step_of
piece-more n fuel ih p h q l =
    let w = plan-wants p h.0 in
    subst (λ (j : ℕ). Answers n j (Read (Planning p))) {x = suc (fuel + suc work_most)} {y = suc fuel + suc work_most} (omega arith)
    (fed.reads {m = Planning p} (record { some = w.0; few = w.1; inside = omega (arith, w.2, h.1) })
    (λ s _.
    let a = plan-advances p s h.0 in
    let st = planning.step_of p s in
    subst (λ (k : ℕ). Answers n (fuel + suc work_most) (planned k st)) (sym h.1)
    (ih st (subst (λ (k : ℕ). planning.Kept k st) h.1 a.0) (plan-refuses.1 p s) (omega (arith, a.1)))))

plan-answers : (n fuel : ℕ) (st : planning.Step) → Planned n fuel st
plan-answers n zero (Continue p) h q l = absurd (omega (arith, (plan-advances p [] h.0).1))
plan-answers n zero (Break o) h q l = ended n zero o h q l
plan-answers n (suc fuel) (Continue p) h q l = piece-more n fuel (plan-answers n fuel) p h q l
plan-answers n (suc fuel) (Break o) h q l = ended n (suc fuel) o h q l

pub always-answers : AlwaysAnswers
always-answers n capacity few =
    let s = plan-starts n capacity few in
    plan-answers n plan_most (planning.started n capacity) s.0 (plan-refuses.0 n capacity) s.1
