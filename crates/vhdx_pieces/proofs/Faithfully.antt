-- Fed one file faithfully, the machine ends, having asked for the whole-buffer form's growth and writes, or with its refusal.
-- Assumes nothing.
use mathlib.Core.Path.{◌≡◌, sym, ap, ◌∙◌, subst}
use mathlib.Core.Bool.{Bool, true, false, cond}
use mathlib.Core.List.{List, ◌∷◌, ◌++◌, map}
use Prim.Native.Nat.{ℕ, ◌+◌, ◌-◌, ◌*◌, ◌≤◌, ◌<◌}
use native.Mathlib.Decide.{dec_lt}
use native.Mathlib.Omega.{arith}
use lib.Dec.{ltb, lit≤}
use lib.ListN.{length, take, drop, replicate, length-append, length-drop, length-replicate}
use lib.Seq.{length-take-le, take-append-le, drop-append-le, drop-drop}
use borrow.Author.Tests.{lt-ltb, lt-leb}
use Rattle.std.specs.Prelude.{Ok, Err}
use Rattle.decision.specs.declared.Refusal.TheVariants.{ImageLength}
use Rattle.field.specs.Fields.{Bytes}
use Rattle.field.proofs.Bytes.{bytes-append, bytes_take, bytes_drop, bytes-zeros}
use Rattle.extent.specs.declared.Extent.{Extent}
use Rattle.extent.specs.Extent.{part}
use Rattle.vhdx_entry.specs.Ring.{sector_count, sector_at}
use Rattle.vhdx_entry.proofs.Laws.{within-take}
use Rattle.vhdx_walk.specs.Entries.{Sector, sectors}
use Rattle.vhdx_walk.specs.Cursor.{descriptors_on}
use Rattle.vhdx_log.specs.Work.{Plan, refused, apply, count}
use Rattle.vhdx_log.specs.Plan.{plan}
use Rattle.vhdx_log.specs.Answers.{log_of}
use Rattle.vhdx_log.proofs.Answering.{plan-refused}
use Rattle.vhdx_header.specs.Current.{current_header}
use Rattle.vhdx_pieces_plan.specs.declared.Order.{Order}
use Rattle.vhdx_pieces_plan.specs.Planning as planning
use Rattle.vhdx_pieces_plan.specs.Planning.{sectors_of, sector_in}
use Rattle.vhdx_pieces_plan.proofs.Planned.{plans-all}
use Rattle.vhdx_pieces_walk.specs.declared.Step as walk_step
use Rattle.vhdx_pieces_walk.specs.Walking as walking
use Rattle.vhdx_pieces_walk.proofs.Walked.{writes-all}
use Rattle.vhdx_pieces.specs.declared.Machine.TheVariants.{Planning, Growing, Reading, Writing}
use Rattle.vhdx_pieces.specs.declared.Turn.TheVariants.{Grow, Refused}
use Rattle.vhdx_pieces.specs.Machines.{bounds_of, walked, walk_from, ordered, planned, started, step_of}
use Rattle.vhdx_pieces.specs.Runs as runs
use Rattle.vhdx_pieces.specs.Runs.{Request, grow, write, Result, refusal, finished, Ends, buffered, requests, result_of, Faithful}

module _ (f b : List ℕ) (same : (e : Extent) → e.offset + e.length ≤ length f → part b e ≡ part f e) where
  -- the planner's run
  lift-plan : {st : planning.Step} {o : planning.Outcome} {rs : List Request} {x : Result} → planning.Plans b (length f) st o
      → ((p : List ℕ) → Ends f p (ordered (length f) o) rs x) → (p : List ℕ) → Ends f p (planned (length f) st) rs x
  unfolding step_of
  lift-plan planning.stop h p = h p
  lift-plan {rs = rs} {x = x} (planning.next {p = m} sized inside short r) h p =
      runs.reads {m = Planning m} {rs = rs} {x = x} inside short
      (subst (λ (n : ℕ). Ends f (part f (planning.wanted_of m)) (planned n (planning.step_of m (part f (planning.wanted_of m)))) rs x) (sym sized)
      (subst (λ (l : List ℕ). Ends f (part f (planning.wanted_of m)) (planned (length f) (planning.step_of m l)) rs x) (same (planning.wanted_of m) inside)
      (lift-plan r h (part f (planning.wanted_of m)))))

  -- sector k of the log
  sector-part : (log : Extent) (k : ℕ) → k < sectors_of log → part b (sector_in log k) ≡ sector_at (part b log) k
  unfolding part sector_at
  sector-part log k h =
      sym
      (within-take 4096 (k * 4096) log.length (drop log.offset b) (omega arith)
      ∙ ap (take 4096) (drop-drop (k * 4096) log.offset b ∙ ap (λ (x : ℕ). drop x b) {x = log.offset + k * 4096} {y = log.offset + 4096 * k} (omega arith)))

  -- the walker's run
  module _ (o : Order) (log : List ℕ) (log_is : part b o.log ≡ log) (sized : sector_count log ≡ sectors_of o.log) (inside : o.log.offset + o.log.length ≤ length f) where
    read_is : (k : ℕ) → k < sector_count log → part f (sector_in o.log k) ≡ sector_at log k
    read_is k h = sym (same (sector_in o.log k) (omega arith)) ∙ sector-part o.log k (omega arith) ∙ ap (λ (l : List ℕ). sector_at l k) log_is

    lift-walk : {p : List ℕ} {st : walk_step.Step} {ss : List Sector} → walking.Writes log (bounds_of o) p st ss → (k : ℕ) → k ≡ length ss
        → Ends f p (walked o k st) (map write ss) (finished o.length o.count)
    unfolding step_of
    lift-walk walking.stop k e = rw e runs.done
    lift-walk (walking.reads {w} {ss} below r) k e =
        runs.reads {m = Reading (record { order = o; walker = w; unwritten = k })} {rs = map write ss} {x = finished o.length o.count} (omega arith) (lit≤ tt)
        (subst (λ (l : List ℕ). Ends f l (walked o k (walking.step_of (bounds_of o) w l)) (map write ss) (finished o.length o.count)) (sym (read_is (walking.wanted_of w) below)) (lift-walk r k e))
    lift-walk (walking.writes {w} {ss} r) k e =
        rw (lt-ltb 0 k (omega (arith, e)))
        (runs.writes {m = Writing (record { order = o; walker = w; unwritten = k - 1 })} {rs = map write ss} {x = finished o.length o.count} (λ q. lift-walk (r q) (k - 1) (omega (arith, e))))

-- ---- the work of an order

module _ (f b : List ℕ) (same : (e : Extent) → e.offset + e.length ≤ length f → part b e ≡ part f e) (bytes : Bytes b) where
  abbrev log : List ℕ
  log = log_of b (length f)

  -- the sectors that an order names
  abbrev named : Order → List Sector
  named o = sectors (descriptors_on log o.start 0 o.left)

  module _ (o : Order) (counted : o.count ≡ length (named o)) where
    abbrev Ending : List ℕ → Type 0
    Ending p = Ends f p (walk_from o) (map write (named o)) (finished o.length o.count)

    none_left : o.left ≡ 0 → (p : List ℕ) → Ending p
    unfolding walk_from descriptors_on
    none_left e p =
        let none : o.count ≡ 0 = counted ∙ ap (λ (k : ℕ). length (sectors (descriptors_on log o.start 0 k))) e in
        rw (e, none) runs.done

    some_left : planning.Walks (length f) b log o → (p : List ℕ) → Ending p
    unfolding walk_from part
    some_left w p =
        let counts : sector_count log ≡ sectors_of o.log = omega (arith, w.whole) in
        let here = subst Bytes w.log_is (bytes_take o.log.length (drop o.log.offset b) (bytes_drop o.log.offset b bytes)) in
        let run = writes-all log (bounds_of o) o.start o.left p here (omega (arith, w.whole)) (omega (arith, w.start, counts)) w.readable w.bounded w.apart in
        lift-walk f b same o log w.log_is counts w.inside
        (subst (λ (n : ℕ). walking.Writes log (bounds_of o) p (walking.started (record { at = o.start; len = n }) o.left) (named o)) counts run) o.count counted

    walks : (0 < o.left → planning.Walks (length f) b log o) → (p : List ℕ) → Ending p
    walks w p = go (dec_lt 0 o.left)
      where
        go : Dec (0 < o.left) → Ending p
        go (yes h) = some_left (w h) p
        go (no h) = none_left (omega arith) p

    -- growth first, only where the final length is greater
    does : (0 < o.left → planning.Walks (length f) b log o) → (t : Bool) → (p : List ℕ)
        → Ends f p (cond t (Grow (Growing o)) (walk_from o)) (cond t (grow o.length ∷ map write (named o)) (map write (named o))) (finished o.length o.count)
    unfolding step_of
    does w true p = runs.grows {m = Growing o} (λ q. walks w q)
    does w false p = walks w p

  outcome-ends : (o : planning.Outcome) → planning.Decides b (length f) o → (p : List ℕ) → Ends f p (ordered (length f) o) (requests (length f) (plan b (length f))) (result_of (plan b (length f)))
  outcome-ends (Err r) d p = subst (λ (x : Plan). Ends f p (Refused r) (requests (length f) x) (result_of x)) d.same runs.refuses
  outcome-ends (Ok o) d p =
      let counted : o.count ≡ length (named o) = d.counted ∙ sym (ap count d.same) in
      subst (λ (x : Plan). Ends f p (ordered (length f) (Ok o)) (requests (length f) x) (result_of x)) d.same
      (subst (λ (k : ℕ). Ends f p (ordered (length f) (Ok o)) (requests (length f) (apply o.length (named o))) (finished o.length k)) counted
      (does o counted d.walks (ltb (length f) o.length) p))

-- ---- a buffer of the stated capacity

length-buffered : (capacity : ℕ) (f : List ℕ) → length (buffered capacity f) ≡ capacity
unfolding buffered
length-buffered capacity f = length-take-le capacity (f ++ replicate capacity 0) (simp (length-append, length-replicate) (omega arith))

same-part : (capacity : ℕ) (f : List ℕ) → length f ≤ capacity → (e : Extent) → e.offset + e.length ≤ length f → part (buffered capacity f) e ≡ part f e
unfolding buffered part
same-part capacity f h e l =
    within-take e.length e.offset capacity (f ++ replicate capacity 0) (omega arith)
    ∙ ap (take e.length) (drop-append-le e.offset f (replicate capacity 0) (omega arith))
    ∙ take-append-le e.length (drop e.offset f) (replicate capacity 0) (simp length-drop (omega arith))

bytes-buffered : (capacity : ℕ) (f : List ℕ) → Bytes f → Bytes (buffered capacity f)
unfolding buffered
bytes-buffered capacity f h = bytes_take capacity (f ++ replicate capacity 0) (bytes-append f (replicate capacity 0) h (bytes-zeros capacity))

-- 1
current-1 : (b : List ℕ) (n : ℕ) → length b < n → current_header b n ≡ Err ImageLength
unfolding current_header
current-1 b n h = rw (lt-leb n (length b) h)

too_long : (capacity : ℕ) (f : List ℕ) → capacity < length f → refused 1 ≡ plan (buffered capacity f) (length f)
too_long capacity f h = plan-refused (buffered capacity f) (length f) ImageLength (refused-1 h)
  where
    refused-1 : capacity < length f → current_header (buffered capacity f) (length f) ≡ Err ImageLength
    refused-1 h = current-1 (buffered capacity f) (length f) (omega (arith, length-buffered capacity f))

pub faithful : Faithful
faithful f capacity p bytes = go (dec_lt capacity (length f))
  where
    go : Dec (capacity < length f) → Ends f p (started (length f) capacity) (requests (length f) (plan (buffered capacity f) (length f))) (result_of (plan (buffered capacity f) (length f)))
    go (yes h) =
        subst (λ (x : Plan). Ends f p (started (length f) capacity) (requests (length f) x) (result_of x)) (too_long capacity f h)
        (rw (lt-leb (length f) capacity h) runs.refuses)
    go (no h) =
        let b = buffered capacity f in
        let same = same-part capacity f (omega arith) in
        let r = plans-all b (length f) in
        subst (λ (n : ℕ). Ends f p (started (length f) n) (requests (length f) (plan b (length f))) (result_of (plan b (length f)))) (length-buffered capacity f)
        (lift-plan f b same r.1 (outcome-ends f b same (bytes-buffered capacity f bytes) r.0 r.2) p)
