-- Demand 3 for closing, proved: by whether the original's log identifier is zero, its sequence number is at its greatest value, or
-- there is a log to close.
-- Assumes nothing.
use Rattle.std.specs.Prelude.{Result, Ok, Err}
use Rattle.decision.specs.declared.Refusal.{Refusal}
use mathlib.Core.Path.{◌≡◌, refl, sym, ap, subst, ◌∙◌}
use mathlib.Core.Bool.{Bool, true, false, cond, ◌&&◌}
use mathlib.Core.List.{List, [], ◌∷◌, ◌++◌}
use mathlib.Core.Logic.{inl, inr}
use Prim.Native.Nat.{ℕ, ◌+◌, ◌≤◌, ◌<◌}
use native.Mathlib.Omega.{arith}
use lib.Dec.{eqb, leb, ltb}
use lib.ListN.{length, take, get_or}
use borrow.Author.Tests.{eqb-true}
use Rattle.field.specs.Fields.{number}
use Rattle.extent.specs.declared.Extent.{Extent}
use Rattle.extent.specs.Extent.{part}
use Rattle.vhdx_header.specs.declared.Header.{Header}
use Rattle.vhdx_header.specs.Current.{current_header, other_slot}
use Rattle.vhdx_header.proofs.Laws.{accepted, read_again}
use Rattle.vhdx_walk.specs.Entries.{Sector, length_limit}
use Rattle.vhdx_log.specs.Work.{Plan, refused as unplanned, apply, apply_within, sectors_planned, count}
use Rattle.vhdx_log.specs.Plan.{log_bytes, extent_of, plan_sequence, plan_log, plan_header, plan}
use Rattle.vhdx_log.proofs.Again.{passed}
use Rattle.vhdx_sequence.specs.Sequence.{active_sequence}
use Rattle.vhdx_steps.specs.Steps.{File, Named, length_after, run, runs, grow, Ran, steps, single}
use Rattle.vhdx_steps.specs.Calls.{plan_of, final_length_of}
use Rattle.vhdx_replay.specs.Planned.{log_extent}
use Rattle.vhdx_steps.proofs.Every.{All}
use Rattle.vhdx_replay.proofs.Applying.{extent-is}
use Rattle.vhdx_steps.proofs.Reading.{header_of, reads, same-part, same_first}
use Rattle.vhdx_steps.specs.Failures.{Lost, Reopened}
use Rattle.vhdx_steps.proofs.Restart.{EndBy, Good, nothing, both, writes-good, beyond, ran, whole, admitted-good, Agree, same-image, all_done, Reads, untouched, planned, good}
use Rattle.vhdx_steps.proofs.Losses.{reopened-lost, reopened-more}
use Rattle.vhdx_steps.proofs.Sectors.{Kept}
use Rattle.field.specs.Fields.{Bytes}
use Rattle.vhdx_rewrite.specs.Rewrite.{greatest}
use Rattle.vhdx_close_steps.specs.Close.{slot_in, header_sector, closing, closed_by, close_plan, after_close, after_close_step, close_answer}
use Rattle.vhdx_close_steps.specs.Calls.{Call, close, step, refuse, interrupted-close, interrupted-step, Calls, none, then}
use Rattle.vhdx_close_steps.specs.Failures.{Failed, sectors-lost, header-lost, History, original}
use Rattle.vhdx_close_steps.specs.Safety.{Recloses, CloseSafe, ClosePowerSafe, NothingBeyondClose, HasNoLog, ClosesForGood}
use Rattle.vhdx_replay.proofs.Done.{written-size}
use Rattle.vhdx_rewrite.proofs.Slots.{slots-low, slot_same}
use Rattle.vhdx_close_steps.proofs.Again.{slots-of, KeptHere, still-current, close-again}
use Rattle.vhdx_close_steps.proofs.Histories.{throughout, as-history}
use Rattle.vhdx_close_steps.proofs.Order.{ran-nil, untouched as Kept-here, plan-is, ends, for-good, closed_after}

-- the answered length is the file's
answer-length : (identifier : List ℕ) (f : File) → (close_answer identifier f).length ≡ (after_close identifier f).size
unfolding close_answer
answer-length identifier f = go (close_plan identifier f)
  where
    go : (p : Plan) → (closed_by p (after_close identifier f) (count (plan_of f))).length ≡ (after_close identifier f).size
    go (unplanned x) = refl
    go (apply m ss) = refl

-- a plan that is refused is refused
pub refused-either : (identifier : List ℕ) (f : File) (x : ℕ) → plan_of f ≡ unplanned x → close_plan identifier f ≡ unplanned x
unfolding close_plan
refused-either identifier f x e = ap (closing (current_header f.buffer f.size) identifier f) e ∙ go (current_header f.buffer f.size)
  where
    go : (a : Result Header Refusal) → closing a identifier f (unplanned x) ≡ unplanned x
    go (Err r) = refl
    go (Ok h) = refl

-- a log shortens no file
final-grows : (f : File) → f.size ≤ final_length_of f
final-grows f = go (plan_of f) refl
  where
    go : (p : Plan) → plan_of f ≡ p → f.size ≤ length_after p f.size
    go (unplanned x) e = omega arith
    go (apply m ss) e = let x = header_of f.buffer f.size e in (reads f x.0 x.1 e).grows

module _ (identifier : List ℕ) (o : File) (h : Header) (k : current_header o.buffer o.size ≡ Ok h) {m : ℕ} {ss : List Sector} (e : plan_of o ≡ apply m ss) where
  R : Reads (Kept (extent_of h)) o m ss
  R = reads o h k e

  -- from what is kept, and what one more close leaves
  module _ (us : List Sector) (p : close_plan identifier o ≡ apply m us) (f : File) (v : Lost m us o f)
      (s : (i : ℕ) → KeptHere identifier o h k e i → get_or f.buffer i 0 ≡ get_or o.buffer i 0)
      (a : Agree m [] (after_close identifier f) (after_close identifier o)) where
    recloses : Recloses identifier o f
    unfolding part
    recloses =
        let x = accepted o.buffer o.size k in
        let low = slots-low (slots-of identifier o h k e) in
        let here : log_extent o.buffer o.size ≡ extent_of h = extent-is o.buffer o.size k in
        record {
          same_length = answer-length identifier f ∙ a.size_f ∙ sym a.size_g ∙ sym (answer-length identifier o);
          same_bytes =
              ap (λ (n : ℕ). take n (after_close identifier f).buffer) (answer-length identifier f) ∙ same-image m a
              ∙ ap (λ (n : ℕ). take n (after_close identifier o).buffer) (sym (answer-length identifier o));
          no_shorter = v.from;
          same_elsewhere = λ i l n. v.given i l (subst (λ (q : Plan). ¬ Named (sectors_planned q) i) p n);
          first_kept = λ h' k' i l n.
              let same : h' ≡ h = cc (sym k' ∙ k) in
              s i (inl l, subst (λ (y : Header). ¬ ((other_slot y.slot ≤ i) × (i < other_slot y.slot + 4096))) same n);
          log_kept =
              subst (λ (y : Extent). part f.buffer y ≡ part o.buffer y) (sym here)
              (same-part h.log_offset h.log_length o.buffer f.buffer (omega (arith, x.inside, R.grows, v.capacity R.fits)) (omega (arith, x.inside, x.fits))
              (λ i from to. s i (inr (from, to), λ y. omega (arith, y.1, low.3, x.placed.start))));
        }

  -- ---- no log: nothing is written

  module _ (log : eqb (number h.log_guid) 0 ≡ true) where
    no-log-plan : close_plan identifier o ≡ apply m ss
    unfolding close_plan
    no-log-plan = rw (k, e, log)

    same-slot : (f : File) → Lost m ss o f → slot_in f (other_slot h.slot) ≡ slot_in o (other_slot h.slot)
    same-slot f v =
        let low = slots-low (slots-of identifier o h k e) in
        let a = accepted o.buffer o.size k in
        slot_same o.buffer f.buffer (other_slot h.slot) low.3 (omega (arith, a.holds_first, R.grows, v.capacity R.fits)) (omega (arith, a.holds_first, a.fits))
        (λ i from to. untouched R v i (inl (omega (arith, low.3))))

    again : (f : File) → Lost m ss o f → close_plan identifier f ≡ apply m ss
    again f v = close-again identifier o h k e f (v.capacity R.fits) v.from v.to (λ i x. untouched R v i x.0) (λ y. same-slot f v) ∙ no-log-plan

    current-again : (f : File) → Lost m ss o f → current_header f.buffer f.size ≡ Ok h
    current-again f v = still-current identifier o h k e f (v.capacity R.fits) v.from v.to (λ i x. untouched R v i x.0) (λ y. same-slot f v)

    ran-steps : (f g : File) → Lost m ss o f → Ran (steps (close_plan identifier f)) f g → Lost m ss o g
    ran-steps f g v r = both m ss v (ran m ss (good R) v.to (v.capacity R.fits) (rw (again f v) at r)).1

    ran-single : (j : ℕ) (f g : File) → Lost m ss o f → Ran (single (close_plan identifier f) j f.size) f g → Lost m ss o g
    ran-single j f g v r =
        both m ss v (ran m ss (admitted-good (Good m ss) (steps (apply m ss)) j f.size (good R)) v.to (v.capacity R.fits) (rw (again f v) at r)).1

    closed-whole : (f : File) → Lost m ss o f → Lost m ss o (after_close identifier f)
    unfolding after_close
    closed-whole f v = ran-steps f (runs (steps (close_plan identifier f)) f) v (whole (steps (close_plan identifier f)) f)

    stepped-whole : (j : ℕ) (f : File) → Lost m ss o f → Lost m ss o (after_close_step identifier j f)
    unfolding after_close_step
    stepped-whole j f v = ran-single j f (runs (single (close_plan identifier f) j f.size) f) v (whole (single (close_plan identifier f) j f.size) f)

    called_on : (n n' : ℕ) (f g : File) → Lost m ss o f → Call identifier n f n' g → Lost m ss o g
    called_on n n' f g v close = closed-whole f v
    called_on n n' f g v (step j b) = stepped-whole j f v
    called_on n n' f g v (refuse j x r) = stepped-whole j f v
    called_on n n' f g v (interrupted-close r w) = ran-steps f g v r
    called_on n n' f g v (interrupted-step j b r w) = ran-single j f g v r

    failed-on : (f g : File) → Lost m ss o f → Failed identifier f g → Lost m ss o g
    failed-on f g v (sectors-lost l s) = both m ss v (rw (again f v) at l)
    failed-on f g v (header-lost r w) = ran-steps f g v r

    after : {n : ℕ} {d f : File} → History identifier o d n f → Lost m ss o f
    after x =
        (throughout identifier o (λ (n : ℕ) (f : File). Lost m ss o f) called_on (λ n f g. failed-on f g) (λ n f g v y. reopened-more R v y) (λ n f v. v) (nothing m ss R.grows) x).1

    alike : (f : File) → Lost m ss o f → Agree m [] (after_close identifier f) (after_close identifier o)
    unfolding after_close
    alike f v = rw (again f v, no-log-plan) (all_done R.grows R.fits R.ends v)

    no-log : {n : ℕ} {d : File} (f : File) → History identifier o d n f → Recloses identifier o f
    no-log f x = let v = after x in recloses ss no-log-plan f v (λ i y. untouched R v i y.0) (alike f v)

  -- ---- 23: nothing is written

  module _ (log : eqb (number h.log_guid) 0 ≡ false) (top : ltb h.sequence_number greatest ≡ false) where
    refused-plan : close_plan identifier o ≡ unplanned 23
    unfolding close_plan
    refused-plan = rw (k, e, log, top)

    -- the file as it came, in this buffer or another
    Same : File → Type 0
    Same f = Lost o.size [] o f

    -- it is refused as well, by 23, or by 8 where the buffer is too small
    still-refused : (f : File) → Same f → (x : ℕ) × (close_plan identifier f ≡ unplanned x)
    unfolding close_plan Same
    still-refused f v = go (plan_of f)
      where
        current : current_header f.buffer f.size ≡ Ok h
        current =
            let a = accepted o.buffer o.size k in
            let b : o.size ≤ length f.buffer = v.capacity a.fits in
            read_again o.buffer o.size k f.buffer f.size
            (same_first o.buffer f.buffer (omega (arith, a.holds_first)) (omega (arith, a.holds_first, a.fits)) (λ i l. v.given i (omega (arith, a.holds_first)) (λ x. x)))
            v.from (omega (arith, v.to))

        go : (p : Plan) → (x : ℕ) × (closing (current_header f.buffer f.size) identifier f p ≡ unplanned x)
        go (unplanned x) = (x, ap (λ (a : Result Header Refusal). closing a identifier f (unplanned x)) current)
        go (apply n us) = (23, rw (current, log, top))

    ran_on : {f g : File} → Same f → (Ran (steps (close_plan identifier f)) f g → Same g) × ((j : ℕ) → Ran (single (close_plan identifier f) j f.size) f g → Same g)
    ran_on {f} {g} v =
        let p = (still-refused f v).1 in (
          λ r. subst Same (sym (ran-nil (subst (λ (q : Plan). Ran (steps q) f g) p r))) v,
          λ j r. subst Same (sym (ran-nil (subst (λ (q : Plan). Ran (single q j f.size) f g) p r))) v,
        )

    same-call : (n n' : ℕ) (f g : File) → Same f → Call identifier n f n' g → Same g
    unfolding after_close after_close_step
    same-call n n' f g v close = (ran_on v).0 (whole (steps (close_plan identifier f)) f)
    same-call n n' f g v (step j b) = (ran_on v).1 j (whole (single (close_plan identifier f) j f.size) f)
    same-call n n' f g v (refuse j x r) = (ran_on v).1 j (whole (single (close_plan identifier f) j f.size) f)
    same-call n n' f g v (interrupted-close r w) = (ran_on v).0 r
    same-call n n' f g v (interrupted-step j b r w) = (ran_on v).1 j r

    same-failed : (f g : File) → Same f → Failed identifier f g → Same g
    unfolding Same
    same-failed f g v (sectors-lost l s) =
        let x : Lost f.size [] f g = rw (still-refused f v).1 at l in
        both o.size [] v (subst (λ (n : ℕ). Lost n [] f g) {x = f.size} {y = o.size} (omega (arith, v.from, v.to)) x)
    same-failed f g v (header-lost r w) = (ran_on v).0 r

    same-reopened : (f g : File) → Same f → Reopened f g → Same g
    unfolding Same
    same-reopened f g v x = both o.size [] v (reopened-lost o.size [] v.to (omega (arith, v.to, v.from, x.capacity, final-grows f)) x)

    same_after : {n : ℕ} {d f : File} → History identifier o d n f → Same f
    unfolding Same
    same_after x =
        (throughout identifier o (λ (n : ℕ). Same) same-call (λ n f g. same-failed f g) (λ n f g. same-reopened f g) (λ n f v. v) (nothing o.size [] (omega arith)) x).1

    unchanged : (f : File) → Same f → after_close identifier f ≡ f
    unfolding after_close
    unchanged f v = ap (λ (q : Plan). runs (steps q) f) (still-refused f v).1

    at_the_top : {n : ℕ} {d : File} (f : File) → History identifier o d n f → Recloses identifier o f
    unfolding Same part
    at_the_top f x =
        let v = same_after x in
        let a = accepted o.buffer o.size k in
        let b : o.size ≤ length f.buffer = v.capacity a.fits in
        let size : f.size ≡ o.size = omega (arith, v.from, v.to) in
        let here : log_extent o.buffer o.size ≡ extent_of h = extent-is o.buffer o.size k in
        let length-of : (g : File) → Same g → (close_answer identifier g).length ≡ o.size = λ g w. answer-length identifier g ∙ ap (λ (y : File). y.size) (unchanged g w) ∙ omega (arith, w.from, w.to) in
        let unharmed : Same o = nothing o.size [] (omega arith) in
        record {
          same_length = length-of f v ∙ sym (length-of o unharmed);
          same_bytes =
              ap (λ (n : ℕ). take n (after_close identifier f).buffer) (length-of f v)
              ∙ ap (λ (y : File). take o.size y.buffer) (unchanged f v)
              ∙ same-part 0 o.size o.buffer f.buffer (omega (arith, b)) (omega (arith, a.fits)) (λ i l u. v.given i (omega (arith, u)) (λ y. y))
              ∙ ap (λ (y : File). take o.size y.buffer) (sym (unchanged o unharmed))
              ∙ ap (λ (n : ℕ). take n (after_close identifier o).buffer) (sym (length-of o unharmed));
          no_shorter = v.from;
          same_elsewhere = λ i l n. v.given i l (λ y. y);
          first_kept = λ h' k' i l n. v.given i (omega (arith, a.holds_first)) (λ y. y);
          log_kept =
              subst (λ (y : Extent). part f.buffer y ≡ part o.buffer y) (sym here)
              (same-part h.log_offset h.log_length o.buffer f.buffer (omega (arith, a.inside, b)) (omega (arith, a.inside, a.fits))
              (λ i from to. v.given i (omega (arith, a.inside)) (λ y. y)));
        }

  -- ---- a log to close

  module _ (sixteen : length identifier ≡ 16) (named-bytes : Bytes identifier) (bytes : Bytes o.buffer) (log : eqb (number h.log_guid) 0 ≡ false)
      (raisable : ltb h.sequence_number greatest ≡ true) where
    with-log : {n : ℕ} {d : File} (f : File) → History identifier o d n f → Recloses identifier o f
    with-log f y =
        let x = closed_after identifier sixteen o h k e log raisable named-bytes bytes y in
        recloses (ss ++ (header_sector identifier o h ∷ [])) (plan-is identifier sixteen o h k e log raisable) f x.0 (Kept-here identifier sixteen o h k e f x.0) x.1

pub close-power-safe : ClosePowerSafe
close-power-safe identifier sixteen named-bytes o d f n bytes m ss e y =
    let x = header_of o.buffer o.size e in
    go x.0 x.1 (eqb (number x.0.log_guid) 0) (ltb x.0.sequence_number greatest) refl refl
  where
    go : (h : Header) (k : current_header o.buffer o.size ≡ Ok h) (s t : Bool) → eqb (number h.log_guid) 0 ≡ s → ltb h.sequence_number greatest ≡ t → Recloses identifier o f
    go h k true t p q = no-log identifier o h k e p f y
    go h k false false p q = at_the_top identifier o h k e p q f y
    go h k false true p q = with-log identifier o h k e sixteen named-bytes bytes p q f y

-- ---- the same buffer, and nothing past the final length

-- what a plan that is carried out fits into
Fits : ℕ → List Sector → File → Type 0
Fits m us f = (f.size ≤ m) × (m ≤ length f.buffer) × EndBy m us

all-good : (m : ℕ) (us : List Sector) → EndBy m us → All (Good m us) (steps (apply m us))
all-good m us b = (refl, writes-good m us us b (λ j y. y))

module _ (identifier : List ℕ) (sixteen : length identifier ≡ 16) (f : File) where
  same-fit : {m m' : ℕ} {us us' : List Sector} → apply m us ≡ apply m' us' → Fits m us f → Fits m' us' f
  unfolding Fits
  same-fit {m} {m'} {us} {us'} q x =
      let em : m ≡ m' = cc in
      let eu : us ≡ us' = cc in
      (omega (arith, x.0), omega (arith, x.1), subst (λ (n : ℕ). EndBy n us') em (subst (EndBy m) eu x.2))

  by-plan : (p : Plan) → plan_of f ≡ p → {m : ℕ} {us : List Sector} → close_plan identifier f ≡ apply m us → Fits m us f
  unfolding Fits
  by-plan (unplanned x) e {m} {us} q = let z : ◌≡◌ {A = ℕ} 0 1 = cc (sym (refused-either identifier f x e) ∙ q) in absurd (omega arith)
  by-plan (apply m' ss) e {m} {us} q =
      let x = header_of f.buffer f.size e in
      go x.0 x.1 (eqb (number x.0.log_guid) 0) (ltb x.0.sequence_number greatest) refl refl
    where
      go : (h : Header) (k : current_header f.buffer f.size ≡ Ok h) (s t : Bool) → eqb (number h.log_guid) 0 ≡ s → ltb h.sequence_number greatest ≡ t → (f.size ≤ m) × (m ≤ length f.buffer) × EndBy m us
      go h k true t p r = let R = reads f h k e in same-fit (sym (no-log-plan identifier f h k e p) ∙ q) (R.grows, R.fits, R.ends)
      go h k false false p r = let z : ◌≡◌ {A = ℕ} 0 1 = cc (sym (refused-plan identifier f h k e p r) ∙ q) in absurd (omega arith)
      go h k false true p r = let R = reads f h k e in same-fit (sym (plan-is identifier sixteen f h k e p r) ∙ q) (R.grows, R.fits, ends identifier sixteen f h k e)

  ran-capacity : {g : File} → (Ran (steps (close_plan identifier f)) f g → length g.buffer ≡ length f.buffer)
      × ((j : ℕ) → Ran (single (close_plan identifier f) j f.size) f g → length g.buffer ≡ length f.buffer)
  unfolding Fits
  ran-capacity {g} = go (close_plan identifier f) refl
    where
      go : (p : Plan) → close_plan identifier f ≡ p → (Ran (steps p) f g → length g.buffer ≡ length f.buffer) × ((j : ℕ) → Ran (single p j f.size) f g → length g.buffer ≡ length f.buffer)
      go (unplanned c) e = (λ r. ap (λ (y : File). length y.buffer) (ran-nil r), λ j r. ap (λ (y : File). length y.buffer) (ran-nil r))
      go (apply m us) e =
          let x = by-plan (plan_of f) refl e in (
            λ r. (ran m us (all-good m us x.2) x.0 x.1 r).0,
            λ j r. (ran m us (admitted-good (Good m us) (steps (apply m us)) j f.size (all-good m us x.2)) x.0 x.1 r).0,
          )

  call-capacity : {n n' : ℕ} {g : File} → Call identifier n f n' g → length g.buffer ≡ length f.buffer
  unfolding after_close after_close_step
  call-capacity close = ran-capacity.0 (whole (steps (close_plan identifier f)) f)
  call-capacity (step j b) = ran-capacity.1 j (whole (single (close_plan identifier f) j f.size) f)
  call-capacity (refuse j x r) = ran-capacity.1 j (whole (single (close_plan identifier f) j f.size) f)
  call-capacity (interrupted-close r w) = ran-capacity.0 r
  call-capacity (interrupted-step j b r w) = ran-capacity.1 j r

same-capacity : {identifier : List ℕ} → length identifier ≡ 16 → {n : ℕ} {f g : File} → Calls identifier n f g → length g.buffer ≡ length f.buffer
same-capacity sixteen none = refl
same-capacity {identifier} sixteen {f = f} (then c cs) = same-capacity sixteen cs ∙ call-capacity identifier sixteen f c

pub close-safe : CloseSafe
close-safe identifier sixteen named-bytes o f bytes m ss e cs =
    let x = as-history original cs in
    (same-capacity sixteen cs, close-power-safe identifier sixteen named-bytes o o f x.0 bytes m ss e x.1)

pub nothing-beyond-close : NothingBeyondClose
unfolding after_close after_close_step Fits
nothing-beyond-close identifier sixteen f i l = go (close_plan identifier f) refl (omega (arith, l, answer-length identifier f))
  where
    go : (p : Plan) → close_plan identifier f ≡ p → (runs (steps p) f).size ≤ i
        → (get_or (runs (steps p) f).buffer i 0 ≡ get_or f.buffer i 0) × ((k : ℕ) → get_or (runs (single p k f.size) f).buffer i 0 ≡ get_or f.buffer i 0)
    go (unplanned x) e l = (refl, λ k. refl)
    go (apply m us) e l' =
        let l : m ≤ i = omega (arith, l', written-size us (run (grow m) f)) in
        let x = by-plan identifier sixteen f (plan_of f) refl e in
        let g = all-good m us x.2 in (
          beyond m us i l (steps (apply m us)) f g x.0 x.1,
          λ k. beyond m us i l (single (apply m us) k f.size) f (admitted-good (Good m us) (steps (apply m us)) k f.size g) x.0 x.1,
        )

-- ---- for good

module _ (identifier : List ℕ) (o : File) (h : Header) (k : current_header o.buffer o.size ≡ Ok h) {m : ℕ} {ss : List Sector} (e : plan_of o ≡ apply m ss)
    (log : eqb (number h.log_guid) 0 ≡ true) where
  none-planned : apply m ss ≡ apply m []
  unfolding plan plan_header plan_log
  none-planned =
      let q : apply_within (length o.buffer) o.size [] ≡ apply m ss =
      ap (λ (t : Bool). cond t (apply_within (length o.buffer) o.size []) (plan_sequence (extent_of h) (log_bytes h o.buffer) o.size (length o.buffer) (active_sequence (log_bytes h o.buffer) h.log_guid))) (sym log)
      ∙ ap (λ (a : Result Header Refusal). plan_header a o.buffer o.size) (sym k) ∙ e in
      let p = passed (leb o.size (length o.buffer) && leb o.size length_limit) 8 (apply o.size []) q in
      cc p.1

  no-log-left : (after_close identifier o).size ≡ m → HasNoLog (after_close identifier o)
  no-log-left full =
      let v = closed-whole identifier o h k e log o (nothing m ss (reads o h k e).grows) in
      record {
        header = h;
        current = current-again identifier o h k e log (after_close identifier o) v;
        no_identifier = eqb-true (number h.log_guid) 0 log;
        no_work = planned (reads o h k e) v ∙ none-planned ∙ ap (λ (n : ℕ). apply n []) (sym full);
      }

pub closes-for-good : ClosesForGood
unfolding after_close
closes-for-good identifier sixteen named-bytes o bytes m us q = go (plan_of o) refl
  where
    sized : (after_close identifier o).size ≡ m
    sized = ap (λ (p : Plan). (runs (steps p) o).size) q ∙ written-size us (run (grow m) o)

    go : (p : Plan) → plan_of o ≡ p → HasNoLog (after_close identifier o)
    go (unplanned x) e = let z : ◌≡◌ {A = ℕ} 0 1 = cc (sym (refused-either identifier o x e) ∙ q) in absurd (omega arith)
    go (apply m' ss) e =
        let x = header_of o.buffer o.size e in
        by x.0 x.1 (eqb (number x.0.log_guid) 0) (ltb x.0.sequence_number greatest) refl refl
      where
        by : (h : Header) (k : current_header o.buffer o.size ≡ Ok h) (s t : Bool) → eqb (number h.log_guid) 0 ≡ s → ltb h.sequence_number greatest ≡ t → HasNoLog (after_close identifier o)
        by h k true t p r =
            let same : apply m' ss ≡ apply m us = sym (no-log-plan identifier o h k e p) ∙ q in
            let em : m ≡ m' = cc in
            no-log-left identifier o h k e p (sized ∙ em)
        by h k false false p r = let z : ◌≡◌ {A = ℕ} 0 1 = cc (sym (refused-plan identifier o h k e p r) ∙ q) in absurd (omega arith)
        by h k false true p r = for-good identifier sixteen o h k e p r named-bytes bytes
