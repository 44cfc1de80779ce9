-- What steps leave of a file, run or torn, is a loss (`Lost`); losses of a file leave a loss of it; and all steps done then leave the same
-- file as on the file as it came.
-- Assumes what `Reads` says of the reader of the headers and the log.
use mathlib.Core.Path.{◌≡◌, refl, sym, ◌∙◌}
use mathlib.Core.Logic.{◌⊎◌, inl, inr, ⊎_elim}
use mathlib.Core.List.{List, [], ◌∷◌, map}
use mathlib.Core.Bool.{Bool, true, false}
use Prim.Native.Nat.{ℕ, zero, suc, ◌≤◌, ◌<◌}
use native.Mathlib.Omega.{arith}
use lib.ListN.{length, take, get_or, get_elem?}
use lib.Dec.{leb}
use lib.Seq.{length-take-le, get_or-take, ext_get_or}
use Rattle.decision.specs.Refusal.{refused, answered, check}
use Rattle.vhdx_walk.specs.Entries.{Sector}
use Rattle.vhdx_log.specs.Work.{apply}
use Rattle.vhdx_steps.specs.Steps.{File, end, In, Named, Step, grow, write, run, runs, Torn, Ran, stop, torn, next, steps, admitted, steps_of}
use Rattle.vhdx_steps.specs.Calls.{plan_of, Call, attach, step}
use Rattle.vhdx_steps.specs.Failures.{Lost}
use Rattle.vhdx_steps.proofs.Every.{All}
use Rattle.vhdx_steps.proofs.Bytes.{lt-or-le, put-length, put_in, put-out, zeroed-length, zeroed-in, zeroed-low, zeroed-high}

-- each of the sectors ends at m or before
abbrev pub EndBy : ℕ → List Sector → Type 0
EndBy m ss = All (λ (s : Sector). end s ≤ m) ss

-- ---- what work leaves is a loss

-- a step of the plan
abbrev pub Good : ℕ → List Sector → Step → Type 0
Good m ss (grow k) = k ≡ m
Good m ss (write s) = (end s ≤ m) × ((i : ℕ) → In i s → Named ss i)

torn-length : (s : Step) (f g : File) → Torn s f g → length g.buffer ≡ length f.buffer
torn-length (grow k) f g t = t.capacity
torn-length (write s) f g t = t.capacity

module _ (m : ℕ) (ss : List Sector) where
  -- nothing lost is a loss, and what two losses leave is one
  pub nothing : {f : File} → f.size ≤ m → Lost m ss f f
  nothing grows = record { from = omega arith; to = grows; given = λ i l n. refl; zeros = λ i l h n. absurd (omega arith); capacity = λ x. omega (arith, x) }

  pub both : {f g h : File} → Lost m ss f g → Lost m ss g h → Lost m ss f h
  both {f} {g} {h} a b =
      record {
        from = omega (arith, a.from, b.from);
        to = omega (arith, a.to, b.to);
        given = λ i l n. b.given i (omega (arith, a.from)) n ∙ a.given i l n;
        zeros = λ i l k n. ⊎_elim (λ x. b.given i x n ∙ a.zeros i l x n) (λ x. b.zeros i x k n) (lt-or-le i g.size);
        capacity = λ x. b.capacity (a.capacity x);
      }

  -- a step that is done is a case of a step that is torn
  pub done : (s : Step) (f : File) → Good m ss s → f.size ≤ m → m ≤ length f.buffer → Torn s f (run s f)
  done (grow k) f e grows fits =
      let a : f.size ≤ k = omega arith in
      let b : k ≤ length f.buffer = omega arith in
      record {
        capacity = zeroed-length f.buffer f.size k a b;
        from = a;
        to = omega arith;
        given = zeroed-low f.buffer f.size k a b;
        zeros = zeroed-in f.buffer f.size k a b;
      }
  done (write s) f q grows fits =
      let b : end s ≤ length f.buffer = omega (arith, q.0) in
      record { capacity = put-length f.buffer s.offset s.bytes b; same_size = refl; rest = put-out f.buffer s.offset s.bytes b }

  -- a torn step is a loss
  pub of-step : (s : Step) {f g : File} → Good m ss s → f.size ≤ m → Torn s f g → Lost m ss f g
  of-step (grow k) e grows t =
      record {
        from = t.from;
        to = omega (arith, t.to);
        given = λ i l n. t.given i l;
        zeros = λ i l h n. t.zeros i l h;
        capacity = λ x. omega (arith, t.capacity);
      }
  of-step (write s) q grows t =
      record {
        from = omega (arith, t.same_size);
        to = omega (arith, t.same_size);
        given = λ i l n. t.rest i (λ x. n (q.1 i x));
        zeros = λ i l h n. absurd (omega (arith, t.same_size));
        capacity = λ x. omega (arith, t.capacity);
      }

  stays : (s : Step) (f : File) → Good m ss s → f.size ≤ m → (run s f).size ≤ m
  stays (grow k) f e grows = omega arith
  stays (write s) f q grows = grows

  -- and so is what steps leave, run or torn, in the buffer that it was
  pub ran : {w : List Step} {f g : File} → All (Good m ss) w → f.size ≤ m → m ≤ length f.buffer → Ran w f g
      → (length g.buffer ≡ length f.buffer) × Lost m ss f g
  ran a grows fits stop = (refl, nothing grows)
  ran {f = f} {g = g} a grows fits (torn {s = s} t) = (torn-length s f g t, of-step s a.0 grows t)
  ran {f = f} a grows fits (next {s = s} r) =
      let t = done s f a.0 grows fits in
      let d = of-step s a.0 grows t in
      let x = ran a.1 (stays s f a.0 grows) (d.capacity fits) r in
      (x.0 ∙ torn-length s f (run s f) t, both d x.1)

-- to run all steps is one way for them to go
pub whole : (w : List Step) (f : File) → Ran w f (runs w f)
whole [] f = stop
whole (s ∷ w) f = next (whole w (run s f))

-- the steps of the plan are good, and so is the one that is picked
pub writes-good : (m : ℕ) (ss ts : List Sector) → EndBy m ts → ((i : ℕ) → Named ts i → Named ss i) → All (Good m ss) (map write ts)
writes-good m ss [] e n = tt
writes-good m ss (t ∷ ts) e n = ((e.0, λ i x. n i (inl x)), writes-good m ss ts e.1 (λ i x. n i (inr x)))

pub admitted-good : (P : Step → Type 0) (w : List Step) (k size : ℕ) → All P w → All P (steps_of (admitted size (get_elem? w k)))
admitted-good P [] k size a = tt
admitted-good P (grow m ∷ w) zero size a = (a.0, tt)
admitted-good P (write s ∷ w) zero size a = fit (leb (end s) size)
  where
    fit : (b : Bool) → All P (steps_of (check b (refused 22) (answered (write s))))
    fit true = (a.0, tt)
    fit false = tt
admitted-good P (s ∷ w) (suc k) size a = admitted-good P w k size a.1

-- nothing is written from m on
pub beyond : (m : ℕ) (ss : List Sector) (i : ℕ) → m ≤ i → (w : List Step) (f : File) → All (Good m ss) w → f.size ≤ m → m ≤ length f.buffer → get_or (runs w f).buffer i 0 ≡ get_or f.buffer i 0
beyond m ss i h [] f a low fits = refl
beyond m ss i h (grow k ∷ w) f a low fits =
    let e : k ≡ m = a.0 in
    let s : f.size ≤ k = omega arith in
    let b : k ≤ length f.buffer = omega arith in
    beyond m ss i h w (run (grow k) f) a.1 (omega arith) (omega (arith, zeroed-length f.buffer f.size k s b))
    ∙ zeroed-high f.buffer f.size k s b i (omega arith)
beyond m ss i h (write s ∷ w) f a low fits =
    let b : end s ≤ length f.buffer = omega (arith, a.0.0) in
    beyond m ss i h w (run (write s) f) a.1 low (omega (arith, put-length f.buffer s.offset s.bytes b))
    ∙ put-out f.buffer s.offset s.bytes b i (λ x. omega (arith, x.1, a.0.0))

-- ---- writing all sectors brings two buffers together that agree elsewhere

pub record Agree (m : ℕ) (ts : List Sector) (f g : File) : Type 0 where
  pub big_f : m ≤ length f.buffer
  pub big_g : m ≤ length g.buffer
  pub size_f : f.size ≡ m
  pub size_g : g.size ≡ m
  pub rest : (i : ℕ) → i < m → ¬ Named ts i → get_or f.buffer i 0 ≡ get_or g.buffer i 0

pub in-or-out : (i : ℕ) (s : Sector) → In i s ⊎ (¬ In i s)
in-or-out i s =
    ⊎_elim (λ a. inr (λ x. omega (arith, x.0))) (λ a. ⊎_elim (λ b. inl (a, b)) (λ b. inr (λ x. omega (arith, x.1))) (lt-or-le i (end s))) (lt-or-le i s.offset)

-- one sector, written in both
pub meet_one : (m : ℕ) (s : Sector) (ts : List Sector) {f g : File} → end s ≤ m → Agree m (s ∷ ts) f g → Agree m ts (run (write s) f) (run (write s) g)
meet_one m s ts {f} {g} e a =
    let bf : end s ≤ length f.buffer = omega (arith, e, a.big_f) in
    let bg : end s ≤ length g.buffer = omega (arith, e, a.big_g) in
    let lf = put-length f.buffer s.offset s.bytes bf in
    let lg = put-length g.buffer s.offset s.bytes bg in
    record {
      big_f = omega (arith, a.big_f, lf);
      big_g = omega (arith, a.big_g, lg);
      size_f = a.size_f;
      size_g = a.size_g;
      rest = λ i l n.
          ⊎_elim
          (λ x. put_in f.buffer s.offset s.bytes bf i x.0 x.1 ∙ sym (put_in g.buffer s.offset s.bytes bg i x.0 x.1))
          (λ x. put-out f.buffer s.offset s.bytes bf i x ∙ a.rest i l (⊎_elim x n) ∙ sym (put-out g.buffer s.offset s.bytes bg i x))
          (in-or-out i s);
    }

pub meet : (m : ℕ) (ts : List Sector) {f g : File} → EndBy m ts → Agree m ts f g → Agree m [] (runs (map write ts) f) (runs (map write ts) g)
meet m [] e a = a
meet m (s ∷ ts) e a = meet m ts e.1 (meet_one m s ts e.0 a)

-- ---- the theorem

pub same-image : (m : ℕ) {f g : File} → Agree m [] f g → take f.size f.buffer ≡ take g.size g.buffer
same-image m {f} {g} a =
    rw (a.size_f, a.size_g)
    (ext_get_or 0 (take m f.buffer) (take m g.buffer) (lf ∙ sym lg)
    (λ i l. get_or-take m f.buffer i 0 (omega (arith, lf)) ∙ a.rest i (omega (arith, lf)) (λ x. x) ∙ sym (get_or-take m g.buffer i 0 (omega (arith, lf)))))
  where
    lf : length (take m f.buffer) ≡ m
    lf = length-take-le m f.buffer a.big_f

    lg : length (take m g.buffer) ≡ m
    lg = length-take-le m g.buffer a.big_g

-- all steps done on the file as it is now, and on the file as it came
module _ {o : File} {m : ℕ} {ss : List Sector} (grows : o.size ≤ m) (fits : m ≤ length o.buffer) (ends : EndBy m ss) where
  pub grown-alike : {f : File} → Lost m ss o f → Agree m ss (run (grow m) f) (run (grow m) o)
  grown-alike {f} h =
      let b = h.capacity fits in
      let low = zeroed-low f.buffer f.size m h.to b in
      record {
        big_f = omega (arith, b, zeroed-length f.buffer f.size m h.to b);
        big_g = omega (arith, fits, zeroed-length o.buffer o.size m grows fits);
        size_f = refl;
        size_g = refl;
        rest = λ i l n.
            ⊎_elim
            (λ a. low i (omega (arith, h.from)) ∙ h.given i a n ∙ sym (zeroed-low o.buffer o.size m grows fits i a))
            (λ a.
            ⊎_elim (λ c. low i c ∙ h.zeros i a c n) (λ c. zeroed-in f.buffer f.size m h.to b i c l) (lt-or-le i f.size)
            ∙ sym (zeroed-in o.buffer o.size m grows fits i a l))
            (lt-or-le i o.size);
      }

  pub all_done : {f : File} → Lost m ss o f → Agree m [] (runs (steps (apply m ss)) f) (runs (steps (apply m ss)) o)
  all_done h = meet m ss ends (grown-alike h)

-- what the reader of the headers and the log is to show. `kept i`: byte i is in the first MiB or in the log
pub record Reads (kept : ℕ → Type 0) (o : File) (m : ℕ) (ss : List Sector) : Type 0 where
  pub grows : o.size ≤ m
  pub fits : m ≤ length o.buffer
  pub ends : EndBy m ss
  pub inside : (i : ℕ) → kept i → i < o.size
  pub apart : (i : ℕ) → kept i → ¬ Named ss i
  pub again : (g : File) → m ≤ length g.buffer → o.size ≤ g.size → g.size ≤ m
      → ((i : ℕ) → kept i → get_or g.buffer i 0 ≡ get_or o.buffer i 0) → plan_of g ≡ apply m ss

module _ {kept : ℕ → Type 0} {o : File} {m : ℕ} {ss : List Sector} (R : Reads kept o m ss) where
  pub untouched : {f : File} → Lost m ss o f → (i : ℕ) → kept i → get_or f.buffer i 0 ≡ get_or o.buffer i 0
  untouched h i k = h.given i (R.inside i k) (R.apart i k)

  -- the plan as it is made again
  pub planned : {f : File} → Lost m ss o f → plan_of f ≡ apply m ss
  planned {f} h = R.again f (h.capacity R.fits) h.from h.to (untouched h)

  pub good : All (Good m ss) (steps (apply m ss))
  good = (refl, writes-good m ss ss R.ends (λ i x. x))

  -- what a call leaves of the file as it came
  pub called : {g : File} → plan_of o ≡ apply m ss → Call o g → (length g.buffer ≡ length o.buffer) × Lost m ss o g
  called e (attach r) = ran m ss good R.grows R.fits (rw e at r)
  called e (step k r) = ran m ss (admitted-good (Good m ss) (steps (apply m ss)) k o.size good) R.grows R.fits (rw e at r)

  -- so both leave the same file
  pub same-file : {f : File} → Lost m ss o f → ((runs (steps (apply m ss)) f).size ≡ (runs (steps (apply m ss)) o).size)
      × (take (runs (steps (apply m ss)) f).size (runs (steps (apply m ss)) f).buffer ≡ take (runs (steps (apply m ss)) o).size (runs (steps (apply m ss)) o).buffer)
  same-file h = let a = all_done R.grows R.fits R.ends h in (a.size_f ∙ sym a.size_g, same-image m a)
