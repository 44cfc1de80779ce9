-- A log that is closed by calls that may be interrupted, or lost in a power failure: either the header is not yet written, and the steps
-- below the next one in order are done (`Open`); or it is, and the file is what an undisturbed close leaves (`Closed`).
-- Assumes nothing.
use Rattle.std.specs.Prelude.{Result, Ok}
use Rattle.decision.specs.declared.Refusal.{Refusal}
use mathlib.Core.Path.{◌≡◌, refl, sym, ap, subst, ◌∙◌}
use mathlib.Core.Bool.{Bool, true, false}
use mathlib.Core.List.{List, [], ◌∷◌, ◌++◌, map}
use mathlib.Core.Logic.{◌⊎◌, inl, inr, ⊎_elim}
use mathlib.Core.Option.{Option, some}
use Prim.Native.Nat.{ℕ, zero, suc, ◌+◌, ◌-◌, ◌≤◌, ◌<◌}
use native.Mathlib.Nat.{add-zero, add-suc}
use native.Mathlib.Omega.{arith}
use lib.Dec.{eqb, ltb}
use lib.ListN.{length, take, drop, get_or, get_elem?, length-append, drop_of_length-le, get_or-append}
use lib.Seq.{drop-cons, take-suc, take_all, drop-append_seam, get_or-append_seam}
use borrow.Author.Tests.{le-leb}
use Rattle.decision.specs.Refusal.{Outcome, refused, answered, check}
use Rattle.field.specs.Fields.{Bytes, number}
use Rattle.extent.specs.Extent.{mib}
use Rattle.vhdx_header.specs.declared.Header.{Header}
use Rattle.vhdx_header.specs.Header.{valid_header}
use Rattle.vhdx_header.specs.Current.{current_header, other_slot}
use Rattle.vhdx_header.proofs.Laws.{accepted}
use Rattle.vhdx_walk.specs.Entries.{Sector}
use Rattle.vhdx_log.specs.Work.{Plan, apply}
use Rattle.vhdx_log.specs.Plan.{extent_of}
use Rattle.vhdx_steps.specs.Steps.{File, end, In, Named, Step, grow, write, run, runs, TornWrite, TornGrowth, Torn, Ran, stop, torn, next, steps, admitted, steps_of, chosen, single}
use Rattle.vhdx_steps.specs.Buffer.{put}
use Rattle.vhdx_steps.specs.Calls.{plan_of}
use Rattle.vhdx_steps.proofs.Every.{All, all_append}
use Rattle.vhdx_steps.proofs.Bytes.{lt-or-le, put-length, put-out, zeroed-length}
use Rattle.vhdx_steps.specs.Failures.{Lost, Reopened}
use Rattle.vhdx_steps.proofs.Restart.{EndBy, Good, nothing, both, done, of-step, ran, whole, writes-good, Agree, in-or-out, meet_one, grown-alike, all_done, Reads}
use Rattle.vhdx_steps.proofs.Losses.{reopened-lost}
use Rattle.vhdx_steps.proofs.Reading.{reads}
use Rattle.vhdx_steps.proofs.Sectors.{Kept, clash}
use Rattle.vhdx_rewrite.specs.Rewrite.{closed_header}
use Rattle.vhdx_rewrite.specs.Rewrite.{greatest}
use Rattle.vhdx_close_steps.specs.Close.{slot_in, header_sector, close_plan, after_close, after_close_step}
use Rattle.vhdx_close_steps.specs.Calls.{WholeBy, WholeIfValid, Call, close, step, refuse, interrupted-close, interrupted-step}
use Rattle.vhdx_close_steps.specs.Failures.{SlotKeptBy, Failed, sectors-lost, header-lost, History}
use Rattle.vhdx_close_steps.specs.Safety.{HasNoLog}
use Rattle.vhdx_rewrite.proofs.Parts.{part_in}
use Rattle.vhdx_rewrite.proofs.Rewriting.{closed-long}
use Rattle.vhdx_rewrite.proofs.Slots.{slots-low, slot_same, slot-part, slot-byte}
use Rattle.vhdx_close_steps.proofs.Histories.{throughout}
use Rattle.vhdx_close_steps.proofs.Again.{current-kept, slots-of, long, KeptHere, still-current, plan-still, close-again, close-done, gone}

-- ---- what a run of steps can be

pub ran-nil : {f g : File} → Ran [] f g → g ≡ f
ran-nil stop = refl

pub ran-cons : {s : Step} {w : List Step} {f g : File} → Ran (s ∷ w) f g → (g ≡ f) ⊎ (Torn s f g ⊎ Ran w (run s f) g)
ran-cons stop = inl refl
ran-cons (torn t) = inr (inl t)
ran-cons (next r) = inr (inr r)

-- ---- a list of sectors with one more behind it

pub named-left : (ss : List Sector) (c : Sector) (i : ℕ) → Named ss i → Named (ss ++ (c ∷ [])) i
named-left [] c i x = absurd x
named-left (s ∷ ss) c i x = ⊎_elim (λ y. inl y) (λ y. inr (named-left ss c i y)) x

pub named-split : (ss : List Sector) (c : Sector) (i : ℕ) → Named (ss ++ (c ∷ [])) i → Named ss i ⊎ In i c
named-split [] c i x = ⊎_elim (λ y. inr y) (λ y. absurd y) x
named-split (s ∷ ss) c i x = ⊎_elim (λ y. inl (inl y)) (λ y. ⊎_elim (λ z. inl (inr z)) (λ z. inr z) (named-split ss c i y)) x

pub runs-snoc : (ss : List Sector) (s : Sector) (f : File) → runs (map write (ss ++ (s ∷ []))) f ≡ run (write s) (runs (map write ss) f)
runs-snoc [] s f = refl
runs-snoc (x ∷ ss) s f = runs-snoc ss s (run (write x) f)

picked : (ts : List Sector) (d : Sector) (j : ℕ) → j < length ts → get_elem? (map write ts) j ≡ some (write (get_or ts j d))
picked [] d j h = absurd (omega arith)
picked (t ∷ ts) d zero h = refl
picked (t ∷ ts) d (suc j) h = picked ts d j (omega arith)

all-at : (P : Sector → Type 0) (ts : List Sector) (d : Sector) (j : ℕ) → j < length ts → All P ts → P (get_or ts j d)
all-at P [] d j h a = absurd (omega arith)
all-at P (t ∷ ts) d zero h a = a.0
all-at P (t ∷ ts) d (suc j) h a = all-at P ts d j (omega arith) a.1

-- a refused step leaves the file
refused-same : (identifier : List ℕ) (j x : ℕ) (f : File) → chosen (close_plan identifier f) j f.size ≡ refused x → after_close_step identifier j f ≡ f
unfolding after_close_step
refused-same identifier j x f r = ap (λ (y : Outcome Step). runs (steps_of y) f) r

-- a write that is taken back: its sector is one more in which the two may differ
back_one : (m : ℕ) (s : Sector) (ts : List Sector) {f g : File} → end s ≤ m → m ≤ length g.buffer → Agree m ts f (run (write s) g) → Agree m (s ∷ ts) f g
back_one m s ts {f} {g} e b a =
    let bg : end s ≤ length g.buffer = omega arith in
    record {
      big_f = a.big_f;
      big_g = b;
      size_f = a.size_f;
      size_g = a.size_g;
      rest = λ i l n. a.rest i l (λ x. n (inr x)) ∙ put-out g.buffer s.offset s.bytes bg i (λ x. n (inl x));
    }

module _ (identifier : List ℕ) (sixteen : length identifier ≡ 16) (o : File) (h : Header) (k : current_header o.buffer o.size ≡ Ok h)
    {m : ℕ} {ss : List Sector} (e : plan_of o ≡ apply m ss) where
  R : Reads (Kept (extent_of h)) o m ss
  R = reads o h k e

  abbrev other : ℕ
  other = other_slot h.slot

  -- the header's write, and all that closing writes
  abbrev c : Sector
  c = header_sector identifier o h

  abbrev ts : List Sector
  ts = ss ++ (c ∷ [])

  large : mib ≤ o.size
  large = (accepted o.buffer o.size k).holds_first

  -- a buffer that the final length fits in
  holds-mib : (f : File) → m ≤ length f.buffer → mib ≤ length f.buffer
  holds-mib f fits = omega (arith, large, R.grows, fits)

  c-long : length c.bytes ≡ 4096
  c-long = closed-long (slot_in o h.slot) identifier (long identifier o h k e) sixteen

  c-ends : end c ≤ mib
  c-ends = let low = slots-low (slots-of identifier o h k e) in omega (arith, c-long, low.1, low.3)

  pub ends : EndBy m (ss ++ (header_sector identifier o h ∷ []))
  ends = all_append (λ (s : Sector). end s ≤ m) ss (c ∷ []) R.ends (omega (arith, c-ends, large, R.grows), tt)

  -- a sector of the log's work
  Own : Sector → Type 0
  Own s = (end s ≤ m) × ((i : ℕ) → In i s → Named ss i)

  all_own : (us : List Sector) → EndBy m us → ((i : ℕ) → Named us i → Named ss i) → All Own us
  unfolding Own
  all_own [] b n = tt
  all_own (u ∷ us) b n = ((b.0, λ i x. n i (inl x)), all_own us b.1 (λ i x. n i (inr x)))

  own : All Own ss
  own = all_own ss R.ends (λ i x. x)

  -- a step that leaves the slot
  Mild : Step → Type 0
  Mild (grow n) = n ≡ m
  Mild (write s) = Own s

  mild-good : (s : Step) → Mild s → Good m ts s
  unfolding Mild Own
  mild-good (grow n) q = q
  mild-good (write s) q = (q.0, λ i x. named-left ss c i (q.1 i x))

  mild-slot : (s : Step) (f g : File) → Mild s → Lost m ts o f → Torn s f g → slot_in g other ≡ slot_in f other
  unfolding Mild Own
  mild-slot (grow n) f g q v t =
      let low = slots-low (slots-of identifier o h k e) in
      let b = holds-mib f (v.capacity R.fits) in
      slot_same f.buffer g.buffer (other_slot h.slot) low.3 (omega (arith, b, t.capacity)) b
      (λ i x y. t.given i (omega (arith, large, v.from, low.3)))
  mild-slot (write s) f g q v t =
      let low = slots-low (slots-of identifier o h k e) in
      let b = holds-mib f (v.capacity R.fits) in
      slot_same f.buffer g.buffer (other_slot h.slot) low.3 (omega (arith, b, t.capacity)) b
      (λ i x y. t.rest i (λ z. R.apart i (inl (omega (arith, low.3))) (q.1 i z)))

  -- ---- before the header is written

  Dormant : File → Type 0
  Dormant f = valid_header (slot_in f other) ≡ true → slot_in f other ≡ slot_in o other

  dormant-on : (f g : File) → slot_in g other ≡ slot_in f other → Dormant f → Dormant g
  unfolding Dormant
  dormant-on f g q d v = q ∙ d (sym (ap valid_header q) ∙ v)

  -- what all of closing leaves of the original; the first j of its writes alone
  T : File
  T = runs (steps (apply m ts)) o

  target : ℕ → File
  target j = runs (map write (take j ts)) (run (grow m) o)

  -- the steps below the next one are done
  Progress : ℕ → File → Type 0
  Progress zero f = Unit {0}
  Progress (suc j) f = (j ≤ length ss) × Agree m (drop j ts) f (target j)

  record Open (n : ℕ) (f : File) : Type 0 where
    inv : Lost m ts o f
    dormant : Dormant f
    progress : Progress n f

  Closed : File → Type 0
  Closed f = Agree m [] f T

  ts-long : length ts ≡ length ss + 1
  ts-long = length-append ss (c ∷ [])

  -- the j-th write of all
  nth : ℕ → Sector
  nth j = get_or ts j c

  nth-ends : (j : ℕ) → j ≤ length ss → end (nth j) ≤ m
  unfolding nth
  nth-ends j b = all-at (λ (s : Sector). end s ≤ m) ts c j (omega (arith, ts-long)) ends

  nth-own : (j : ℕ) → j < length ss → Own (nth j)
  unfolding nth
  nth-own j b = rw (get_or-append ss (c ∷ []) c j b) (all-at Own ss c j b own)

  nth_last : nth (length ss) ≡ c
  unfolding nth
  nth_last = get_or-append_seam ss c [] c

  drop_nth : (j : ℕ) → j ≤ length ss → drop j ts ≡ nth j ∷ drop (suc j) ts
  unfolding nth
  drop_nth j b = drop-cons ts j c (omega (arith, ts-long))

  target-next : (j : ℕ) → j ≤ length ss → target (suc j) ≡ run (write (nth j)) (target j)
  unfolding target nth
  target-next j b =
      ap (λ (w : List Sector). runs (map write w) (run (grow m) o)) (take-suc ts j c (omega (arith, ts-long)))
      ∙ runs-snoc (take j ts) (get_or ts j c) (run (grow m) o)

  target-all : target (suc (length ss)) ≡ T
  unfolding target T
  target-all = ap (λ (w : List Sector). runs (map write w) (run (grow m) o)) (take_all (suc (length ss)) ts (omega (arith, ts-long)))

  grown-long : length (target zero).buffer ≡ length o.buffer
  unfolding target
  grown-long = zeroed-length o.buffer o.size m R.grows R.fits

  target-long : (j : ℕ) → j ≤ suc (length ss) → length (target j).buffer ≡ length o.buffer
  target-long zero b = grown-long
  target-long (suc j) b =
      ap (λ (f : File). length f.buffer) (target-next j (omega arith))
      ∙ put-length (target j).buffer (nth j).offset (nth j).bytes (omega (arith, nth-ends j (omega arith), R.fits, target-long j (omega arith)))
      ∙ target-long j (omega arith)

  start : Open zero o
  unfolding Dormant Progress
  start = record { inv = nothing m ts R.grows; dormant = λ v. refl; progress = tt }

  -- ---- an earlier step is next again

  back : (j : ℕ) (f : File) → Progress (suc j) f → Progress j f
  unfolding Progress
  back zero f p = tt
  back (suc j) f p =
      let b : j ≤ length ss = omega (arith, p.0) in (
        b,
        rw (drop_nth j b)
            (back_one m (nth j) (drop (suc j) ts) (nth-ends j b) (omega (arith, R.fits, target-long j (omega arith))) (rw (target-next j b) at p.1)),
      )

  back_by : (d j : ℕ) (f : File) → Progress (j + d) f → Progress j f
  back_by zero j f p = rw add-zero at p
  back_by (suc d) j f p = back_by d j f (back (j + d) f (rw add-suc at p))

  back_to : (n j : ℕ) (f : File) → j ≤ n → Progress n f → Progress j f
  back_to n j f b p = back_by (n - j) j f (subst (λ (x : ℕ). Progress x f) {x = n} {y = j + (n - j)} (omega arith) p)

  -- ---- what is touched

  -- the rest of the first MiB, and the log
  pub untouched : (f : File) → Lost m (ss ++ (header_sector identifier o h ∷ [])) o f → (i : ℕ) → KeptHere identifier o h k e i → get_or f.buffer i 0 ≡ get_or o.buffer i 0
  untouched f v i x =
      v.given i (R.inside i x.0)
      (λ n. ⊎_elim (λ y. R.apart i x.0 y) (λ y. x.1 (y.0, omega (arith, y.1, c-long))) (named-split ss c i n))

  all-good : All (Good m ts) (steps (apply m ts))
  all-good = (refl, writes-good m ts ts ends (λ i x. x))

  T-inv : Lost m ts o T
  unfolding T
  T-inv = (ran m ts all-good R.grows R.fits (whole (steps (apply m ts)) o)).1

  closed-inv : (f : File) → Closed f → Lost m ts o f
  unfolding Closed
  closed-inv f a =
      record {
        from = omega (arith, a.size_f, R.grows);
        to = omega (arith, a.size_f);
        given = λ i l n. a.rest i (omega (arith, R.grows)) (λ x. x) ∙ T-inv.given i l n;
        zeros = λ i l u n. a.rest i (omega (arith, a.size_f)) (λ x. x) ∙ T-inv.zeros i l (omega (arith, a.size_f, a.size_g)) n;
        capacity = λ x. a.big_f;
      }

  -- the header is the last that is written
  T-last : T ≡ run (write c) (target (length ss))
  T-last = sym target-all ∙ target-next (length ss) (omega arith) ∙ ap (λ (s : Sector). run (write s) (target (length ss))) nth_last

  T-slot : slot_in T other ≡ closed_header (slot_in o h.slot) identifier
  T-slot =
      let low = slots-low (slots-of identifier o h k e) in
      let b : mib ≤ length T.buffer = holds-mib T (T-inv.capacity R.fits) in
      let fits : c.offset + length c.bytes ≤ length (target (length ss)).buffer = omega (arith, c-ends, holds-mib o R.fits, target-long (length ss) (omega arith)) in
      slot-part T.buffer (other_slot h.slot) low.3 b
      ∙ ap (λ (f : File). take 4096 (drop (other_slot h.slot) f.buffer)) T-last
      ∙ ap (λ (n : ℕ). take n (drop c.offset (put (target (length ss)).buffer c.offset c.bytes))) (sym c-long)
      ∙ part_in (target (length ss)).buffer c.offset c.bytes fits

  closed-full : (f : File) → Closed f → f.size ≡ m
  unfolding Closed
  closed-full f a = a.size_f

  closed-slot : (f : File) → Closed f → slot_in f other ≡ closed_header (slot_in o h.slot) identifier
  unfolding Closed
  closed-slot f a =
      let low = slots-low (slots-of identifier o h k e) in
      slot_same T.buffer f.buffer (other_slot h.slot) low.3 (holds-mib f a.big_f) (holds-mib T a.big_g)
      (λ i x y. a.rest i (omega (arith, low.3, large, R.grows)) (λ z. z))
      ∙ T-slot

  -- ---- the plan, before and after

  module _ (log : eqb (number h.log_guid) 0 ≡ false) (raisable : ltb h.sequence_number greatest ≡ true) where
    pub plan-is : close_plan identifier o ≡ apply m ts
    unfolding close_plan
    plan-is = rw (k, e, log, raisable)

    open-current : (n : ℕ) (f : File) → Open n f → current_header f.buffer f.size ≡ Ok h
    unfolding Dormant
    open-current n f q = still-current identifier o h k e f (q.inv.capacity R.fits) q.inv.from q.inv.to (untouched f q.inv) q.dormant

    open-plan : (n : ℕ) (f : File) → Open n f → close_plan identifier f ≡ apply m ts
    unfolding Dormant
    open-plan n f q = close-again identifier o h k e f (q.inv.capacity R.fits) q.inv.from q.inv.to (untouched f q.inv) q.dormant ∙ plan-is

    module _ (named-bytes : Bytes identifier) (bytes : Bytes o.buffer) where
      closed-plan : (f : File) → Closed f → close_plan identifier f ≡ apply m []
      closed-plan f q =
          let v = closed-inv f q in
          close-done identifier o h k e f (v.capacity R.fits) v.from v.to (untouched f v) sixteen named-bytes bytes raisable (closed-full f q) (closed-slot f q)

  -- ---- steps, one by one

  T-size : T.size ≡ m
  unfolding T
  T-size = (all_done R.grows R.fits ends (nothing m ts R.grows)).size_g

  -- what an interruption may leave in the slot
  Settled : File → Type 0
  Settled g = valid_header (slot_in g other) ≡ true → (slot_in g other ≡ slot_in o other) ⊎ (slot_in g other ≡ closed_header (slot_in o h.slot) identifier)

  weaken : (n : ℕ) (f : File) → Open n f → Open zero f
  unfolding Progress
  weaken n f q = record { inv = q.inv; dormant = q.dormant; progress = tt }

  mild-torn : (s : Step) (n : ℕ) (f g : File) → Mild s → Open n f → Torn s f g → Open zero g
  unfolding Progress
  mild-torn s n f g d q t =
      record {
        inv = both m ts q.inv (of-step m ts s (mild-good s d) q.inv.to t);
        dormant = dormant-on f g (mild-slot s f g d q.inv t) q.dormant;
        progress = tt;
      }

  grow-mild : Mild (grow m)
  unfolding Mild
  grow-mild = refl

  write-mild : (s : Sector) → Own s → Mild (write s)
  unfolding Mild
  write-mild s q = q

  -- the header is torn: no valid one is there, the one that was there, or the whole new one
  module _ (n : ℕ) (f g G : File) (q : Open n f) (a : Agree m (c ∷ []) f G) (last : run (write c) G ≡ T) (t : TornWrite c f g) where
    c-good : Good m ts (write c)
    c-good = (omega (arith, c-ends, large, R.grows), λ i x. right ss i x)
      where
        right : (us : List Sector) (i : ℕ) → In i c → Named (us ++ (c ∷ [])) i
        right [] i x = inl x
        right (u ∷ us) i x = inr (right us i x)

    torn-inv : Lost m ts o g
    torn-inv = both m ts q.inv (of-step m ts (write c) c-good q.inv.to t)

    torn-done : slot_in g other ≡ closed_header (slot_in o h.slot) identifier → Closed g
    unfolding Closed
    torn-done w =
        let low = slots-low (slots-of identifier o h k e) in
        let bg : mib ≤ length g.buffer = holds-mib g (torn-inv.capacity R.fits) in
        let b_t : mib ≤ length T.buffer = holds-mib T (T-inv.capacity R.fits) in
        let b_g : end c ≤ length G.buffer = omega (arith, a.big_g, c-ends, large, R.grows) in
        record {
          big_f = torn-inv.capacity R.fits;
          big_g = T-inv.capacity R.fits;
          size_f = t.same_size ∙ a.size_f;
          size_g = T-size;
          rest = λ i l z.
              ⊎_elim
              (λ x.
              let u : i < other_slot h.slot + 4096 = omega (arith, x.1, c-long) in
              slot-byte g.buffer (other_slot h.slot) i low.3 bg x.0 u
              ∙ ap (λ (b : List ℕ). get_or b (i - other_slot h.slot) 0) (w ∙ sym T-slot)
              ∙ sym (slot-byte T.buffer (other_slot h.slot) i low.3 b_t x.0 u))
              (λ x.
              t.rest i x ∙ a.rest i l (λ y. ⊎_elim x (λ v. v) y)
              ∙ sym (put-out G.buffer c.offset c.bytes b_g i x)
              ∙ ap (λ (y : File). get_or y.buffer i 0) last)
              (in-or-out i c);
        }

    header-torn : Settled g → Open zero g ⊎ Closed g
    unfolding Settled Dormant Progress
    header-torn w = go (valid_header (slot_in g other)) refl
      where
        go : (b : Bool) → valid_header (slot_in g other) ≡ b → Open zero g ⊎ Closed g
        go false v = inl record { inv = torn-inv; dormant = λ x. clash x v; progress = tt }
        go true v = ⊎_elim (λ x. inl record { inv = torn-inv; dormant = λ y. x; progress = tt }) (λ x. inr (torn-done x)) (w v)

  header-done : (f G : File) → Agree m (c ∷ []) f G → run (write c) G ≡ T → Closed (run (write c) f)
  unfolding Closed
  header-done f G a last = subst (Agree m [] (run (write c) f)) last (meet_one m c [] (omega (arith, c-ends, large, R.grows)) a)

  -- ---- step 0, and the write of a sector, done

  grow-done : (n : ℕ) (f : File) → Open n f → Open (suc zero) (run (grow m) f)
  unfolding Progress target
  grow-done n f q =
      let x = mild-torn (grow m) n f (run (grow m) f) grow-mild q (done m ts (grow m) f refl q.inv.to (q.inv.capacity R.fits)) in
      record { inv = x.inv; dormant = x.dormant; progress = (omega arith, grown-alike R.grows R.fits ends q.inv) }

  next_agree : (j : ℕ) (f : File) → j ≤ length ss → Agree m (drop j ts) f (target j) → Agree m (drop (suc j) ts) (run (write (nth j)) f) (target (suc j))
  next_agree j f b a =
      subst (Agree m (drop (suc j) ts) (run (write (nth j)) f)) (sym (target-next j b))
      (meet_one m (nth j) (drop (suc j) ts) (nth-ends j b) (rw (drop_nth j b) at a))

  sector-done : (n j : ℕ) (f : File) → Open n f → Progress (suc j) f → Open (suc (suc j)) (run (write (nth j)) f) ⊎ Closed (run (write (nth j)) f)
  unfolding Progress Closed
  sector-done n j f q p =
      ⊎_elim
      (λ b.
      let own-j = nth-own j b in
      let d = write-mild (nth j) own-j in
      let x = mild-torn (write (nth j)) n f (run (write (nth j)) f) d q (done m ts (write (nth j)) f (mild-good (write (nth j)) d) q.inv.to (q.inv.capacity R.fits)) in
      inl record { inv = x.inv; dormant = x.dormant; progress = (omega arith, next_agree j f p.0 p.1) })
      (λ b.
      let at-end : j ≡ length ss = omega (arith, p.0) in
      let a = next_agree j f p.0 p.1 in
      inr (subst (λ (y : File). Agree m [] (run (write (nth j)) f) y) (ap (λ (x : ℕ). target (suc x)) at-end ∙ target-all)
      (subst (λ (w : List Sector). Agree m w (run (write (nth j)) f) (target (suc j))) (drop_of_length-le ts {i = suc j} (omega (arith, ts-long))) a)))
      (lt-or-le j (length ss))

  sector-torn : (n j : ℕ) (f g : File) → Open n f → Progress (suc j) f → Torn (write (nth j)) f g → Settled g → Open zero g ⊎ Closed g
  unfolding Progress
  sector-torn n j f g q p t w =
      ⊎_elim
      (λ b. inl (mild-torn (write (nth j)) n f g (write-mild (nth j) (nth-own j b)) q t))
      (λ b.
      let at-end : j ≡ length ss = omega (arith, p.0) in
      let is_c : nth j ≡ c = ap nth at-end ∙ nth_last in
      let left : drop j ts ≡ c ∷ [] = ap (λ (x : ℕ). drop x ts) at-end ∙ drop-append_seam ss (c ∷ []) in
      header-torn n f g (target j) q (rw left at p.1)
      (ap (λ (x : ℕ). run (write c) (target x)) at-end ∙ sym T-last)
      (subst (λ (s : Sector). TornWrite s f g) is_c t) w)
      (lt-or-le j (length ss))

  own-ends : (s : Sector) → Own s → end s ≤ m
  unfolding Own
  own-ends s q = q.0

  reached : (j : ℕ) (f : File) → Progress (suc j) f → j ≤ length ss
  unfolding Progress
  reached j f p = p.0

  full_by : (j : ℕ) (f : File) → Progress (suc j) f → f.size ≡ m
  unfolding Progress
  full_by j f p = p.1.size_f

  -- the step that a number names
  single-is : (j size : ℕ) → j ≤ length ss → size ≡ m → single (apply m ts) (suc j) size ≡ write (nth j) ∷ []
  unfolding nth
  single-is j size b full =
      ap (λ (x : Option Step). steps_of (admitted size x)) (picked ts c j (omega (arith, ts-long)))
      ∙ ap (λ (t : Bool). steps_of (check t (refused 22) (answered (write (get_or ts j c))))) (le-leb (end (get_or ts j c)) size (omega (arith, full, nth-fits)))
    where
      nth-fits : end (get_or ts j c) ≤ m
      nth-fits = nth-ends j b

  -- ---- a close that is interrupted

  writes-ran : (b : List Sector) (n : ℕ) (f g G : File) → All Own b → Open n f → Agree m (b ++ (c ∷ [])) f G → runs (map write (b ++ (c ∷ []))) G ≡ T
      → Settled g → Ran (map write (b ++ (c ∷ []))) f g → Open zero g ⊎ Closed g
  writes-ran [] n f g G own-b q a last w r =
      ⊎_elim
      (λ x. inl (subst (Open zero) (sym x) (weaken n f q)))
      (λ x. ⊎_elim (λ t. header-torn n f g G q a last t w) (λ y. inr (subst Closed (sym (ran-nil y)) (header-done f G a last))) x)
      (ran-cons r)
  writes-ran (s ∷ b) n f g G own-b q a last w r =
      let d = write-mild s own-b.0 in
      let t₀ = done m ts (write s) f (mild-good (write s) d) q.inv.to (q.inv.capacity R.fits) in
      ⊎_elim
      (λ x. inl (subst (Open zero) (sym x) (weaken n f q)))
      (λ x.
      ⊎_elim
      (λ t. inl (mild-torn (write s) n f g d q t))
      (λ y. writes-ran b zero (run (write s) f) g (run (write s) G) own-b.1 (mild-torn (write s) n f (run (write s) f) d q t₀) (meet_one m s (b ++ (c ∷ [])) (own-ends s own-b.0) a) last w y)
      x)
      (ran-cons r)

  steps-ran : (n : ℕ) (f g : File) → Open n f → Settled g → Ran (steps (apply m ts)) f g → Open zero g ⊎ Closed g
  unfolding T
  steps-ran n f g q w r =
      ⊎_elim
      (λ x. inl (subst (Open zero) (sym x) (weaken n f q)))
      (λ x.
      ⊎_elim
      (λ t. inl (mild-torn (grow m) n f g grow-mild q t))
      (λ y. writes-ran ss (suc zero) (run (grow m) f) g (run (grow m) o) own (grow-done n f q) (grown-alike R.grows R.fits ends q.inv) refl w y)
      x)
      (ran-cons r)

  -- a step that is interrupted
  single-ran : (n j : ℕ) (f g : File) → j ≤ n → Open n f → Settled g → Ran (single (apply m ts) j f.size) f g → Open zero g ⊎ Closed g
  single-ran n zero f g b q w r =
      ⊎_elim
      (λ x. inl (subst (Open zero) (sym x) (weaken n f q)))
      (λ x.
      ⊎_elim
      (λ t. inl (mild-torn (grow m) n f g grow-mild q t))
      (λ y. inl (subst (Open zero) (sym (ran-nil y)) (weaken (suc zero) (run (grow m) f) (grow-done n f q))))
      x)
      (ran-cons r)
  single-ran n (suc j) f g b q w r =
      let p = back_to n (suc j) f b q.progress in
      ⊎_elim
      (λ x. inl (subst (Open zero) (sym x) (weaken n f q)))
      (λ x.
      ⊎_elim
      (λ t. sector-torn n j f g q p t w)
      (λ y.
      ⊎_elim
      (λ z. inl (subst (Open zero) (sym (ran-nil y)) (weaken (suc (suc j)) (run (write (nth j)) f) z)))
      (λ z. inr (subst Closed (sym (ran-nil y)) z))
      (sector-done n j f q p))
      x)
      (ran-cons (subst (λ (v : List Step). Ran v f g) (single-is j f.size (reached j f p) (full_by j f p)) r))

  -- a step that is done
  single-done : (n j : ℕ) (f : File) → j ≤ n → Open n f → Open (suc j) (runs (single (apply m ts) j f.size) f) ⊎ Closed (runs (single (apply m ts) j f.size) f)
  single-done n zero f b q = inl (grow-done n f q)
  single-done n (suc j) f b q =
      let p = back_to n (suc j) f b q.progress in
      subst (λ (v : List Step). Open (suc (suc j)) (runs v f) ⊎ Closed (runs v f)) (sym (single-is j f.size (reached j f p) (full_by j f p)))
      (sector-done n j f q p)

  -- ---- after the header is written

  -- a file of the final length of which nothing is lost
  agree_on : (us : List Sector) {f g G : File} → Lost m [] f g → Agree m us f G → Agree m us g G
  agree_on us x a =
      record {
        big_f = x.capacity a.big_f;
        big_g = a.big_g;
        size_f = omega (arith, x.from, x.to, a.size_f);
        size_g = a.size_g;
        rest = λ i l n. x.given i (omega (arith, a.size_f)) (λ y. y) ∙ a.rest i l n;
      }

  closed-torn : (f g : File) → Closed f → TornGrowth m f g → Closed g
  unfolding Closed
  closed-torn f g a t = agree_on [] (of-step m [] (grow m) refl (omega (arith, a.size_f)) t) a

  closed-grown : (f : File) → Closed f → Closed (run (grow m) f)
  unfolding Closed
  closed-grown f a = closed-torn f (run (grow m) f) a (done m ts (grow m) f refl (omega (arith, a.size_f)) a.big_f)

  closed-ran : (f g : File) → Closed f → Ran (grow m ∷ []) f g → Closed g
  closed-ran f g a r =
      ⊎_elim
      (λ x. subst Closed (sym x) a)
      (λ x. ⊎_elim (λ t. closed-torn f g a t) (λ y. subst Closed (sym (ran-nil y)) (closed-grown f a)) x)
      (ran-cons r)

  closed-single : (j size : ℕ) (f g : File) → Closed f → Ran (single (apply m []) j size) f g → Closed g
  closed-single zero size f g a r = closed-ran f g a r
  closed-single (suc j) size f g a r = subst Closed (sym (ran-nil r)) a

  -- ---- every list of calls

  State : ℕ → File → Type 0
  State n f = Open n f ⊎ Closed f

  module _ (log : eqb (number h.log_guid) 0 ≡ false) (raisable : ltb h.sequence_number greatest ≡ true) (named-bytes : Bytes identifier) (bytes : Bytes o.buffer) where
    settled-by : (n : ℕ) (f g : File) → Open n f → WholeIfValid identifier f g → Settled g
    unfolding Settled Dormant
    settled-by n f g q w v =
        let u = subst (λ (x : Result Header Refusal). WholeBy x identifier f g) (open-current log raisable n f q) w in
        ⊎_elim
        (λ x. inl (x ∙ q.dormant (sym (ap valid_header x) ∙ v)))
        (λ x. inr (x ∙ ap (λ (y : List ℕ). closed_header y identifier) (current-kept identifier o h k e f (q.inv.capacity R.fits) q.inv.from q.inv.to (untouched f q.inv))))
        (u v)

    -- a close that is run to its end
    open-closed : (n : ℕ) (f : File) → Open n f → Closed (after_close identifier f)
    unfolding after_close Closed T
    open-closed n f q = rw (open-plan log raisable n f q) (all_done R.grows R.fits ends q.inv)

    closed-closed : (f : File) → Closed f → Closed (after_close identifier f)
    unfolding after_close
    closed-closed f q = rw (closed-plan log raisable named-bytes bytes f q) (closed-grown f q)

    stepped : (n j : ℕ) (f : File) → j ≤ n → State n f → State (suc j) (after_close_step identifier j f)
    unfolding after_close_step State
    stepped n j f b (inl q) = rw (open-plan log raisable n f q) (single-done n j f b q)
    stepped n j f b (inr q) = inr (closed-single j f.size f (runs (single (close_plan identifier f) j f.size) f) q
        (subst (λ (p : Plan). Ran (single p j f.size) f (runs (single (close_plan identifier f) j f.size) f)) (closed-plan log raisable named-bytes bytes f q) (whole (single (close_plan identifier f) j f.size) f)))

    interrupted-closed : (n : ℕ) (f g : File) → State n f → Ran (steps (close_plan identifier f)) f g → WholeIfValid identifier f g → State zero g
    unfolding State
    interrupted-closed n f g (inl q) r w = steps-ran n f g q (settled-by n f g q w) (subst (λ (p : Plan). Ran (steps p) f g) (open-plan log raisable n f q) r)
    interrupted-closed n f g (inr q) r w = inr (closed-ran f g q (subst (λ (p : Plan). Ran (steps p) f g) (closed-plan log raisable named-bytes bytes f q) r))

    interrupted-stepped : (n j : ℕ) (f g : File) → j ≤ n → State n f → Ran (single (close_plan identifier f) j f.size) f g → WholeIfValid identifier f g → State zero g
    unfolding State
    interrupted-stepped n j f g b (inl q) r w = single-ran n j f g b q (settled-by n f g q w) (subst (λ (p : Plan). Ran (single p j f.size) f g) (open-plan log raisable n f q) r)
    interrupted-stepped n j f g b (inr q) r w = inr (closed-single j f.size f g q (subst (λ (p : Plan). Ran (single p j f.size) f g) (closed-plan log raisable named-bytes bytes f q) r))

    whole-closed : (n : ℕ) (f : File) → State n f → State n (after_close identifier f)
    unfolding State
    whole-closed n f (inl q) = inr (open-closed n f q)
    whole-closed n f (inr q) = inr (closed-closed f q)

    -- ---- histories

    called_on : (n n' : ℕ) (f g : File) → State n f → Call identifier n f n' g → State n' g
    called_on n n' f g q close = whole-closed n f q
    called_on n n' f g q (step j b) = stepped n j f b q
    called_on n n' f g q (refuse j x r) = subst (State n) (sym (refused-same identifier j x f r)) q
    called_on n n' f g q (interrupted-close r w) = interrupted-closed n f g q r w
    called_on n n' f g q (interrupted-step j b r w) = interrupted-stepped n j f g b q r w

    failed-on : (n : ℕ) (f g : File) → State n f → Failed identifier f g → State zero g
    unfolding State Closed Progress
    failed-on n f g (inl q) (sectors-lost l s) =
        inl record {
          inv = both m ts q.inv (rw (open-plan log raisable n f q) at l);
          dormant = dormant-on f g (subst (λ (x : Result Header Refusal). SlotKeptBy x f g) (open-current log raisable n f q) s) q.dormant;
          progress = tt;
        }
    failed-on n f g (inr a) (sectors-lost l s) =
        inr (agree_on [] (rw (closed-plan log raisable named-bytes bytes f a) at l) a)
    failed-on n f g q (header-lost r w) = interrupted-closed n f g q r w

    reopened-agree : (us : List Sector) {f g G : File} → m ≤ length g.buffer → Reopened f g → Agree m us f G → Agree m us g G
    reopened-agree us fits x a = agree_on us (reopened-lost m [] (omega (arith, a.size_f)) fits x) a

    reopened-progress : (n : ℕ) (f g : File) → m ≤ length g.buffer → Reopened f g → Progress n f → Progress n g
    unfolding Progress
    reopened-progress zero f g fits x p = tt
    reopened-progress (suc j) f g fits x p = (p.0, reopened-agree (drop j ts) fits x p.1)

    reopened-open : (n : ℕ) (f g : File) → Open n f → Reopened f g → Open n g
    unfolding Dormant
    reopened-open n f g q x =
        let v = q.inv in
        let plan : plan_of f ≡ apply m ss = plan-still identifier o h k e f (v.capacity R.fits) v.from v.to (untouched f v) q.dormant in
        let fits : m ≤ length g.buffer = rw plan at x.capacity in
        let low = slots-low (slots-of identifier o h k e) in
        record {
          inv = both m ts v (reopened-lost m ts v.to fits x);
          dormant = dormant-on f g
              (slot_same f.buffer g.buffer (other_slot h.slot) low.3 (holds-mib g fits) (holds-mib f (v.capacity R.fits))
              (λ i a b. x.same_bytes i (omega (arith, large, v.from, low.3))))
              q.dormant;
          progress = reopened-progress n f g fits x q.progress;
        }

    closed-gone : (f : File) → Closed f → HasNoLog f
    closed-gone f q =
        let v = closed-inv f q in
        gone identifier o h k e f (v.capacity R.fits) v.from v.to (untouched f v) sixteen named-bytes bytes raisable (closed-full f q) (closed-slot f q)

    reopened-on : (n : ℕ) (f g : File) → State n f → Reopened f g → State n g
    unfolding State Closed
    reopened-on n f g (inl q) x = inl (reopened-open n f g q x)
    reopened-on n f g (inr a) x =
        let final : f.size ≤ length g.buffer = rw (closed-gone f a).no_work at x.capacity in
        inr (reopened-agree [] (omega (arith, final, a.size_f)) x a)

    ended : (n : ℕ) (f : File) → State n f → State zero f
    unfolding State
    ended n f (inl q) = inl (weaken n f q)
    ended n f (inr q) = inr q

    after : {n : ℕ} {d f : File} → History identifier o d n f → State n f
    unfolding State
    after x = (throughout identifier o State called_on failed-on reopened-on ended (inl start) x).1

    whole-T : after_close identifier o ≡ T
    unfolding after_close T
    whole-T = ap (λ (p : Plan). runs (steps p) o) (plan-is log raisable)

    kept_by : (n : ℕ) (f : File) → State n f → Lost m ts o f
    unfolding State
    kept_by n f (inl q) = q.inv
    kept_by n f (inr q) = closed-inv f q

    closes-alike : (n : ℕ) (f : File) → State n f → Agree m [] (after_close identifier f) (after_close identifier o)
    unfolding State Closed
    closes-alike n f (inl q) = subst (Agree m [] (after_close identifier f)) (sym whole-T) (open-closed n f q)
    closes-alike n f (inr q) = subst (Agree m [] (after_close identifier f)) (sym whole-T) (closed-closed f q)

    -- what every history leaves, and what one more close then leaves
    pub closed_after : {n : ℕ} {d f : File} → History identifier o d n f → Lost m (ss ++ (header_sector identifier o h ∷ [])) o f × Agree m [] (after_close identifier f) (after_close identifier o)
    closed_after {n} {f = f} x = let q = after x in (kept_by n f q, closes-alike n f q)

    -- the log is gone
    pub for-good : HasNoLog (after_close identifier o)
    unfolding Closed
    for-good = rw whole-T (gone identifier o h k e T (T-inv.capacity R.fits) T-inv.from T-inv.to (untouched T T-inv) sixteen named-bytes bytes raisable T-size T-slot)
