-- Planned work, done: what is known of it, that growth leaves the log, that its sectors can be written, and that all of them written
-- is what the steps give.
-- Assumes nothing.
use mathlib.Core.Path.{◌≡◌, refl, sym, ap, subst, ◌∙◌}
use mathlib.Core.Bool.{false}
use mathlib.Core.List.{List, [], ◌∷◌, map}
use Prim.Native.Nat.{ℕ, zero, suc, ◌+◌, ◌≤◌}
use native.Mathlib.Numerals.{add-one}
use native.Mathlib.Omega.{arith}
use lib.ListN.{length, take, drop, get_or, length-map}
use lib.Seq.{take_all}
use Rattle.extent.specs.declared.Extent.{Extent}
use Rattle.extent.specs.Extent.{mib, shares, part}
use Rattle.vhdx_header.specs.declared.Header.{Header}
use Rattle.std.specs.Prelude.{Ok}
use Rattle.vhdx_header.specs.Current.{current_header}
use Rattle.vhdx_header.proofs.Laws.{accepted}
use Rattle.vhdx_entry.specs.Ring.{log_sector_size}
use Rattle.vhdx_walk.specs.declared.Walk.{Walk}
use Rattle.vhdx_walk.specs.Entries.{Sector, sectors}
use Rattle.vhdx_walk.specs.Cursor.{descriptors_left}
use Rattle.vhdx_walk.specs.Walk.{sectors_left, walk_from, Ready, Settled}
use Rattle.vhdx_walk.proofs.Sectors.{left-from}
use Rattle.vhdx_log.specs.declared.Work.{Work}
use Rattle.vhdx_log.specs.Work.{lies, some_lies, Plan, apply, count}
use Rattle.vhdx_log.specs.Plan.{log_bytes, extent_of, plan}
use Rattle.vhdx_log.specs.Answers.{log_of}
use Rattle.vhdx_log.proofs.Answering.{log_is}
use Rattle.vhdx_steps.specs.Buffer.{zeroed}
use Rattle.vhdx_steps.specs.Steps.{File, Step, write, run, runs, steps}
use Rattle.vhdx_steps.specs.Calls.{file}
use Rattle.vhdx_replay.specs.Writes.{all_written, Safe, Writable}
use Rattle.vhdx_replay.specs.Planned.{extent_by, log_extent, Planned}
use Rattle.vhdx_steps.proofs.Bytes.{zeroed-length, zeroed-low}
use Rattle.vhdx_steps.proofs.Restart.{EndBy}
use Rattle.vhdx_steps.proofs.Sectors.{Whole, neither}
use Rattle.vhdx_steps.proofs.Reading.{Applied, applied, header_of, same-part}

-- ---- sectors

written-runs : (ss : List Sector) (f : File) → all_written ss f.buffer ≡ (runs (map write ss) f).buffer
written-runs [] f = refl
written-runs (s ∷ ss) f = written-runs ss (run (write s) f)

map-take : (k : ℕ) (ss : List Sector) → map write (take k ss) ≡ take k (map write ss)
map-take zero ss = refl
map-take (suc k) [] = refl
map-take (suc k) (s ∷ ss) = ap (λ (v : List Step). write s ∷ v) (map-take k ss)

all-safe : (log : Extent) (m capacity : ℕ) (ss : List Sector) → m ≤ capacity → Whole ss → EndBy m ss → some_lies log ss ≡ false → Safe log capacity ss
all-safe log m capacity [] h w e c = tt
all-safe log m capacity (s ∷ ss) h w e c =
    let p = neither (lies log s.offset log_sector_size) (some_lies log ss) c in
    let q = neither (shares s.offset log_sector_size 0 mib) (shares s.offset log_sector_size log.offset log.length) p.0 in
    ((w.0, omega (arith, w.0, e.0), q.1), all-safe log m capacity ss h w.1 e.1 p.1)

-- ---- the log that a header names

module _ (b : List ℕ) (n : ℕ) {h : Header} (k : current_header b n ≡ Ok h) where
  pub extent-is : log_extent b n ≡ extent_of h
  unfolding log_extent
  extent-is = ap extent_by k

  log-part : log_of b n ≡ part b (extent_of h)
  unfolding log_bytes part
  log-part = sym (log_is b n k)

-- the sectors of planned work
abbrev pub planned : List ℕ → Extent → Work → List Sector
planned b log w = sectors (descriptors_left (part b log) w.cursor)

module _ (b : List ℕ) (n : ℕ) (log : Extent) (w : Work) (p : Planned b n log w) where
  pub header : (h : Header) × (current_header b n ≡ Ok h)
  header = header_of b n (sym p.same)

  pub here : log ≡ extent_of header.0
  here = p.here ∙ extent-is b n header.1

  same_log : log_of b n ≡ part b log
  same_log = log-part b n header.1 ∙ sym (ap (part b) here)

  pub plan-is : plan b n ≡ apply w.length (planned b log w)
  plan-is = sym p.same ∙ ap (λ (l : List ℕ). apply w.length (sectors (descriptors_left l w.cursor))) same_log

  -- growth and as many sectors as are counted are all steps
  pub all-steps : take (w.count + 1) (steps (plan b n)) ≡ steps (plan b n)
  all-steps =
      take_all (w.count + 1) (steps (plan b n))
      (subst (λ (x : Plan). length (steps x) ≤ w.count + 1) (sym plan-is) (omega (arith, length-map (planned b log w) write, p.counted ∙ ap count plan-is)))

  pub known : Applied log n (length b) w.length (planned b log w)
  known =
      subst (λ (e : Extent). Applied e n (length b) w.length (planned b log w)) (sym here)
      (applied (file b n) header.0 header.1 plan-is)

  within : log.offset + log.length ≤ n
  within = subst (λ (e : Extent). e.offset + e.length ≤ n) (sym here) (accepted b n header.1).inside

  pub length-fits : n ≤ length b
  length-fits = (accepted b n header.1).fits

  pub inside : log.offset + log.length ≤ length b
  inside = omega (arith, within, length-fits)

  pub ready-here : Ready (part b log) (walk_from w.cursor)
  ready-here = subst (λ (l : List ℕ). Ready l (walk_from w.cursor)) same_log p.ready

  -- g is the grown buffer, l its log as the code takes it
  module _ (g : List ℕ) (q : g ≡ zeroed b n w.length) where
    grown-long : length g ≡ length b
    grown-long = ap length q ∙ zeroed-length b n w.length known.grows known.fits

    pub grown-inside : log.offset + log.length ≤ length g
    grown-inside = omega (arith, inside, grown-long)

    grown-log : part g log ≡ part b log
    unfolding part
    grown-log =
        same-part log.offset log.length b g grown-inside inside
        (λ i from to. ap (λ (x : List ℕ). get_or x i 0) q ∙ zeroed-low b n w.length known.grows known.fits i (omega (arith, within)))

    module _ (l : List ℕ) (s : l ≡ part g log) (v : Walk) (from : v ≡ walk_from w.cursor) where
      pub start-ready : Ready l v
      start-ready = subst (λ (x : List ℕ). Ready x v) (sym (s ∙ grown-log)) (subst (Ready (part b log)) (sym from) ready-here)

      module _ (start : Walk) (ready : Ready l start) (e : (sectors_left l start ≡ drop 0 (sectors_left l v)) × Settled l start) where
        all_left : sectors_left (part g log) start ≡ planned b log w
        all_left =
            ap (λ (x : List ℕ). sectors_left x start) (sym s) ∙ e.0
            ∙ ap (λ (x : List ℕ). sectors_left x v) (s ∙ grown-log) ∙ ap (sectors_left (part b log)) from ∙ left-from (part b log) w.cursor

        pub writable : Writable g log start
        writable =
            let k = known in
            record {
              inside = grown-inside;
              ready = subst (λ (x : List ℕ). Ready x start) s ready;
              settled = subst (λ (x : List ℕ). Settled x start) s e.1;
              safe = subst (Safe log (length g)) (sym all_left) (all-safe log w.length (length g) (planned b log w) (omega (arith, k.fits, grown-long)) k.whole k.ends k.clear);
            }

        pub replayed : (k : ℕ) → all_written (take k (sectors_left (part g log) start)) g ≡ (runs (take (k + 1) (steps (plan b n))) (file b n)).buffer
        replayed k =
            ap (λ (ss : List Sector). all_written (take k ss) g) all_left ∙ ap (all_written (take k (planned b log w))) q
            ∙ written-runs (take k (planned b log w)) (record { buffer = zeroed b n w.length; size = w.length })
            ∙ ap (λ (v : List Step). (runs v (record { buffer = zeroed b n w.length; size = w.length })).buffer) (map-take k (planned b log w))
            ∙ ap (λ (j : ℕ). (runs (take j (steps (apply w.length (planned b log w)))) (file b n)).buffer) (sym (add-one k))
            ∙ ap (λ (x : Plan). (runs (take (k + 1) (steps x)) (file b n)).buffer) (sym plan-is)
