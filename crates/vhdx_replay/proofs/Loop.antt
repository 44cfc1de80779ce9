-- The loop over a walk's sectors, which are read off the buffer as it changes.
-- Assumes nothing.
use mathlib.Core.Path.{◌≡◌, refl, sym, ap, subst, ◌∙◌}
use mathlib.Core.Bool.{false}
use mathlib.Core.List.{List, [], ◌∷◌}
use Prim.Native.Nat.{ℕ, suc, ◌+◌, ◌-◌, ◌≤◌, ◌<◌}
use native.Mathlib.Omega.{arith}
use lib.ListN.{length, take, drop}
use lib.Seq.{take-nil}
use Rattle.extent.specs.declared.Extent.{Extent}
use Rattle.extent.specs.Extent.{shares, part}
use Rattle.extent.proofs.Laws.{share}
use Rattle.vhdx_walk.specs.Entries.{Sector}
use Rattle.vhdx_walk.specs.Walk.{sectors_left, Ready, Settled}
use Rattle.vhdx_walk.specs.declared.Walk.{Walk}
use Rattle.vhdx_steps.specs.Buffer.{put}
use Rattle.vhdx_replay.specs.Writes.{first_fits_in, first_written, all_written, Safe, Writable}
use Rattle.vhdx_steps.proofs.Bytes.{put-length, put-out}
use Rattle.vhdx_steps.proofs.Sectors.{clash}
use Rattle.vhdx_steps.proofs.Reading.{same-part}

-- a write outside an extent leaves its bytes
kept-part : (b d : List ℕ) (at : ℕ) (log : Extent) → length d ≡ 4096 → at + 4096 ≤ length b → log.offset + log.length ≤ length b
    → shares at 4096 log.offset log.length ≡ false → part (put b at d) log ≡ part b log
unfolding part
kept-part b d at log l h inside apart =
    let fits : at + length d ≤ length b = omega arith in
    same-part log.offset log.length b (put b at d) (omega (arith, put-length b at d fits)) inside
    (λ i p q.
    put-out b at d fits i
    (λ x. clash (share at 4096 log.offset log.length (omega arith) (omega (arith, p, q)) (omega (arith, x.0, q)) (omega (arith, x.1, p))) apart))

-- ---- the invariant: what is left, written from here, gives what all of them give from the first buffer

pub record Going (first : List ℕ) (log : Extent) (start : Walk) (count : ℕ) (buffer : List ℕ) (walk : Walk) (k : ℕ) : Type 0 where
  pub writable : Writable first log start
  pub within : k ≤ count
  pub capacity : length buffer ≡ length first
  pub same_log : part buffer log ≡ part first log
  pub ready : Ready (part first log) walk
  pub settled : Settled (part first log) walk
  pub safe : Safe log (length first) (sectors_left (part first log) walk)
  pub leads : all_written (take (count - k) (sectors_left (part first log) walk)) buffer ≡ all_written (take count (sectors_left (part first log) start)) first

module _ (first : List ℕ) (log : Extent) (start : Walk) (count : ℕ) where
  pub begin : Writable first log start → Going first log start count first start 0
  begin w =
      record {
        writable = w;
        within = omega arith;
        capacity = refl;
        same_log = refl;
        ready = w.ready;
        settled = w.settled;
        safe = w.safe;
        leads = ap (λ (j : ℕ). all_written (take j (sectors_left (part first log) start)) first) {x = count - 0} {y = count} (omega arith);
      }

  module _ (buffer : List ℕ) (walk : Walk) (k : ℕ) (g : Going first log start count buffer walk k) where
    first-safe : (l : List Sector) → Safe log (length first) l → first_fits_in l (length first)
    first-safe [] h = tt
    first-safe (s ∷ l) h = h.0.1

    pub inside-now : log.offset + log.length ≤ length buffer
    inside-now = omega (arith, g.writable.inside, g.capacity)

    pub writable_now : Ready (part buffer log) walk × Settled (part buffer log) walk × first_fits_in (sectors_left (part buffer log) walk) (length buffer)
    writable_now =
        subst (λ (l : List ℕ). Ready l walk × Settled l walk × first_fits_in (sectors_left l walk) (length buffer)) (sym g.same_log)
        (g.ready, g.settled, subst (λ (c : ℕ). first_fits_in (sectors_left (part first log) walk) c) (sym g.capacity) (first-safe (sectors_left (part first log) walk) g.safe))

    -- a turn
    turned : (l : List Sector) {l' : List Sector} {b' : List ℕ} → Safe log (length first) l → k < count → l' ≡ drop 1 l → b' ≡ first_written l buffer
        → (length b' ≡ length first) × (part b' log ≡ part first log) × Safe log (length first) l' × (all_written (take (count - (k + 1)) l') b' ≡ all_written (take (count - k) l) buffer)
    turned [] safe below e b = (
      ap length b ∙ g.capacity,
      ap (λ (x : List ℕ). part x log) b ∙ g.same_log,
      rw e tt,
      rw (e, b, take-nil {A = Sector} (count - (k + 1)), take-nil {A = Sector} (count - k)),
    )
    turned (s ∷ l) safe below e b =
        let fits : s.offset + 4096 ≤ length buffer = omega (arith, safe.0.1, g.capacity) in
        let long : length (put buffer s.offset s.bytes) ≡ length buffer = put-length buffer s.offset s.bytes (omega (arith, safe.0.0, fits)) in (
          ap length b ∙ long ∙ g.capacity,
          ap (λ (x : List ℕ). part x log) b ∙ kept-part buffer s.bytes s.offset log safe.0.0 fits inside-now safe.0.2 ∙ g.same_log,
          rw e safe.1,
          rw (e, b) (sym (ap (λ (j : ℕ). all_written (take j (s ∷ l)) buffer) {x = count - k} {y = suc (count - (k + 1))} (omega arith))),
        )

    pub more : (b' : List ℕ) (walk' : Walk) → k < count → b' ≡ first_written (sectors_left (part buffer log) walk) buffer → Ready (part buffer log) walk'
        → (sectors_left (part buffer log) walk' ≡ drop 1 (sectors_left (part buffer log) walk)) × Settled (part buffer log) walk' → Going first log start count b' walk' (k + 1)
    more b' walk' below written ready next =
        let w = subst (λ (l : List ℕ). b' ≡ first_written (sectors_left l walk) buffer) g.same_log written in
        let n = subst (λ (l : List ℕ). (sectors_left l walk' ≡ drop 1 (sectors_left l walk)) × Settled l walk') g.same_log next in
        let t = turned (sectors_left (part first log) walk) g.safe below n.0 w in
        record {
          writable = g.writable;
          within = omega arith;
          capacity = t.0;
          same_log = t.1;
          ready = subst (λ (l : List ℕ). Ready l walk') g.same_log ready;
          settled = n.1;
          safe = t.2;
          leads = t.3 ∙ g.leads;
        }

    pub done : count ≤ k → buffer ≡ all_written (take count (sectors_left (part first log) start)) first
    done h = ap (λ (j : ℕ). all_written (take j (sectors_left (part first log) walk)) buffer) {x = 0} {y = count - k} (omega arith) ∙ g.leads
