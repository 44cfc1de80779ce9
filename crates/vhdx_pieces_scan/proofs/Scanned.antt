-- Fed the log's sectors, the scan in pieces ends with the active log sequence: `vhdx_sequence`'s invariant of the scan's loop goes
-- along with it.
-- Assumes nothing.
use mathlib.Core.Path.{◌≡◌, refl, sym, ap, ◌∙◌, subst}
use mathlib.Core.Bool.{Bool, true, false, cond, ◌&&◌}
use mathlib.Core.List.{List}
use Rattle.std.specs.Prelude.{Option, None, Some}
use Prim.Native.Nat.{ℕ, zero, suc, ◌+◌, ◌%◌, ◌≤◌, ◌<◌}
use native.Mathlib.Nat.{zero-mod, mod-lt, mod-eq_of_lt, mod-add-mod}
use native.Mathlib.Omega.{arith}
use lib.Dec.{ltb}
use borrow.Author.Tests.{lt-ltb}
use Rattle.field.specs.declared.Guid.{Guid}
use Rattle.vhdx_entry.specs.declared.Entry.{Entry}
use Rattle.vhdx_entry.specs.Ring.{sector_count, ring, sector_at, On}
use Rattle.vhdx_entry.specs.Entry.{entry_at}
use Rattle.vhdx_entry.proofs.Laws.{sector-on, length-ring}
use Rattle.vhdx_sequence.specs.declared.Sequence.{Sequence}
use Rattle.vhdx_sequence.specs.Sequence.{active_sequence}
use Rattle.vhdx_sequence.specs.Scan.{moved, State, fresh, taken, goes_on}
use Rattle.vhdx_sequence.proofs.Turn.{Scanned, begun, within, finished, turn-empty, turn-valid, sized-here}
use Rattle.vhdx_pieces_entry.specs.Pass.{Progress}
use Rattle.vhdx_pieces_entry.specs.Pass as pass
use Rattle.vhdx_pieces_entry.proofs.Passing.{reads-entry}
use Rattle.vhdx_pieces_entry.proofs.Keeping.{kept-first, kept-further}
use Rattle.vhdx_pieces_scan.specs.declared.Stage.TheVariants.{First, Inside, Tail}
use Rattle.std.specs.declared.ops.ControlFlow.TheVariants.{Continue, Break}
use Rattle.vhdx_pieces_scan.specs.Scanning.{place_at, trace_of, scanner_at, resumed, progressed, taking, step_of, Scans, stop, next, ScansActive}

moved-is : (n u by : ℕ) → place_at n (u + by) ≡ moved (place_at n u) by
moved-is n u by =
    let e = sym (mod-add-mod u n by) in
    λ i. record { pos = record { at = e i; len = n }; count = u + by }

module _ (log : List ℕ) (guid : Guid) where
  -- the scan has come to place u with the state st
  abbrev Come : ℕ → State → Type 0
  Come u st = Scanned log guid (place_at (sector_count log) u) (trace_of (sector_count log) st)

  abbrev answer : Option Sequence
  answer = active_sequence log guid

  module _ (u : ℕ) (st : State) (on : On log (place_at (sector_count log) u).pos) where
    -- what starts at the place is read to its end
    reading : {p : Progress} {o : Option Entry} → pass.Reads (sector_count log) (ring log (u % sector_count log)) p o → pass.Kept (sector_count log) p
        → o ≡ entry_at log guid (u % sector_count log)
        → (o ≡ None → Scans log guid (resumed (sector_count log) (u + 1) st) answer)
        → ((e : Entry) → o ≡ Some e → Scans log guid (taking (sector_count log) u st e (sector_at log e.tail)) answer)
        → Scans log guid (progressed (sector_count log) u st p) answer
    unfolding step_of
    reading (pass.stop {o = None}) k h f g = f refl
    reading (pass.stop {o = Some e}) k h f g =
        next {s = scanner_at (sector_count log) u st (Tail e)} k.2
        (g e refl)
    reading (pass.next {x} r) k h f g =
        let n = sector_count log in
        let same = sector-on log n (u % n) on.1 on.0 x.read k.short in
        next {s = scanner_at n u st (Inside x)} (mod-lt (u % n + x.read) {m = n} (omega (arith, on.0)))
        (subst (λ (s : List ℕ). Scans log guid (progressed n u st (pass.further n x s)) answer) same
        (reading r (kept-further n x (sector_at (ring log (u % n)) x.read) k) h f g))

  abbrev count : ℕ
  count = sector_count log

  -- at the place an entry starts, or None does
  reads_here : (u : ℕ) (st : State) → On log (place_at count u).pos → count < 33554432
      → (entry_at log guid (u % count) ≡ None → Scans log guid (resumed count (u + 1) st) answer)
      → ((e : Entry) → entry_at log guid (u % count) ≡ Some e → Scans log guid (taking count u st e (sector_at log e.tail)) answer)
      → Scans log guid (Continue (scanner_at count u st First)) answer
  unfolding step_of entry_at
  reads_here u st on few f g =
      let r = ring log (u % count) in
      let first-sector : sector_at r 0 ≡ sector_at log (u % count) =
      sector-on log count (u % count) on.1 on.0 0 (omega (arith, on.0)) ∙ ap (sector_at log) (ap (λ (x : ℕ). x % count) {x = u % count + 0} (omega arith) ∙ mod-eq_of_lt on.0) in
      next {s = scanner_at count u st First} on.0
      (subst (λ (s : List ℕ). Scans log guid (progressed count u st (pass.first guid count s)) answer) first-sector
      (reading u st on (reads-entry guid count r (omega (arith, on.0)) (length-ring log count (u % count) on.1 on.0 ∙ on.1))
      (kept-first guid count (sector_at r 0) few) refl f g))

  module _ (u : ℕ) (st : State) (now : Come u st) where
    empty-here : entry_at log guid (u % count) ≡ None → Come (u + 1) st
    empty-here h = turn-empty now {s = None} (sym h) refl (moved-is count u 1)

    valid-here : On log (place_at count u).pos → (e : Entry) → entry_at log guid (u % count) ≡ Some e → Come (u + e.size) (taken log count u st e)
    valid-here on e h =
        turn-valid now on {s = Some e} (sym h) refl refl (refl, refl) (moved-is count u e.size)

    some_size : On log (place_at count u).pos → (e : Entry) → entry_at log guid (u % count) ≡ Some e → 0 < e.size
    some_size on e h = (sized-here now on {s = Some e} (sym h) refl).0

    -- a place, by whether the scan goes on
    turn : (b : Bool) → goes_on count u st ≡ b → (d : ℕ) → count + count ≤ u + suc d
        → ((u₂ : ℕ) (st₂ : State) → Come u₂ st₂ → count + count ≤ u₂ + d → Scans log guid (resumed count u₂ st₂) answer)
        → Scans log guid (cond (b && ltb u (count + count)) (Continue (scanner_at count u st First)) (Break st.best)) answer
    turn false h d e rest =
        subst (λ (o : Option Sequence). Scans log guid (Break st.best) o) (finished now h) (stop {q = st.best})
    turn true h d e rest =
        let w = within now h in
        rw (lt-ltb u (count + count) w.0)
        (reads_here u st w.1 (omega (arith, now.few))
        (λ none_here. rest (u + 1) st (empty-here none_here) (omega arith))
        (λ x some-here. rest (u + x.size) (taken log count u st x) (valid-here w.1 x some-here) (omega (arith, some_size w.1 x some-here))))

  past : (u : ℕ) (st : State) → Come u st → (b : Bool) → goes_on count u st ≡ b → count + count ≤ u
      → Scans log guid (cond (b && ltb u (count + count)) (Continue (scanner_at count u st First)) (Break st.best)) answer
  past u st now false h e =
      subst (λ (o : Option Sequence). Scans log guid (Break st.best) o) (finished now h) (stop {q = st.best})
  past u st now true h e = absurd (omega (arith, (within now h).0))

  -- the scan, fewer than d places of two laps being left
  scanning : (d u : ℕ) (st : State) → Come u st → count + count ≤ u + d → Scans log guid (resumed count u st) answer
  unfolding resumed
  scanning zero u st now e = past u st now (goes_on count u st) refl (omega arith)
  scanning (suc d) u st now e = turn u st now (goes_on count u st) refl d e (scanning d)

pub scans-active : ScansActive
scans-active log guid w f =
    scanning log guid (sector_count log + sector_count log) 0 fresh
    (begun {st = trace_of (sector_count log) fresh} w f refl (zero-mod (sector_count log)) refl) (omega arith)
