-- Whatever is fed, a scanner keeps to its bounds, and asks for less.
-- Assumes nothing.
use mathlib.Core.Path.{refl}
use mathlib.Core.Bool.{◌&&◌, and-eq-true_iff}
use mathlib.Core.List.{List}
use Prim.Native.Nat.{ℕ, ◌+◌, ◌-◌, ◌*◌, ◌≤◌, ◌<◌}
use native.Mathlib.Omega.{arith}
use lib.Dec.{ltb}
use borrow.Author.Tests.{ltb-true}
use Rattle.field.specs.declared.Guid.{Guid}
use Rattle.vhdx_sequence.specs.Scan.{State, state_of, fresh, goes_on}
use Rattle.std.specs.Prelude.{None, Some}
use Rattle.std.specs.declared.ops.ControlFlow.TheVariants.{Continue, Break}
use Rattle.vhdx_pieces_entry.specs.Pass.{Progress}
use Rattle.vhdx_pieces_entry.specs.Pass as pass
use Rattle.vhdx_pieces_entry.proofs.Laws.{chosen, falls}
use Rattle.vhdx_pieces_entry.proofs.Keeping.{kept-first, kept-further, Read, read_first, read-further}
use Rattle.vhdx_pieces_scan.specs.declared.Stage.{Stage}
use Rattle.vhdx_pieces_scan.specs.declared.Stage.TheVariants.{First, Inside, Tail}
use Rattle.vhdx_pieces_scan.specs.Scanning.{Step, place_at, trace_of, resumed, progressed, step_in, step_of, Upright, Staged, Onward, left_at, left_of, ScanAdvances, ScanStarts}
use Rattle.vhdx_pieces_scan.proofs.Turns.{run-behind}

-- over n sectors it may be fed again, less than m being left
abbrev Below : ℕ → ℕ → Step → Type 0
Below n m r = Onward n r × (left_of r < m)

module _ (n : ℕ) (few : n < 1048576) where
  upright : (u : ℕ) (st : State) → st.start ≤ u → u < n + n → Upright (trace_of n st) (place_at n u)
  upright u st b l = record { few = few; here = (refl, refl); there = (refl, refl); behind = b; laps = l }

  resumes : (u : ℕ) (st : State) (m : ℕ) → st.start ≤ u → 0 < m → (u < n + n → left_at n u First < m) → Below n m (resumed n u st)
  unfolding resumed
  resumes u st m b p f =
      chosen (Below n m) (goes_on n u st && ltb u (n + n)) _ _
      (λ t.
      let l : u < n + n = ltb-true _ _ ((and-eq-true_iff (goes_on n u st) (ltb u (n + n))).0 t).1 in
      ((record { upright = upright u st b l; staged = tt }, refl), f l))
      (λ _. (tt, p))

  module _ (u : ℕ) (st : State) (behind : st.start ≤ u) (laps : u < n + n) where
    -- on from place u, where k of what is left were not used up
    moves : (by : ℕ) (st₂ : State) (k : ℕ) → 0 < by → 0 < k → st₂.start ≤ u → Below n ((n + n - (u + 1)) * (n + 1) + k) (resumed n (u + by) st₂)
    moves by st₂ k b p h =
        resumes (u + by) st₂ ((n + n - (u + 1)) * (n + 1) + k) (omega arith) (omega arith)
        (λ l. falls {a₂ = n + n - (u + by + 1)} (n + 1) (omega arith) (omega arith) p)

    -- with k sectors read of what starts at the place
    progresses : (k : ℕ) (p : Progress) → k < n → pass.Kept n p → Read (k + 1) p → Below n ((n + n - (u + 1)) * (n + 1) + (n + 1 - k)) (progressed n u st p)
    progresses k (Continue x) l h r = ((record { upright = upright u st behind laps; staged = h }, refl), omega (arith, h.short))
    progresses k (Break (Some e)) l h r = ((record { upright = upright u st behind laps; staged = h }, refl), omega arith)
    progresses k (Break None) l h r = moves 1 st (n + 1 - k) (omega arith) (omega arith) behind

    steps : (guid : Guid) (stage : Stage) (p : List ℕ) → Staged n stage → Below n (left_at n u stage) (step_in guid n u st stage p)
    steps guid First p h =
        let x = progresses 0 (pass.first guid n p) (omega arith) (kept-first guid n p (omega arith)) (read_first guid n p) in
        (x.0, omega (arith, x.1))
    steps guid (Inside x) p h = progresses x.read (pass.further n x p) h.short (kept-further n x p h) (read-further n x p)
    steps guid (Tail e) p h = moves e.size _ 1 h.0 (omega arith) (run-behind u st e.number behind)

pub scan-advances : ScanAdvances
unfolding step_of
scan-advances guid s p h =
    let k = h.upright in
    steps s.place.pos.len k.few s.place.count (state_of s.trace) k.behind k.laps guid s.stage p h.staged

pub scan-starts : ScanStarts
scan-starts n few =
    let h = resumes n few 0 fresh ((n + n) * (n + 1) + 1) (omega arith) (omega arith) (λ l. falls {a₂ = n + n - (0 + 1)} (n + 1) (omega arith) (omega arith) (omega arith)) in
    (h.0, omega (arith, h.1))
