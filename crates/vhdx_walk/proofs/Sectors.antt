-- The walk over single sectors: past sectors of its run, past the whole run, and the sector that it is at.
-- Assumes nothing.
use mathlib.Core.Path.{◌≡◌, refl, sym, ap, ap₂, ◌∙◌, subst}
use mathlib.Core.Bool.{cond}
use mathlib.Core.List.{List, [], ◌∷◌, ◌++◌}
use mathlib.Core.Option.{none, some}
use Prim.Native.Nat.{ℕ, zero, suc, ◌+◌, ◌-◌, ◌*◌, ◌/◌, ◌≤◌, ◌<◌, max}
use native.Mathlib.Omega.{arith}
use lib.ListN.{length, drop, get_elem?}
use lib.Seq.{drop-append-le, drop-append-add, drop-nil}
use borrow.Author.Tests.{ne_eqb}
use Rattle.vhdx_walk.specs.declared.run.Source.{Source}
use Rattle.vhdx_walk.specs.declared.run.Source.TheVariants.{Zeros, Data}
use Rattle.vhdx_walk.specs.declared.run.Run.{Run}
use Rattle.vhdx_walk.specs.declared.cursor.Cursor.{Cursor}
use Rattle.vhdx_walk.specs.declared.cursor.Move.{Move}
use Rattle.vhdx_walk.specs.declared.cursor.Move.TheVariants.{Done, Entry, Descriptor as Named}
use Rattle.vhdx_walk.specs.declared.Walk.{Walk}
use Rattle.std.specs.Prelude.{None, Some}
use Rattle.vhdx_walk.specs.Entries.{Descriptor, Sector, sectors_at, sectors, end, furthest, length_limit}
use Rattle.vhdx_walk.specs.Cursor.{bytes_of, Held, descriptor_in, descriptors_left, Placed, Proper, ProperBy, Onward}
use Rattle.vhdx_walk.specs.Walk.{sectors_in, sectors_left, Ready, Settled, walk_from, Following}
use Rattle.vhdx_walk.proofs.Runs.{run-sectors, run_end, length-sectors}

-- ---- sectors one behind the other

drop-sectors : (j k offset : ℕ) (bytes : List ℕ) → drop j (sectors_at k offset bytes) ≡ sectors_at (k - j) (offset + 4096 * j) bytes
unfolding sectors_at
drop-sectors zero k offset bytes =
    let p : k ≡ k - 0 = omega arith in
    let q : offset ≡ offset + 4096 * 0 = omega arith in
    ap₂ (λ (a b : ℕ). sectors_at a b bytes) p q
drop-sectors (suc j) zero offset bytes = ap (λ (a : ℕ). sectors_at a (offset + 4096 * suc j) bytes) {x = 0} {y = 0 - suc j} (omega arith)
drop-sectors (suc j) (suc k) offset bytes =
    let p : k - j ≡ suc k - suc j = omega arith in
    let q : offset + 4096 + 4096 * j ≡ offset + 4096 * suc j = omega arith in
    drop-sectors j k (offset + 4096) bytes ∙ ap₂ (λ (a b : ℕ). sectors_at a b bytes) p q

first-sector : (k offset : ℕ) (bytes : List ℕ) (rest : List Sector) → 0 < k → get_elem? (sectors_at k offset bytes ++ rest) 0 ≡ some (record { offset = offset; bytes = bytes })
unfolding sectors_at
first-sector zero offset bytes rest h = absurd (omega arith)
first-sector (suc k) offset bytes rest h = refl

pub nth_drop : (l : List Sector) (k : ℕ) → get_elem? (drop k l) 0 ≡ get_elem? l k
nth_drop [] zero = refl
nth_drop [] (suc k) = refl
nth_drop (s ∷ l) zero = refl
nth_drop (s ∷ l) (suc k) = nth_drop l k

-- ---- a walk

pub left-from : (log : List ℕ) (c : Cursor) → sectors_left log (walk_from c) ≡ sectors (descriptors_left log c)
unfolding sectors_left sectors_at
left-from log c = refl

pub from-ready : (log : List ℕ) (c : Cursor) → Placed log c → furthest (descriptors_left log c) ≤ length_limit → Ready log (walk_from c)
from-ready log c p b = record { placed = p; bounded = b; ends = λ h. absurd (omega arith); held = tt }

module _ (log : List ℕ) (w : Walk) where
  -- past sectors of the run
  pub within-left : (j : ℕ) → j < w.run.length / 4096 → {v : Walk}
      → v ≡ record { run = record { offset = w.run.offset + 4096 * j; length = w.run.length - 4096 * j; source = w.run.source }; cursor = w.cursor }
      → sectors_left log v ≡ drop j (sectors_left log w)
  unfolding sectors_left
  within-left j h {v} e =
      ap (λ (x : Walk). sectors_in log x.run ++ sectors (descriptors_left log x.cursor)) e
      ∙ ap (λ (k : ℕ). sectors_at k (w.run.offset + 4096 * j) (bytes_of log w.run.source) ++ sectors (descriptors_left log w.cursor)) {x = (w.run.length - 4096 * j) / 4096} {y = w.run.length / 4096 - j} (omega arith)
      ∙ sym (drop-append-le j (sectors_in log w.run) (sectors (descriptors_left log w.cursor)) (omega (arith, length-sectors (w.run.length / 4096) w.run.offset (bytes_of log w.run.source)))
      ∙ ap (λ (l : List Sector). l ++ sectors (descriptors_left log w.cursor)) (drop-sectors j (w.run.length / 4096) w.run.offset (bytes_of log w.run.source)))

  -- past the whole run
  pub past-run : (k : ℕ) {rest : List Sector} → w.run.length / 4096 ≤ k → sectors (descriptors_left log w.cursor) ≡ rest
      → drop (k - w.run.length / 4096) rest ≡ drop k (sectors_left log w)
  unfolding sectors_left
  past-run k {rest} h e =
      let n = length-sectors (w.run.length / 4096) w.run.offset (bytes_of log w.run.source) in
      sym (ap (λ (m : ℕ). drop m (sectors_in log w.run ++ sectors (descriptors_left log w.cursor))) {x = k} {y = length (sectors_in log w.run) + (k - w.run.length / 4096)} (omega arith)
      ∙ drop-append-add (sectors_in log w.run) (sectors (descriptors_left log w.cursor)) (k - w.run.length / 4096)
      ∙ ap (drop (k - w.run.length / 4096)) e)

  -- at the end
  pub all-passed : {k : ℕ} {l : List Sector} → drop k (sectors_left log w) ≡ l → w.run.length / 4096 ≤ k → sectors (descriptors_left log w.cursor) ≡ []
      → sectors_left log (walk_from w.cursor) ≡ l
  all-passed {k} e h n =
      left-from log w.cursor ∙ n ∙ sym (drop-nil (k - w.run.length / 4096)) ∙ past-run k h n ∙ e

  -- the sector that it is at
  pub at-end : w.run.length < 4096 → Settled log w → none ≡ get_elem? (sectors_left log w) 0
  unfolding Settled
  at-end h s = sym (ap (λ (l : List Sector). get_elem? l 0) (s h))

  pub at-sector : 4096 ≤ w.run.length → some (record { offset = w.run.offset; bytes = bytes_of log w.run.source }) ≡ get_elem? (sectors_left log w) 0
  unfolding sectors_left
  at-sector h = sym (first-sector (w.run.length / 4096) w.run.offset (bytes_of log w.run.source) (sectors (descriptors_left log w.cursor)) (omega arith))

  pub settled-sector : 4096 ≤ w.run.length → Settled log w
  unfolding Settled
  settled-sector h = λ b. absurd (omega arith)

  pub settled-end : sectors_left log w ≡ [] → Settled log w
  unfolding Settled
  settled-end h = λ b. h

-- ---- one move of the cursor

held_by : (log : List ℕ) (source : Source) (n : ℕ) → ProperBy log source n → Held log source
held_by log Zeros n p = tt
held_by log (Data d s) n p = p.1

module _ (log : List ℕ) (c : Cursor) (placed : Placed log c) (bounded : furthest (descriptors_left log c) ≤ length_limit) where
  pub follows-done : {m : Move} → Onward log c m → m ≡ Done → Following log c None
  follows-done h e = ap sectors (subst (Onward log c) e h)

  pub follows-entry : {m : Move} {next : Cursor} {w : Walk} → Onward log c m → m ≡ Entry next → w ≡ walk_from next → Following log c (Some w)
  follows-entry {m} {next} {w} h e q =
      let (same, on, fewer) = subst (Onward log c) e h in
      subst (λ (x : Walk). Following log c (Some x)) (sym q)
      (ap sectors same ∙ sym (left-from log next), from-ready log next on (subst (λ (ds : List Descriptor). furthest ds ≤ length_limit) same bounded), omega (arith, ap length same))

  run-bound : (run : Run) (next : Cursor) → Proper log run → descriptors_left log c ≡ descriptor_in log run ∷ descriptors_left log next → 0 < run.length → run.offset + run.length ≤ length_limit
  run-bound run next p same h =
      let e : end (descriptor_in log run) ≡ run.offset + run.length = run_end log run p ∙ ap (λ t. cond t 0 (run.offset + run.length)) (ne_eqb run.length 0 (λ z. omega arith)) in
      let b : max (end (descriptor_in log run)) (furthest (descriptors_left log next)) ≤ length_limit = subst (λ (ds : List Descriptor). furthest ds ≤ length_limit) same bounded in
      omega arith

  pub follows-run : {m : Move} {run : Run} {next : Cursor} → Onward log c m → m ≡ Named run next → Following log c (Some (record { run = run; cursor = next }))
  unfolding sectors_left
  follows-run {m} {run} {next} h e =
      let (same, on, left, proper) = subst (Onward log c) e h in
      let b : max (end (descriptor_in log run)) (furthest (descriptors_left log next)) ≤ length_limit = subst (λ (ds : List Descriptor). furthest ds ≤ length_limit) same bounded in (
        ap sectors same ∙ ap (λ (l : List Sector). l ++ sectors (descriptors_left log next)) (run-sectors log run proper),
        record { placed = on; bounded = omega arith; ends = run-bound run next proper same; held = held_by log run.source run.length proper },
        omega (arith, ap length same),
      )
