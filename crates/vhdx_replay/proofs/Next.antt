-- The sector that a walk is at, as the first of those that are left.
-- Assumes nothing.
use mathlib.Core.Path.{◌≡◌, refl, sym, ap, subst, ◌∙◌}
use mathlib.Core.List.{List, [], ◌∷◌}
use mathlib.Core.Option.{none, some}
use Rattle.std.specs.Prelude.{Option, None, Some}
use Prim.Native.Nat.{ℕ, ◌+◌, ◌≤◌}
use native.Mathlib.Omega.{arith}
use lib.ListN.{drop, get_elem?}
use Rattle.vhdx_walk.specs.Entries.{Sector}
use Rattle.vhdx_walk.specs.Cursor.{bytes_of, Held}
use Rattle.vhdx_walk.specs.Walk.{sectors_left, sector_of, next_of, HeldNext}
use Rattle.vhdx_walk.specs.declared.Walk.{Walk}
use Rattle.vhdx_walk.specs.declared.SectorWrite.{SectorWrite}
use Rattle.vhdx_steps.specs.Buffer.{put}
use Rattle.vhdx_replay.specs.Writes.{first_fits_in, first_written}

first_fits : (l : List Sector) (x : Sector) (capacity : ℕ) → some x ≡ get_elem? l 0 → first_fits_in l capacity → x.offset + 4096 ≤ capacity
first_fits [] x capacity e h = let z : ◌≡◌ {A = ℕ} 0 1 = cc in absurd (omega arith)
first_fits (y ∷ l) x capacity e h = let same : x ≡ y = cc e in subst (λ (v : Sector). v.offset + 4096 ≤ capacity) (sym same) h

first-written : (l : List Sector) (x : Sector) (b : List ℕ) → some x ≡ get_elem? l 0 → put b x.offset x.bytes ≡ first_written l b
first-written [] x b e = let z : ◌≡◌ {A = ℕ} 0 1 = cc in absurd (omega arith)
first-written (y ∷ l) x b e = let same : x ≡ y = cc e in ap (λ (v : Sector). put b v.offset v.bytes) same

none_left : (l : List Sector) → none ≡ get_elem? l 0 → l ≡ []
none_left [] e = refl
none_left (y ∷ l) e = let z : ◌≡◌ {A = ℕ} 0 1 = cc in absurd (omega arith)

-- p is the log as the code takes it from the buffer
module _ (p log : List ℕ) (walk : Walk) (same : p ≡ log) where
  -- at a sector
  module _ (r : Option SectorWrite) (s : SectorWrite) (told : r ≡ Some s) (e : next_of p r ≡ get_elem? (sectors_left p walk) 0) where
    here : some (sector_of log s) ≡ get_elem? (sectors_left log walk) 0
    here = subst (λ (l : List ℕ). some (sector_of l s) ≡ get_elem? (sectors_left l walk) 0) same (sym (ap (next_of p) told) ∙ e)

    pub fits : (capacity : ℕ) → first_fits_in (sectors_left log walk) capacity → s.offset + 4096 ≤ capacity
    fits capacity h = first_fits (sectors_left log walk) (sector_of log s) capacity here h

    pub written : (b : List ℕ) → put b s.offset (bytes_of log s.source) ≡ first_written (sectors_left log walk) b
    written b = first-written (sectors_left log walk) (sector_of log s) b here

    pub held : HeldNext p r → Held log s.source
    held h = subst (λ (l : List ℕ). Held l s.source) same (subst (HeldNext p) told h)

  -- at the end
  module _ (r : Option SectorWrite) (told : r ≡ None) (e : next_of p r ≡ get_elem? (sectors_left p walk) 0) where
    empty : sectors_left log walk ≡ []
    empty = none_left (sectors_left log walk) (subst (λ (l : List ℕ). none ≡ get_elem? (sectors_left l walk) 0) same (sym (ap (next_of p) told) ∙ e))

    pub unchanged : (b : List ℕ) → b ≡ first_written (sectors_left log walk) b
    unchanged b = rw empty

    pub past : sectors_left log walk ≡ drop 1 (sectors_left log walk)
    past = rw empty
