-- One sector of planned work, as step i + 1 of the plan: none, one that ends past the given length, or one that is written.
-- Assumes nothing.
use mathlib.Core.Path.{◌≡◌, refl, sym, ap, subst, ◌∙◌}
use mathlib.Core.Bool.{Bool, true, false}
use mathlib.Core.List.{List, [], ◌∷◌, map}
use mathlib.Core.Option as math
use mathlib.Core.Option.{none, some}
use Rattle.std.specs.Prelude.{Option, None, Some}
use Prim.Native.Nat.{ℕ, zero, suc, ◌+◌, ◌≤◌}
use native.Mathlib.Numerals.{add-one}
use native.Mathlib.Omega.{arith}
use lib.Dec.{leb}
use lib.ListN.{length, get_elem?}
use borrow.Author.Tests.{leb-true}
use Rattle.decision.specs.Refusal.{Outcome, refused, answered, check, refusal_of}
use Rattle.extent.specs.declared.Extent.{Extent}
use Rattle.extent.specs.Extent.{part}
use Rattle.vhdx_walk.specs.declared.Walk.{Walk}
use Rattle.vhdx_walk.specs.declared.SectorWrite.{SectorWrite}
use Rattle.vhdx_walk.specs.Entries.{Sector}
use Rattle.vhdx_walk.specs.Cursor.{bytes_of, Held}
use Rattle.vhdx_walk.specs.Walk.{sectors_left, walk_from, sector_of, next_of, HeldNext, Ready}
use Rattle.vhdx_walk.proofs.Sectors.{left-from}
use Rattle.vhdx_log.specs.declared.Work.{Work}
use Rattle.vhdx_log.specs.Work.{Plan, apply}
use Rattle.vhdx_log.specs.Plan.{plan}
use Rattle.vhdx_steps.specs.Buffer.{put}
use Rattle.vhdx_steps.specs.Steps.{Step, write, runs, admitted, chosen, steps_of, single}
use Rattle.vhdx_steps.specs.Calls.{file}
use Rattle.vhdx_replay.specs.Planned.{Planned}
use Rattle.vhdx_steps.proofs.Sectors.{Whole}
use Rattle.vhdx_replay.proofs.Applying.{planned, plan-is, known, ready-here, length-fits}

nth-none : (ss : List Sector) (i : ℕ) → none ≡ get_elem? ss i → get_elem? (map write ss) i ≡ none
nth-none [] i e = refl
nth-none (s ∷ ss) zero e = let z : ◌≡◌ {A = ℕ} 0 1 = cc in absurd (omega arith)
nth-none (s ∷ ss) (suc i) e = nth-none ss i e

nth-some : (ss : List Sector) (i : ℕ) (x : Sector) → some x ≡ get_elem? ss i → get_elem? (map write ss) i ≡ some (write x)
nth-some [] i x e = let z : ◌≡◌ {A = ℕ} 0 1 = cc in absurd (omega arith)
nth-some (s ∷ ss) zero x e = let same : s ≡ x = cc e in ap (λ (v : Sector). some (write v)) same
nth-some (s ∷ ss) (suc i) x e = nth-some ss i x e

nth-whole : (ss : List Sector) (i : ℕ) (x : Sector) → Whole ss → some x ≡ get_elem? ss i → length x.bytes ≡ 4096
nth-whole [] i x w e = let z : ◌≡◌ {A = ℕ} 0 1 = cc in absurd (omega arith)
nth-whole (s ∷ ss) zero x w e = let same : s ≡ x = cc e in subst (λ (v : Sector). length v.bytes ≡ 4096) same w.0
nth-whole (s ∷ ss) (suc i) x w e = nth-whole ss i x w.1 e

module _ (b : List ℕ) (n : ℕ) (log : Extent) (w : Work) (p : Planned b n log w) (i : ℕ) where
  by : (o : math.Option Step) → get_elem? (map write (planned b log w)) i ≡ o → chosen (plan b n) (i + 1) n ≡ admitted n o
  by o e =
      ap (λ (x : Plan). chosen x (i + 1) n) (plan-is b n log w p) ∙ ap (λ (k : ℕ). chosen (apply w.length (planned b log w)) k n) (add-one i)
      ∙ ap (admitted n) e

  says : (o : Outcome Step) → chosen (plan b n) (i + 1) n ≡ o → (refusal_of o ≡ refusal_of (chosen (plan b n) (i + 1) n)) × ((runs (steps_of o) (file b n)).buffer ≡ (runs (single (plan b n) (i + 1) n) (file b n)).buffer)
  says o e = (sym (ap refusal_of e), sym (ap (λ (x : Outcome Step). (runs (steps_of x) (file b n)).buffer) e))

  -- l is the log as the code takes it
  module _ (l : List ℕ) (same : l ≡ part b log) (v : Walk) (from : v ≡ walk_from w.cursor) where
    pub nth-ready : Ready l v
    nth-ready = subst (λ (x : List ℕ). Ready x v) (sym same) (subst (Ready (part b log)) (sym from) (ready-here b n log w p))

    module _ (r : Option SectorWrite) (e : next_of l r ≡ get_elem? (sectors_left l v) i) where
      found : next_of (part b log) r ≡ get_elem? (planned b log w) i
      found =
          ap (λ (x : List ℕ). next_of x r) (sym same) ∙ e
          ∙ ap (λ (x : List ℕ). get_elem? (sectors_left x v) i) same ∙ ap (λ (x : Walk). get_elem? (sectors_left (part b log) x) i) from
          ∙ ap (λ (ss : List Sector). get_elem? ss i) (left-from (part b log) w.cursor)

      pub no-sector : r ≡ None → (21 ≡ refusal_of (chosen (plan b n) (i + 1) n)) × (b ≡ (runs (single (plan b n) (i + 1) n) (file b n)).buffer)
      no-sector told = says (refused 21) (by none (nth-none (planned b log w) i (ap (next_of (part b log)) (sym told) ∙ found)))

      module _ (s : SectorWrite) (told : r ≡ Some s) where
        here : some (sector_of (part b log) s) ≡ get_elem? (planned b log w) i
        here = ap (next_of (part b log)) (sym told) ∙ found

        whole : length (bytes_of (part b log) s.source) ≡ 4096
        whole = nth-whole (planned b log w) i (sector_of (part b log) s) (known b n log w p).whole here

        tested : (t : Bool) → t ≡ leb (s.offset + 4096) n → chosen (plan b n) (i + 1) n ≡ check t (refused 22) (answered (write (sector_of (part b log) s)))
        tested t h =
            by (some (write (sector_of (part b log) s))) (nth-some (planned b log w) i (sector_of (part b log) s) here)
            ∙ ap (λ (x : Bool). check x (refused 22) (answered (write (sector_of (part b log) s))))
            (ap (λ (k : ℕ). leb (s.offset + k) n) whole ∙ sym h)

        pub past_the_end : false ≡ leb (s.offset + 4096) n → (22 ≡ refusal_of (chosen (plan b n) (i + 1) n)) × (b ≡ (runs (single (plan b n) (i + 1) n) (file b n)).buffer)
        past_the_end h = says (refused 22) (tested false h)

        pub written : true ≡ leb (s.offset + 4096) n → (after : List ℕ) → after ≡ put b s.offset (bytes_of (part b log) s.source)
            → (0 ≡ refusal_of (chosen (plan b n) (i + 1) n)) × (after ≡ (runs (single (plan b n) (i + 1) n) (file b n)).buffer)
        written h after q = let o = says (answered (write (sector_of (part b log) s))) (tested true h) in (o.0, q ∙ o.1)

        pub fits : true ≡ leb (s.offset + 4096) n → s.offset + 4096 ≤ length b
        fits h = omega (arith, leb-true (s.offset + 4096) n (sym h), length-fits b n log w p)

        pub held : HeldNext l r → Held (part b log) s.source
        held h = subst (λ (x : List ℕ). Held x s.source) same (subst (HeldNext l) told h)
