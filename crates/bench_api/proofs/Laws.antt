-- The sectors of an answered plan, and what is written of one into an answer.
-- Assumes nothing.
use mathlib.Core.Path.{◌≡◌, refl, sym, ap, ◌∙◌}
use mathlib.Core.List.{List}
use mathlib.Core.Option as math
use Rattle.std.specs.Prelude.{Option, None, Some, Result, Ok}
use Rattle.decision.specs.declared.Refusal.{Refusal}
use Prim.Native.Nat.{ℕ}
use lib.ListN.{set, get_elem?}
use Rattle.vhdx_walk.specs.Entries.{Sector}
use Rattle.vhdx_walk.specs.Walk.{sectors_left, next_of, walk_from}
use Rattle.vhdx_walk.specs.declared.run.Source.{Source}
use Rattle.vhdx_walk.specs.declared.run.Source.TheVariants.{Zeros, Data}
use Rattle.vhdx_walk.specs.declared.Walk.{Walk}
use Rattle.vhdx_walk.specs.declared.SectorWrite.{SectorWrite}
use Rattle.vhdx_walk.proofs.Sectors.{left-from}
use Rattle.vhdx_log.specs.Work.{Plan, sectors_planned}
use Rattle.vhdx_log.specs.Answers.{plan_in}
use Rattle.vhdx_log.specs.declared.Work.{Work}
use Rattle.bench_api.specs.Sectors.{source_kind, source_in, Answered}

module _ (log : List ℕ) (p : Plan) (r : Result Work Refusal) (same : plan_in log r ≡ p) where
  pub applied-sectors : {w : Work} {v : Walk} {n : math.Option Sector} (k : ℕ) → r ≡ Ok w → v ≡ walk_from w.cursor → n ≡ get_elem? (sectors_left log v) k → n ≡ get_elem? (sectors_planned p) k
  applied-sectors {w} k e q h =
      h ∙ ap (λ (x : Walk). get_elem? (sectors_left log x) k) q ∙ ap (λ (l : List Sector). get_elem? l k) (left-from log w.cursor)
      ∙ ap (λ (x : Plan). get_elem? (sectors_planned x) k) (sym (ap (plan_in log) e) ∙ same)

-- ---- what is written of a sector

module _ {log : List ℕ} {expected : math.Option Sector} {n : Option SectorWrite} (is : next_of log n ≡ expected) (l : List ℕ) where
  pub no-sector : n ≡ None → Answered log expected 0 l l
  no-sector e = record { next = None; is = sym (ap (next_of log) e) ∙ is; told = refl; written = refl }

  module _ {s : SectorWrite} (e : n ≡ Some s) where
    pub zero-sector : s.source ≡ Zeros → Answered log expected 1 l (set l 0 s.offset)
    zero-sector z =
        record { next = Some s; is = sym (ap (next_of log) e) ∙ is; told = sym (ap source_kind z); written = sym (ap (λ (x : Source). source_in x (set l 0 s.offset)) z) }

    pub data-sector : {d p : ℕ} → s.source ≡ Data d p → Answered log expected 2 l (set (set (set l 0 s.offset) 1 d) 2 p)
    data-sector z =
        record { next = Some s; is = sym (ap (next_of log) e) ∙ is; told = sym (ap source_kind z); written = sym (ap (λ (x : Source). source_in x (set l 0 s.offset)) z) }
