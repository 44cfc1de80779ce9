-- What closing refuses is what the table says, row 23 behind 1 to 8.
-- Assumes nothing.
use mathlib.Core.Path.{◌≡◌, refl, sym, ap, ap₂, ◌∙◌}
use mathlib.Core.Bool.{Bool, true, false, cond, not, ◌&&◌}
use mathlib.Core.List.{List, [], ◌∷◌, ◌++◌}
use Rattle.std.specs.Prelude.{Option, None, Some, Result, Ok}
use Rattle.decision.specs.declared.Refusal.{Refusal}
use Rattle.decision.specs.declared.Refusal.TheVariants.{NotVhdx, HeaderField}
use Prim.Native.Nat.{ℕ}
use native.Mathlib.Omega.{arith}
use lib.Dec.{eqb, leb, ltb}
use Rattle.decision.specs.Refusal.{check}
use Rattle.field.specs.Fields.{number, starts}
use Rattle.vhdx_header.specs.declared.Header.{Header}
use Rattle.vhdx_header.specs.Header.{field_rules, contents}
use Rattle.vhdx_header.specs.Current.{vhdxfile, header_at, current_offset, read_header, first_mib, current_header}
use Rattle.vhdx_header.proofs.Laws.{read_at, by-offset, passed, tests}
use Rattle.vhdx_walk.specs.Entries.{Sector}
use Rattle.vhdx_log.specs.Work.{Plan, refused, apply}
use Rattle.vhdx_steps.specs.Steps.{File}
use Rattle.vhdx_steps.specs.Calls.{plan_of}
use Rattle.vhdx_steps.proofs.Reading.{header_of}
use Rattle.vhdx_rewrite.specs.Rewrite.{greatest}
use Rattle.vhdx_close_steps.specs.Close.{header_sector, with_header, closing, close_plan}
use Rattle.vhdx_close_steps.proofs.Safety.{refused-either}
use Rattle.vhdx.specs.Refusals.{Row, first_of, of_some, header_in, row23, rows, first_row, refusal_of_plan, first_close_row, CloseByTheTable}
use Rattle.vhdx.proofs.Refusals.{above, by-the-table}

-- ---- a table with one more row

or_else : Option ℕ → Option ℕ → Option ℕ
or_else None b = b
or_else (Some a) b = Some a

behind : (rs : List Row) (r : Row) → first_of (rs ++ (r ∷ [])) ≡ or_else (first_of rs) (cond r.applies (Some r.number) None)
unfolding or_else
behind [] r = refl
behind (x ∷ rs) r = go x.applies (behind rs r)
  where
    go : (t : Bool) → first_of (rs ++ (r ∷ [])) ≡ or_else (first_of rs) (cond r.applies (Some r.number) None)
        → cond t (Some x.number) (first_of (rs ++ (r ∷ []))) ≡ or_else (cond t (Some x.number) (first_of rs)) (cond r.applies (Some r.number) None)
    go true e = refl
    go false e = e

row-23 : File → Option ℕ
row-23 f = cond (row23 (current_offset (first_mib f.buffer)) f) (Some 23) None

by_rows : (f : File) → first_close_row f ≡ or_else (first_row f) (row-23 f)
unfolding first_close_row first_row row-23
by_rows f = behind (rows (current_offset (first_mib f.buffer)) f) (record { number = 23; applies = row23 (current_offset (first_mib f.buffer)) f })

-- ---- the row, of the header that is current

applies : Header → Bool
applies h = not (eqb (number h.log_guid) 0) && leb greatest h.sequence_number

module _ (f : File) (h : Header) (k : current_header f.buffer f.size ≡ Ok h) where
  read_here : read_at (current_offset (first_mib f.buffer)) (first_mib f.buffer) ≡ Ok h
  read_here =
      (passed (starts (first_mib f.buffer) vhdxfile) NotVhdx (read_at (current_offset (first_mib f.buffer)) (first_mib f.buffer))
      (sym (by-offset (first_mib f.buffer)) ∙ (tests f.buffer f.size k).1.0)).1

  of-header : row-23 f ≡ cond (applies h) (Some 23) None
  unfolding row-23 row23 header_in read_header applies
  of-header = go (current_offset (first_mib f.buffer)) read_here
    where
      answer : Bool → Option ℕ
      answer t = cond t (Some 23) None

      go : (c : Option ℕ) → read_at c (first_mib f.buffer) ≡ Ok h → answer (of_some c (λ (at : ℕ). applies (header_in f at))) ≡ answer (applies h)
      go None e = let z : ◌≡◌ {A = ℕ} 0 1 = cc in absurd (omega arith)
      go (Some at) e =
          let p = passed (field_rules (header_at (first_mib f.buffer) at)) HeaderField (Ok (contents at (header_at (first_mib f.buffer) at))) e in
          let is : contents at (header_at (first_mib f.buffer) at) ≡ h = cc p.1 in
          ap (λ (x : Header). answer (applies x)) is

-- ---- the plan

with-header : (h : Header) (c : Sector) (m : ℕ) (ss : List Sector) → refusal_of_plan (with_header h c (apply m ss))
    ≡ cond (applies h) (Some 23) None
unfolding applies
with-header h c m ss = go (eqb (number h.log_guid) 0) (leb greatest h.sequence_number) (ltb h.sequence_number greatest) (above greatest h.sequence_number)
  where
    go : (z t u : Bool) → u ≡ not t → refusal_of_plan (cond z (apply m ss) (check u (refused 23) (apply m (ss ++ (c ∷ []))))) ≡ cond (not z && t) (Some 23) None
    go true t u e = refl
    go false true u e = ap (λ (v : Bool). refusal_of_plan (check v (refused 23) (apply m (ss ++ (c ∷ []))))) e
    go false false u e = ap (λ (v : Bool). refusal_of_plan (check v (refused 23) (apply m (ss ++ (c ∷ []))))) e

pub close-by-the-table : CloseByTheTable
unfolding close_plan or_else
close-by-the-table identifier f = go (plan_of f) refl
  where
    go : (p : Plan) → plan_of f ≡ p → refusal_of_plan (close_plan identifier f) ≡ first_close_row f
    go (refused c) e =
        ap refusal_of_plan (refused-either identifier f c e)
        ∙ ap (λ (x : Option ℕ). or_else x (row-23 f)) (ap refusal_of_plan (sym e) ∙ by-the-table f) ∙ sym (by_rows f)
    go (apply m ss) e =
        let x = header_of f.buffer f.size e in
        ap₂ (λ (a : Result Header Refusal) (p : Plan). refusal_of_plan (closing a identifier f p)) x.1 e
        ∙ with-header x.0 (header_sector identifier f x.0) m ss ∙ sym (of-header f x.0 x.1)
        ∙ ap (λ (y : Option ℕ). or_else y (row-23 f)) (ap refusal_of_plan (sym e) ∙ by-the-table f) ∙ sym (by_rows f)
