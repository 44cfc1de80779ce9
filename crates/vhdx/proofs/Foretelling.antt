-- What plan answers, from what the log's plan promises; and that attach answers the same: 1 to 8 come from the plan, 9 to 15 from the
-- tables.
-- Assumes nothing.
use mathlib.Core.Path.{◌≡◌, refl, sym, ap, subst, ◌∙◌}
use mathlib.Core.Bool.{Bool, true, false, cond, ◌&&◌}
use mathlib.Core.List.{List, [], ◌∷◌}
use Rattle.std.specs.Prelude.{Option, None, Some}
use Prim.Native.Nat.{ℕ}
use lib.ListN.{length}
use Rattle.decision.specs.Refusal.{Outcome, refused as declined, answered, check, and_then, refusal_of}
use Rattle.extent.specs.declared.Extent.{Extent}
use Rattle.extent.specs.Extent.{part}
use Rattle.vhdx_header.specs.Current.{current_offset, first_mib}
use Rattle.vhdx_facts.specs.declared.Facts.{Facts}
use Rattle.vhdx_facts.specs.Ranges.{sizes_rule}
use Rattle.vhdx_facts.specs.Geometry.{bat_rule}
use Rattle.vhdx_region.specs.Region.{copy1, copy2, table_at, valid_table, bat_row, metadata_row, entries_rule, entry_of, both_found, read_table, regions}
use Rattle.vhdx_metadata.specs.declared.Items.{Items}
use Rattle.vhdx_metadata.specs.Table.{metadata_rule}
use Rattle.vhdx_metadata.specs.Items.{needed_rule, contents, items}
use Rattle.vhdx_tables.specs.Tables.{facts_of, parent_rule, judged, with_regions, tables}
use Rattle.vhdx_log.specs.declared.Work.{Work}
use Rattle.vhdx_log.specs.Work.{Plan, refused, apply, count}
use Rattle.vhdx_log.specs.Plan.{plan}
use Rattle.vhdx_steps.specs.Buffer.{zeroed}
use Rattle.vhdx_steps.specs.Steps.{File, runs, steps}
use Rattle.vhdx_steps.specs.Calls.{file, plan_of}
use Rattle.vhdx_replay.specs.Planned.{log_extent, Planned as WorkPlanned}
use Rattle.vhdx_steps.proofs.Every.{All}
use Rattle.vhdx.specs.Attach.{image_of, after_attach, read, answer_by, attach_answer}
use Rattle.vhdx.specs.Plan.{Planned, planned_by, plan_answer, foretold, AsPlanned, Foretells}
use Rattle.vhdx.specs.Refusals.{Row, first_of, rows, first_row, refusal_of_plan}
use Rattle.vhdx_replay.proofs.Done.{written-size}
use Rattle.vhdx.proofs.Refusals.{by-the-table}

-- ---- what plan answers

pub refused-plan : (b : List ℕ) (n c : ℕ) → refused c ≡ plan b n → ◌≡◌ {A = Planned} (record { refusal = c; length = n; count = 0 }) (plan_answer (file b n))
unfolding plan_answer
refused-plan b n c e = ap (λ (p : Plan). planned_by p n) e

pub applied-plan : {b : List ℕ} {n : ℕ} {log : Extent} {w : Work} → WorkPlanned b n log w
    → ◌≡◌ {A = Planned} (record { refusal = 0; length = w.length; count = w.count }) (plan_answer (file b n))
unfolding plan_answer
applied-plan {n = n} {w = w} p =
    ap (λ (k : ℕ). record { refusal = 0; length = w.length; count = k }) (p.counted ∙ ap count (sym p.same)) ∙ ap (λ (x : Plan). planned_by x n) p.same

-- ---- 1 to 8: every row of the table

number_of : Option ℕ → ℕ
number_of None = 0
number_of (Some c) = c

rows-foretold : (rs : List Row) → All (λ (r : Row). foretold r.number ≡ r.number) rs → foretold (number_of (first_of rs)) ≡ number_of (first_of rs)
unfolding number_of
rows-foretold [] h = refl
rows-foretold (r ∷ rs) h = go r.applies (rows-foretold rs h.1)
  where
    go : (t : Bool) → foretold (number_of (first_of rs)) ≡ number_of (first_of rs)
        → foretold (number_of (cond t (Some r.number) (first_of rs))) ≡ number_of (cond t (Some r.number) (first_of rs))
    go true rest = h.0
    go false rest = rest

refused-foretold : (f : File) {c : ℕ} → plan_of f ≡ refused c → foretold c ≡ c
unfolding number_of first_row
refused-foretold f e =
    subst (λ (o : Option ℕ). foretold (number_of o) ≡ number_of o) (sym (by-the-table f) ∙ ap refusal_of_plan e)
    (rows-foretold (rows (current_offset (first_mib f.buffer)) f) (refl, (refl, (refl, (refl, (refl, (refl, (refl, (refl, tt)))))))))

-- ---- 9 to 15: every refusal of the tables

abbrev Later : {A : Type 0} → Outcome A → Type 0
Later o = foretold (refusal_of o) ≡ 0

module _ {A : Type 0} where
  checked : (t : Bool) (c : ℕ) (rest : Outcome A) → foretold c ≡ 0 → Later rest → Later (check t (declined c) rest)
  checked true c rest h r = r
  checked false c rest h r = h

  either : (t : Bool) (o p : Outcome A) → Later o → Later p → Later (cond t o p)
  either true o p a b = a
  either false o p a b = b

  both : {B : Type 0} (o : Outcome A) (f : A → Outcome B) → Later o → ((a : A) → Later (f a)) → Later (and_then o f)
  both (declined c) f h g = h
  both (answered a) f h g = g a

-- 9 to 11
table-later : (n : ℕ) (log : Extent) (t : List ℕ) → Later (read_table n log t)
unfolding read_table
table-later n log t = checked (entries_rule n log t) 10 (both_found t (entry_of t bat_row) (entry_of t metadata_row)) refl (found (entry_of t bat_row) (entry_of t metadata_row))
  where
    found : (b m : Option ℕ) → Later (both_found t b m)
    found None m = refl
    found (Some b) None = refl
    found (Some b) (Some m) = refl

regions-later : (image : List ℕ) (log : Extent) → Later (regions image log)
unfolding regions
regions-later image log =
    let t₁ = table_at image copy1 in
    let t₂ = table_at image copy2 in
    either (valid_table t₁) (read_table (length image) log t₁) (cond (valid_table t₂) (read_table (length image) log t₂) (declined 9)) (table-later (length image) log t₁)
    (either (valid_table t₂) (read_table (length image) log t₂) (declined 9) (table-later (length image) log t₂) refl)

-- 12 and 13
items-later : (r : List ℕ) → Later (items r)
unfolding items
items-later r = checked (metadata_rule r) 12 (check (needed_rule r) (declined 13) (answered (contents r))) refl (checked (needed_rule r) 13 (answered (contents r)) refl refl)

-- 14 and 15
judged-later : (image : List ℕ) (f : Facts) → Later (judged image f)
unfolding judged
judged-later image f =
    checked (sizes_rule f && parent_rule image f) 14 (check (bat_rule f) (declined 15) (answered f)) refl (checked (bat_rule f) 15 (answered f) refl refl)

tables-later : (image : List ℕ) (log : Extent) → Later (tables image log)
unfolding tables with_regions
tables-later image log =
    both (regions image log) (with_regions image) (regions-later image log)
    (λ g. both (items (part image g.metadata)) (λ (m : Items). judged image (facts_of g m)) (items-later (part image g.metadata)) (λ m. judged-later image (facts_of g m)))

-- ---- attach

pub foretells : Foretells
unfolding plan_answer attach_answer after_attach read
foretells f = go (plan_of f) refl
  where
    go : (p : Plan) → plan_of f ≡ p → AsPlanned (planned_by p f.size) (answer_by p (runs (steps p) f))
    go (refused c) e = record { same_length = refl; same_count = refl; same_refusal = refused-foretold f e }
    go (apply m ss) e =
        let image = image_of (runs (steps (apply m ss)) f) in
        let log = log_extent image (length image) in
        record {
          same_length = written-size ss (record { buffer = zeroed f.buffer f.size m; size = m });
          same_count = refl;
          same_refusal = tables-later image log;
        }
