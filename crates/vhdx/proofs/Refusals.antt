-- The chain of tests by which the plan is decided says what document 01's table says, row by row.
-- Assumes nothing.
use mathlib.Core.Path.{◌≡◌, refl, sym, ap, ap₂, ◌∙◌}
use mathlib.Core.Bool.{Bool, true, false, cond, not, ◌&&◌, ◌||◌}
use mathlib.Core.List.{List, []}
use Rattle.std.specs.Prelude.{Option, None, Some, is_none, Result, Ok, Err}
use Rattle.decision.specs.declared.Refusal.{Refusal}
use Rattle.decision.specs.declared.Refusal.TheVariants.{ImageLength, NotVhdx, NoCurrentHeader, HeaderField}
use Prim.Native.Nat.{ℕ}
use native.Mathlib.Decide.{dec_lt}
use native.Mathlib.Omega.{arith}
use lib.Dec.{eqb, leb, ltb}
use lib.ListN.{length}
use borrow.Author.Tests.{le-leb, lt-leb, lt-ltb, le-ltb}
use Rattle.decision.specs.Refusal.{check}
use Rattle.field.specs.Fields.{number, starts}
use Rattle.extent.specs.declared.Extent.{Extent}
use Rattle.extent.specs.Extent.{mib}
use Rattle.vhdx_header.specs.declared.Header.{Header}
use Rattle.vhdx_header.specs.Header.{field_rules, inside_rule, contents}
use Rattle.vhdx_header.specs.Current.{vhdxfile, header_at, current_offset, read_header, within_image, first_mib, current_header}
use Rattle.vhdx_header.proofs.Laws.{read_at, by-offset}
use Rattle.vhdx_sequence.specs.declared.Sequence.{Sequence}
use Rattle.vhdx_sequence.specs.Sequence.{active_sequence}
use Rattle.vhdx_walk.specs.Entries.{Entries, head, all_descriptors, Sector, sectors, length_limit}
use Rattle.vhdx_walk.specs.Bytes.{entries_from}
use Rattle.vhdx_log.specs.Work.{final_length, some_lies, Plan, refused, apply, apply_within, work}
use Rattle.vhdx_log.specs.Plan.{log_bytes, extent_of, plan_sequence, plan_log, plan_header, plan}
use Rattle.vhdx_steps.specs.Steps.{File}
use Rattle.vhdx.specs.Refusals.{first_of, final_of, of_some, header_in, active_of, entries_of, row1, row2, row4, row5, row6, row7, row8, rows, first_row, refusal_of_plan, ByTheTable}

-- ---- tests, either way round

pub above : (a b : ℕ) → ltb b a ≡ not (leb a b)
above a b = elim (dec_lt b a) [ yes h ↦ rw (lt-ltb b a h, lt-leb a b h) | no h ↦ rw (le-ltb b a (omega arith), le-leb a b (omega arith)) ]

not-both : (a b : Bool) → (not a || not b) ≡ not (a && b)
not-both true b = refl
not-both false b = refl

either-above : (a b c d : ℕ) → (ltb b a || ltb d c) ≡ not (leb a b && leb c d)
either-above a b c d = ap₂ ◌||◌ (above a b) (above c d) ∙ not-both (leb a b) (leb c d)

-- ---- a plan that is decided by one more test

decided : (t : Bool) (c : ℕ) (p : Plan) (rest : Option ℕ) → refusal_of_plan p ≡ rest → refusal_of_plan (check t (refused c) p) ≡ cond (not t) (Some c) rest
decided true c p rest e = e
decided false c p rest e = refl

-- 8
within : (capacity final : ℕ) (ss : List Sector) → refusal_of_plan (apply_within capacity final ss) ≡ cond (ltb capacity final || ltb length_limit final) (Some 8) None
within capacity final ss =
    decided (leb final capacity && leb final length_limit) 8 (apply final ss) None refl
    ∙ ap (λ (t : Bool). cond t (Some 8) None) (sym (either-above final capacity final length_limit))

-- 6 to 8
of-work : (e : Extent) (es : Entries) (n capacity : ℕ) → refusal_of_plan (work e es n capacity)
    ≡ cond (ltb n (head es).flushed) (Some 6) (cond (some_lies e (sectors (all_descriptors es))) (Some 7) (cond (ltb capacity (final_length es n) || ltb length_limit (final_length es n)) (Some 8) None))
unfolding work
of-work e es n capacity =
    let ss = sectors (all_descriptors es) in
    let eight : Option ℕ = cond (ltb capacity (final_length es n) || ltb length_limit (final_length es n)) (Some 8) None in
    decided (leb (head es).flushed n) 6 (check (not (some_lies e ss)) (refused 7) (apply_within capacity (final_length es n) ss)) (cond (not (not (some_lies e ss))) (Some 7) eight)
    (decided (not (some_lies e ss)) 7 (apply_within capacity (final_length es n) ss) eight (within capacity (final_length es n) ss))
    ∙ ap₂ (λ (t u : Bool). cond t (Some 6) (cond u (Some 7) eight)) (sym (above (head es).flushed n)) (twice (some_lies e ss))
  where
    twice : (t : Bool) → not (not t) ≡ t
    twice true = refl
    twice false = refl

-- ---- 5 to 8, of a header h

module _ (f : File) where
  -- as the rows have them, by whether the log identifier is zero, and the active sequence
  sequence_rows : Header → Bool → Option Sequence → Option ℕ
  sequence_rows h true q = cond (ltb (length f.buffer) f.size || ltb length_limit f.size) (Some 8) None
  sequence_rows h false None = Some 5
  sequence_rows h false (Some q) =
      let es = entries_of f h q in
      cond (ltb f.size (head es).flushed) (Some 6)
      (cond (some_lies (extent_of h) (sectors (all_descriptors es))) (Some 7)
      (cond (ltb (length f.buffer) (final_length es f.size) || ltb length_limit (final_length es f.size)) (Some 8) None))

  of-log : (h : Header) (z : Bool) (q : Option Sequence) →
      refusal_of_plan (cond z (apply_within (length f.buffer) f.size []) (plan_sequence (extent_of h) (log_bytes h f.buffer) f.size (length f.buffer) q)) ≡ sequence_rows h z q
  unfolding plan_sequence sequence_rows entries_of
  of-log h true q = within (length f.buffer) f.size []
  of-log h false None = refl
  of-log h false (Some q) = of-work (extent_of h) (entries_from (log_bytes h f.buffer) q.start q.more) f.size (length f.buffer)

  -- the rows as they stand in the table, where the current header is at an offset
  table_rows : Header → Bool → Option Sequence → Option ℕ
  table_rows h z q =
      let active = cond z None q in
      cond (not z && is_none active) (Some 5)
      (cond (of_some active (λ (x : Sequence). ltb f.size (head (entries_of f h x)).flushed)) (Some 6)
      (cond (of_some active (λ (x : Sequence). some_lies (extent_of h) (sectors (all_descriptors (entries_of f h x))))) (Some 7)
      (cond (ltb (length f.buffer) (final_of f h active) || ltb length_limit (final_of f h active)) (Some 8) None)))

  in_table : (h : Header) (z : Bool) (q : Option Sequence) → sequence_rows h z q ≡ table_rows h z q
  unfolding sequence_rows table_rows
  in_table h true q = refl
  in_table h false None = refl
  in_table h false (Some q) = refl

  -- ---- 1 to 4

  headed : (t₁ t₂ field : Bool) (h : Header) (rest : Option ℕ) → refusal_of_plan (plan_header (Ok h) f.buffer f.size) ≡ rest
      → refusal_of_plan (plan_header (check t₁ (Err ImageLength) (within_image f.size (check t₂ (Err NotVhdx) (check field (Err HeaderField) (Ok h))))) f.buffer f.size)
      ≡ cond (not t₁) (Some 1) (cond (not t₂) (Some 2) (cond (not (field && inside_rule h f.size)) (Some 4) rest))
  unfolding plan_header
  headed false t₂ field h rest e = refl
  headed true false field h rest e = refl
  headed true true false h rest e = refl
  headed true true true h rest e = go (inside_rule h f.size)
    where
      go : (t : Bool) → refusal_of_plan (plan_header (check t (Err HeaderField) (Ok h)) f.buffer f.size) ≡ cond (not t) (Some 4) rest
      go true = e
      go false = refl

  by-table : (c : Option ℕ) → refusal_of_plan (plan_header (check (leb f.size (length f.buffer) && leb mib f.size) (Err ImageLength)
      (within_image f.size (check (starts (first_mib f.buffer) vhdxfile) (Err NotVhdx) (read_at c (first_mib f.buffer))))) f.buffer f.size) ≡ first_of (rows c f)
  unfolding row1 row2 row4 row5 row6 row7 row8 header_in read_header active_of plan_header plan_log table_rows
  by-table None =
      first_two (leb f.size (length f.buffer) && leb mib f.size) (starts (first_mib f.buffer) vhdxfile)
      ∙ ap (λ (t : Bool). cond t (Some 1) (cond (not (starts (first_mib f.buffer) vhdxfile)) (Some 2) (Some 3)))
      (sym (either-above f.size (length f.buffer) mib f.size))
    where
      first_two : (t u : Bool) → refusal_of_plan (plan_header (check t (Err ImageLength) (within_image f.size (check u (Err NotVhdx) (Err NoCurrentHeader)))) f.buffer f.size)
          ≡ cond (not t) (Some 1) (cond (not u) (Some 2) (Some 3))
      first_two false u = refl
      first_two true false = refl
      first_two true true = refl
  by-table (Some at) =
      let m = first_mib f.buffer in
      let h = contents at (header_at m at) in
      let z = eqb (number h.log_guid) 0 in
      let q = active_sequence (log_bytes h f.buffer) h.log_guid in
      headed (leb f.size (length f.buffer) && leb mib f.size) (starts m vhdxfile) (field_rules (header_at m at)) h (table_rows h z q) (planned h)
      ∙ ap (λ (t : Bool). cond t (Some 1) (cond (not (starts m vhdxfile)) (Some 2) (cond (not (field_rules (header_at m at) && inside_rule h f.size)) (Some 4) (table_rows h z q))))
      (sym (either-above f.size (length f.buffer) mib f.size))
    where
      planned : (h : Header) → refusal_of_plan (plan_header (Ok h) f.buffer f.size) ≡ table_rows h (eqb (number h.log_guid) 0) (active_sequence (log_bytes h f.buffer) h.log_guid)
      planned h =
          of-log h (eqb (number h.log_guid) 0) (active_sequence (log_bytes h f.buffer) h.log_guid)
          ∙ in_table h (eqb (number h.log_guid) 0) (active_sequence (log_bytes h f.buffer) h.log_guid)

pub by-the-table : ByTheTable
unfolding first_row plan current_header
by-the-table f =
    ap (λ (a : Result Header Refusal). refusal_of_plan (plan_header (check (leb f.size (length f.buffer) && leb mib f.size) (Err ImageLength) (within_image f.size a)) f.buffer f.size))
    (by-offset (first_mib f.buffer))
    ∙ by-table f (current_offset (first_mib f.buffer))
