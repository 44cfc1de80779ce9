-- What callers know of a current header, and that it stays the current one while the first MiB stays.
-- Assumes nothing.
use mathlib.Core.Path.{◌≡◌, refl, ap, subst}
use mathlib.Core.Bool.{Bool, true, false, ◌&&◌, and-eq-true_iff}
use mathlib.Core.List.{List}
use Rattle.std.specs.Prelude.{Option, None, Some, Result, Ok, Err}
use Prim.Native.Nat.{ℕ, ◌+◌, ◌%◌, ◌≤◌}
use native.Mathlib.Omega.{arith}
use lib.Dec.{leb}
use lib.ListN.{length}
use lib.Seq.{length-take-le}
use borrow.Author.Tests.{eqb-true, leb-true, le-leb}
use Rattle.decision.specs.declared.Refusal.{Refusal}
use Rattle.decision.specs.declared.Refusal.TheVariants.{ImageLength, NotVhdx, NoCurrentHeader, HeaderField}
use Rattle.decision.specs.Refusal.{check}
use Rattle.field.specs.Fields.{starts}
use Rattle.extent.specs.Extent.{mib}
use Rattle.vhdx_header.specs.Header.{version_rule, log_version_rule, log_offset_rule, log_length_rule, log_start_rule, log_limit, log_limit_rule, field_rules, inside_rule, contents}
use Rattle.vhdx_header.specs.Current.{vhdxfile, slot1, slot2, header_at, current_slot, read_header, read_slot, read_first_mib, within_image, first_mib, current_header, slot_offset, current_offset}
use Rattle.vhdx_header.specs.declared.Header.{Header}
use Rattle.vhdx_header.specs.declared.choice.Slot.{Slot}
use Rattle.vhdx_header.specs.declared.choice.Slot.TheVariants.{First, Second}

pub length-first : (b : List ℕ) → mib ≤ length b → length (first_mib b) ≡ mib
unfolding first_mib
length-first b h = length-take-le mib b h

-- what the rules of refusal 4 say of an answered header
pub record Placed (h : Header) : Type 0 where
  pub offset_whole : h.log_offset % mib ≡ 0
  pub length_whole : h.log_length % mib ≡ 0
  pub start : mib ≤ h.log_offset
  pub limit : h.log_length ≤ log_limit

-- what is known where a header is answered
pub record Accepted (b : List ℕ) (n : ℕ) (h : Header) : Type 0 where
  pub fits : n ≤ length b
  pub holds_first : mib ≤ n
  pub placed : Placed h
  pub inside : h.log_offset + h.log_length ≤ n

-- a header that is answered has passed each test
pub passed : (t : Bool) (r : Refusal) (a : Result Header Refusal) {h : Header} → check t (Err r) a ≡ Ok h → (t ≡ true) × (a ≡ Ok h)
passed true r a e = (refl, e)
passed false r a e = let z : ◌≡◌ {A = ℕ} 0 1 = cc in absurd (omega arith)

and-true : (a b : Bool) → (a && b) ≡ true → (a ≡ true) × (b ≡ true)
and-true a b = (and-eq-true_iff a b).0

placed_by : (at : ℕ) (bytes : List ℕ) {h : Header} → read_header at bytes ≡ Ok h → Placed h
unfolding read_header field_rules
placed_by at bytes {h} e =
    let p = passed (field_rules bytes) HeaderField (Ok (contents at bytes)) e in
    let r₁ = and-true (version_rule bytes) _ p.0 in
    let r₂ = and-true (log_version_rule bytes) _ r₁.1 in
    let r₃ = and-true (log_offset_rule bytes) _ r₂.1 in
    let r₄ = and-true (log_length_rule bytes) _ r₃.1 in
    let r₅ = and-true (log_start_rule bytes) (log_limit_rule bytes) r₄.1 in
    let same : contents at bytes ≡ h = cc p.1 in
    subst Placed same
    (record {
      offset_whole = eqb-true _ _ r₃.0;
      length_whole = eqb-true _ _ r₄.0;
      start = leb-true _ _ r₅.0;
      limit = leb-true _ _ r₅.1;
    })

placed-slot : (s : Option Slot) (m : List ℕ) {h : Header} → read_slot s m ≡ Ok h → Placed h
placed-slot None m e = let z : ◌≡◌ {A = ℕ} 0 1 = cc in absurd (omega arith)
placed-slot (Some First) m e = placed_by slot1 (header_at m slot1) e
placed-slot (Some Second) m e = placed_by slot2 (header_at m slot2) e

placed_first : (m : List ℕ) {h : Header} → read_first_mib m ≡ Ok h → Placed h
unfolding read_first_mib
placed_first m e = placed-slot (current_slot m) m (passed (starts m vhdxfile) NotVhdx (read_slot (current_slot m) m) e).1

within : (n : ℕ) (a : Result Header Refusal) {h : Header} → within_image n a ≡ Ok h → (a ≡ Ok h) × (inside_rule h n ≡ true)
within n (Err r) e = let z : ◌≡◌ {A = ℕ} 0 1 = cc in absurd (omega arith)
within n (Ok k) {h} e =
    let p = passed (inside_rule k n) HeaderField (Ok k) e in
    let same : k ≡ h = cc p.1 in
    (p.1, subst (λ (x : Header). inside_rule x n ≡ true) same p.0)

module _ (b : List ℕ) (n : ℕ) {h : Header} (e : current_header b n ≡ Ok h) where
  pub tests : ((leb n (length b) ≡ true) × (leb mib n ≡ true)) × ((read_first_mib (first_mib b) ≡ Ok h) × (inside_rule h n ≡ true))
  unfolding current_header
  tests =
      let p = passed (leb n (length b) && leb mib n) ImageLength (within_image n (read_first_mib (first_mib b))) e in
      (and-true (leb n (length b)) (leb mib n) p.0, within n (read_first_mib (first_mib b)) p.1)

  pub accepted : Accepted b n h
  accepted =
      record {
        fits = leb-true _ _ tests.0.0;
        holds_first = leb-true _ _ tests.0.1;
        placed = placed_first (first_mib b) tests.1.0;
        inside = leb-true _ _ tests.1.1;
      }

  -- it is read again off any buffer with the same first MiB, at any length from n to the buffer's
  pub read_again : (b' : List ℕ) (n' : ℕ) → first_mib b' ≡ first_mib b → n ≤ n' → n' ≤ length b' → current_header b' n' ≡ Ok h
  unfolding current_header
  read_again b' n' same longer fits =
      let a = accepted in
      let i : h.log_offset + h.log_length ≤ n' = omega (arith, a.inside) in
      let f : mib ≤ n' = omega (arith, a.holds_first) in
      simp (le-leb n' (length b') fits, le-leb mib n' f, same, tests.1.0, le-leb (h.log_offset + h.log_length) n' i)

-- ---- what is read of the first MiB, by where the current header stands

abbrev pub read_at : Option ℕ → List ℕ → Result Header Refusal
read_at None m = Err NoCurrentHeader
read_at (Some at) m = read_header at (header_at m at)

pub by-offset : (m : List ℕ) → read_first_mib m ≡ check (starts m vhdxfile) (Err NotVhdx) (read_at (current_offset m) m)
unfolding read_first_mib current_offset
by-offset m = ap (check (starts m vhdxfile) (Err NotVhdx)) (go (current_slot m))
  where
    go : (s : Option Slot) → read_slot s m ≡ read_at (slot_offset s) m
    go None = refl
    go (Some First) = refl
    go (Some Second) = refl
