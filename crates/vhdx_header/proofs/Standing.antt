-- What a current header is, as facts of the two slots: it is valid, the other is not or has a lesser number. Such facts make it
-- current again, so that a change of the other slot is judged by them.
-- Assumes nothing.
use mathlib.Core.Path.{◌≡◌, refl, sym, ap, subst, ◌∙◌}
use mathlib.Core.Bool.{Bool, true, false, cond}
use mathlib.Core.List.{List}
use mathlib.Core.Logic.{◌⊎◌, inl, inr, ⊎_elim}
use Prim.Native.Nat.{ℕ, ◌+◌, ◌≤◌, ◌<◌}
use native.Mathlib.Omega.{arith}
use lib.Dec.{ltb}
use lib.ListN.{length}
use borrow.Author.Tests.{ltb-true, lt-ltb, le-ltb, le-leb}
use Rattle.std.specs.Prelude.{Option, None, Some, Ok, Err}
use Rattle.decision.specs.declared.Refusal.TheVariants.{NotVhdx, HeaderField}
use Rattle.decision.specs.Refusal.{check}
use Rattle.field.specs.Fields.{starts}
use Rattle.extent.specs.Extent.{mib}
use Rattle.vhdx_header.specs.Header.{sequence_number_of, valid_header, field_rules, contents}
use Rattle.vhdx_header.specs.Current.{vhdxfile, slot1, slot2, header_at, chosen_slot, current_slot, read_header, read_slot, read_first_mib, first_mib, current_header, other_slot}
use Rattle.vhdx_header.specs.declared.Header.{Header}
use Rattle.vhdx_header.specs.declared.choice.Slot.{Slot}
use Rattle.vhdx_header.specs.declared.choice.Slot.TheVariants.{First, Second}
use Rattle.vhdx_header.proofs.Laws.{passed, tests}

-- the one at a rules over the one at b
pub record Rules (m : List ℕ) (a b : ℕ) : Type 0 where
  pub valid : valid_header (header_at m a) ≡ true
  pub greater : valid_header (header_at m b) ≡ true → sequence_number_of (header_at m b) < sequence_number_of (header_at m a)

abbrev pub Slots : ℕ → ℕ → Type 0
Slots a b = ((a ≡ slot1) × (b ≡ slot2)) ⊎ ((a ≡ slot2) × (b ≡ slot1))

-- ---- the choice

chosen-first : (v w : Bool) (a b : ℕ) → v ≡ true → (w ≡ true → b < a) → chosen_slot v w a b ≡ Some First
chosen-first true true a b p g = rw (lt-ltb b a (g refl))
chosen-first true false a b p g = refl
chosen-first false w a b p g = let z : ◌≡◌ {A = ℕ} 0 1 = cc in absurd (omega arith)

chosen-second : (v w : Bool) (a b : ℕ) → w ≡ true → (v ≡ true → a < b) → chosen_slot v w a b ≡ Some Second
chosen-second true true a b p g =
    let l : a < b = g refl in
    rw (le-ltb b a (omega arith), lt-ltb a b l)
chosen-second false true a b p g = refl
chosen-second v false a b p g = let z : ◌≡◌ {A = ℕ} 0 1 = cc in absurd (omega arith)

of-first : (v w : Bool) (a b : ℕ) → chosen_slot v w a b ≡ Some First → (v ≡ true) × (w ≡ true → b < a)
of-first true true a b e = (refl, λ x. go (ltb b a) refl e)
  where
    go : (t : Bool) → ltb b a ≡ t → cond t (Some First) (cond (ltb a b) (Some Second) None) ≡ Some First → b < a
    go true k e = ltb-true b a k
    go false k e = never (ltb a b) e
      where
        never : (t : Bool) → cond t (Some Second) None ≡ Some First → b < a
        never true e = let z : ◌≡◌ {A = ℕ} 0 1 = cc in absurd (omega arith)
        never false e = let z : ◌≡◌ {A = ℕ} 0 1 = cc in absurd (omega arith)
of-first true false a b e = (refl, λ x. let z : ◌≡◌ {A = ℕ} 0 1 = cc in absurd (omega arith))
of-first false true a b e = let z : ◌≡◌ {A = ℕ} 0 1 = cc in absurd (omega arith)
of-first false false a b e = let z : ◌≡◌ {A = ℕ} 0 1 = cc in absurd (omega arith)

of-second : (v w : Bool) (a b : ℕ) → chosen_slot v w a b ≡ Some Second → (w ≡ true) × (v ≡ true → a < b)
of-second true true a b e = (refl, λ x. go (ltb b a) (ltb a b) refl e)
  where
    go : (s t : Bool) → ltb a b ≡ t → cond s (Some First) (cond t (Some Second) None) ≡ Some Second → a < b
    go true t k e = let z : ◌≡◌ {A = ℕ} 0 1 = cc in absurd (omega arith)
    go false true k e = ltb-true a b k
    go false false k e = let z : ◌≡◌ {A = ℕ} 0 1 = cc in absurd (omega arith)
of-second false true a b e = (refl, λ x. let z : ◌≡◌ {A = ℕ} 0 1 = cc in absurd (omega arith))
of-second true false a b e = let z : ◌≡◌ {A = ℕ} 0 1 = cc in absurd (omega arith)
of-second false false a b e = let z : ◌≡◌ {A = ℕ} 0 1 = cc in absurd (omega arith)

-- ---- of the first MiB

pub record Standing (m : List ℕ) (h : Header) : Type 0 where
  pub begins : starts m vhdxfile ≡ true
  pub slots : Slots h.slot (other_slot h.slot)
  pub rules : Rules m h.slot (other_slot h.slot)
  pub keeps : field_rules (header_at m h.slot) ≡ true
  pub same : contents h.slot (header_at m h.slot) ≡ h

by-slot : (m : List ℕ) (h : Header) (s : Option Slot) → starts m vhdxfile ≡ true → current_slot m ≡ s → read_slot s m ≡ Ok h → Standing m h
unfolding current_slot read_header
by-slot m h None b k e = let z : ◌≡◌ {A = ℕ} 0 1 = cc in absurd (omega arith)
by-slot m h (Some First) b k e =
    let p = passed (field_rules (header_at m slot1)) HeaderField (Ok (contents slot1 (header_at m slot1))) e in
    let is : contents slot1 (header_at m slot1) ≡ h = cc p.1 in
    let r = of-first (valid_header (header_at m slot1)) (valid_header (header_at m slot2)) (sequence_number_of (header_at m slot1)) (sequence_number_of (header_at m slot2)) k in
    subst (Standing m) is record { begins = b; slots = inl (refl, refl); rules = record { valid = r.0; greater = r.1 }; keeps = p.0; same = refl }
by-slot m h (Some Second) b k e =
    let p = passed (field_rules (header_at m slot2)) HeaderField (Ok (contents slot2 (header_at m slot2))) e in
    let is : contents slot2 (header_at m slot2) ≡ h = cc p.1 in
    let r = of-second (valid_header (header_at m slot1)) (valid_header (header_at m slot2)) (sequence_number_of (header_at m slot1)) (sequence_number_of (header_at m slot2)) k in
    subst (Standing m) is record { begins = b; slots = inr (refl, refl); rules = record { valid = r.0; greater = r.1 }; keeps = p.0; same = refl }

pub standing : (b : List ℕ) (n : ℕ) {h : Header} → current_header b n ≡ Ok h → Standing (first_mib b) h
unfolding read_first_mib
standing b n {h} e =
    let m = first_mib b in
    let p = passed (starts m vhdxfile) NotVhdx (read_slot (current_slot m) m) (tests b n e).1.0 in
    by-slot m h (current_slot m) p.0 refl p.1

read-slot : (m : List ℕ) (a b : ℕ) → Slots a b → Rules m a b → read_slot (current_slot m) m ≡ read_header a (header_at m a)
unfolding current_slot
read-slot m a b s r =
    ⊎_elim
    (λ x.
    let r' : Rules m slot1 slot2 = subst (λ (y : ℕ). Rules m slot1 y) x.1 (subst (λ (y : ℕ). Rules m y b) x.0 r) in
    ap (λ (t : Option Slot). read_slot t m) (chosen-first (valid_header (header_at m slot1)) (valid_header (header_at m slot2)) (sequence_number_of (header_at m slot1)) (sequence_number_of (header_at m slot2)) r'.valid r'.greater)
    ∙ ap (λ (y : ℕ). read_header y (header_at m y)) (sym x.0))
    (λ x.
    let r' : Rules m slot2 slot1 = subst (λ (y : ℕ). Rules m slot2 y) x.1 (subst (λ (y : ℕ). Rules m y b) x.0 r) in
    ap (λ (t : Option Slot). read_slot t m) (chosen-second (valid_header (header_at m slot1)) (valid_header (header_at m slot2)) (sequence_number_of (header_at m slot1)) (sequence_number_of (header_at m slot2)) r'.valid r'.greater)
    ∙ ap (λ (y : ℕ). read_header y (header_at m y)) (sym x.0))
    s

-- ---- a header that stands so is current

pub current-by : (b : List ℕ) (n : ℕ) (h : Header) → n ≤ length b → mib ≤ n → h.log_offset + h.log_length ≤ n → Standing (first_mib b) h → current_header b n ≡ Ok h
unfolding current_header read_first_mib read_header
current-by b n h fits first inside s =
    let m = first_mib b in
    let slot : read_slot (current_slot m) m ≡ Ok h =
    read-slot m h.slot (other_slot h.slot) s.slots s.rules
    ∙ ap (λ (t : Bool). check t (Err HeaderField) (Ok (contents h.slot (header_at m h.slot)))) s.keeps
    ∙ ap Ok s.same in
    simp (le-leb n (length b) fits, le-leb mib n first, s.begins, slot, le-leb (h.log_offset + h.log_length) n inside)
