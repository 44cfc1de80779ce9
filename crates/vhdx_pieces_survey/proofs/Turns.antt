-- What the code's tests decide.
-- Assumes nothing.
use mathlib.Core.Path.{◌≡◌, sym, ap, ap₂, ◌∙◌}
use mathlib.Core.Bool.{Bool, true, false, ◌&&◌, and-false}
use mathlib.Core.List.{List}
use Prim.Native.Nat.{ℕ, zero, suc, ◌+◌, ◌-◌, ◌*◌, ◌≤◌, ◌<◌, min}
use native.Mathlib.Numerals.{add-one}
use native.Mathlib.Omega.{arith}
use lib.Dec.{eqb, leb, eqb-suc-zero}
use borrow.Author.Tests.{le-leb, lt-leb}
use Rattle.vhdx_entry.specs.Entry.{descriptor_sectors}
use Rattle.extent.specs.declared.Extent.{Extent}
use Rattle.vhdx_log.specs.declared.survey.Survey.{Survey}
use Rattle.vhdx_pieces_entry.specs.Sector.{descriptor_in}
use Rattle.vhdx_pieces_entry.specs.Pass.{from_of, places_in}
use Rattle.vhdx_pieces_survey.specs.declared.Tour.{Tour}
use Rattle.std.specs.Prelude.{None}
use Rattle.std.specs.declared.ops.ControlFlow.TheVariants.{Break}
use Rattle.vhdx_pieces_survey.specs.Touring.{Step, added_by, survey_in, opened, fits, passed, step_of}

pub survey-more : (e : Extent) (sv : Survey) (s : List ℕ) (from i : ℕ) → survey_in e sv s from (i + 1) ≡ added_by e (survey_in e sv s from i) (descriptor_in s from i)
unfolding survey_in
survey-more e sv s from i = rw (add-one i)

pub fits-here : (k seen count : ℕ) → 64 + 32 * seen ≡ k * 4096 + from_of k → from_of k + 32 * min (count - seen) (places_in k) ≤ 4096
fits-here zero seen count h = omega arith
fits-here (suc k) seen count h = rw (eqb-suc-zero k) (omega arith)

-- ---- whether an entry's descriptors and sectors fit

pub fitting : (o : Tour) {f : ℕ} → f ≡ descriptor_sectors o.count → f ≤ o.size → o.size ≤ o.pos.len → fits o ≡ true
fitting o e a b = ap₂ (λ (x y : Bool). x && y) (le-leb (descriptor_sectors o.count) o.size (omega arith)) (le-leb o.size o.pos.len b)

pub front-long : (o : Tour) {f : ℕ} → f ≡ descriptor_sectors o.count → o.size < f → fits o ≡ false
front-long o e a = ap (λ (x : Bool). x && leb o.size o.pos.len) (lt-leb (descriptor_sectors o.count) o.size (omega arith))

pub ring-short : (o : Tour) → o.pos.len < o.size → fits o ≡ false
ring-short o b = ap (λ (x : Bool). leb (descriptor_sectors o.count) o.size && x) (lt-leb o.size o.pos.len b) ∙ and-false (leb (descriptor_sectors o.count) o.size)

-- ---- a turn, by its tests

module _ (e : Extent) (t : Tour) (s : List ℕ) where
  pub inside-turn : {r : Step} → eqb t.read 0 ≡ false → r ≡ passed e t s → r ≡ step_of e t s
  unfolding step_of
  inside-turn h p = p ∙ sym (rw h)

  module _ (o : Tour) (h : eqb t.read 0 ≡ true) (q : o ≡ opened t s) where
    pub header-turn : {r : Step} → fits o ≡ true → r ≡ passed e o s → r ≡ step_of e t s
    unfolding step_of
    header-turn f p = p ∙ ap (λ (x : Tour). passed e x s) q ∙ sym (rw (h, sym (ap fits q) ∙ f))

    pub broken-turn : fits o ≡ false → Break None ≡ step_of e t s
    unfolding step_of
    broken-turn f = sym (rw (h, sym (ap fits q) ∙ f))
