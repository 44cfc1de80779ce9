-- A survey that takes one descriptor after the other is the survey of them all: a maximum and a sum that stop at the greatest
-- number do so at every step as they do at the end.
-- Assumes nothing.
use mathlib.Core.Path.{◌≡◌, refl, sym, ap, ◌∙◌}
use mathlib.Core.Bool.{Bool, true, false, cond, ◌||◌, or-false, or_assoc}
use mathlib.Core.List.{List, [], ◌∷◌}
use Prim.Native.Nat.{ℕ, ◌+◌, ◌*◌, ◌/◌, ◌≤◌, max}
use native.Mathlib.Omega.{arith}
use lib.Dec.{eqb}
use lib.ListN.{length, length-append}
use Rattle.extent.specs.declared.Extent.{Extent}
use Rattle.vhdx_walk.specs.declared.run.Run.{Run}
use Rattle.vhdx_walk.specs.Entries.{Descriptor, sectors_of, sectors, end, furthest}
use Rattle.vhdx_walk.specs.Cursor.{bytes_of, descriptor_in, Proper}
use Rattle.vhdx_walk.proofs.Runs.{run-sectors, run_end, run-whole, length-sectors}
use Rattle.vhdx_log.specs.declared.survey.Survey.{Survey}
use Rattle.vhdx_log.specs.Work.{lies, some_lies}
use Rattle.vhdx_log.specs.Survey.{capped, survey_of, added}
use Rattle.vhdx_log.proofs.Lies.{lies_whole, lies-append}

abbrev pub empty : Survey
empty = record { lies = false; end = 0; count = 0 }

pub survey-path : {a a' : Bool} {b b' c c' : ℕ} → a ≡ a' → b ≡ b' → c ≡ c' → ◌≡◌ {A = Survey} (record { lies = a; end = b; count = c }) (record { lies = a'; end = b'; count = c' })
survey-path p q r = λ i. record { lies = p i; end = q i; count = r i }

-- with one descriptor more
abbrev pub with : Extent → Survey → Descriptor → Survey
with log s d =
    record {
      lies = s.lies || some_lies log (sectors_of d);
      end = max s.end (capped (end d));
      count = capped (s.count + length (sectors_of d));
    }

unfoldable pub survey_from : Extent → Survey → List Descriptor → Survey
survey_from log s [] = s
survey_from log s (d ∷ ds) = survey_from log (with log s d) ds

-- ---- a run is a descriptor

capped-end : (t : Bool) (n : ℕ) → cond t 0 (capped n) ≡ capped (cond t 0 n)
capped-end true n = refl
capped-end false n = refl

added-with : (log : List ℕ) (e : Extent) (s : Survey) (run : Run) → Proper log run → added e s run.offset run.length ≡ with e s (descriptor_in log run)
added-with log e s run proper =
    let k = run.length / 4096 in
    let same : k * 4096 ≡ run.length = omega (arith, run-whole log run proper) in
    survey-path
    (ap (λ (t : Bool). s.lies || t)
    (ap (lies e run.offset) (sym same)
    ∙ sym (lies_whole e k run.offset (bytes_of log run.source))
    ∙ ap (some_lies e) (sym (run-sectors log run proper))))
    (ap (max s.end)
    (capped-end (eqb run.length 0) (run.offset + run.length) ∙ ap capped (sym (run_end log run proper))))
    (ap (λ (n : ℕ). capped (s.count + n))
    (sym (length-sectors k run.offset (bytes_of log run.source)) ∙ ap length (sym (run-sectors log run proper))))

-- so a survey that takes a run in has one descriptor less before it
pub survey-onward : (log : List ℕ) (e : Extent) (s t : Survey) (run : Run) (ds rest : List Descriptor) → Proper log run →
    t ≡ added e s run.offset run.length → ds ≡ descriptor_in log run ∷ rest → survey_from e t rest ≡ survey_from e s ds
unfolding survey_from
survey-onward log e s t run ds rest proper taken same =
    ap (λ (x : Survey). survey_from e x rest) (taken ∙ added-with log e s run proper) ∙ ap (survey_from e s) (sym same)

-- ---- one after the other

max-grouped : (a b c : ℕ) → max (max a b) c ≡ max a (max b c)
max-grouped a b c = omega arith

capped-max : (a b : ℕ) → max (capped a) (capped b) ≡ capped (max a b)
capped-max a b = omega arith

capped-sum : (a b c : ℕ) → capped (capped (a + b) + c) ≡ capped (a + (b + c))
capped-sum a b c = omega arith

module _ (log : Extent) where
  together : (s : Survey) (ds : List Descriptor) → s.end ≤ 18446744073709551615 → s.count ≤ 18446744073709551615 →
      survey_from log s ds ≡ record { lies = s.lies || some_lies log (sectors ds); end = max s.end (capped (furthest ds)); count = capped (s.count + length (sectors ds)) }
  unfolding survey_from
  together s [] p q = survey-path (sym (or-false s.lies)) (omega arith) (omega arith)
  together s (d ∷ ds) p q =
      together (with log s d) ds (omega arith) (omega arith)
      ∙ survey-path
      (or_assoc s.lies (some_lies log (sectors_of d)) (some_lies log (sectors ds))
      ∙ ap (λ (t : Bool). s.lies || t) (sym (lies-append log (sectors_of d) (sectors ds))))
      (max-grouped s.end (capped (end d)) (capped (furthest ds)) ∙ ap (max s.end) (capped-max (end d) (furthest ds)))
      (capped-sum s.count (length (sectors_of d)) (length (sectors ds))
      ∙ ap (λ (n : ℕ). capped (s.count + n)) (sym (length-append (sectors_of d) (sectors ds))))

  pub surveyed : (ds : List Descriptor) → survey_from log empty ds ≡ survey_of log ds
  surveyed ds = together empty ds (omega arith) (omega arith) ∙ survey-path refl (omega arith) (omega arith)
