-- That closing answers what was planned: its plan is the log's, with or without the header behind it, or 23.
-- Assumes nothing.
use mathlib.Core.Path.{◌≡◌, refl, sym, ap, ap₂, ◌∙◌}
use mathlib.Core.Bool.{Bool, true, false, cond}
use mathlib.Core.List.{List, [], ◌∷◌, ◌++◌}
use mathlib.Core.Logic.{◌⊎◌, inl, inr}
use Prim.Native.Nat.{ℕ}
use lib.Dec.{eqb, ltb}
use Rattle.decision.specs.Refusal.{check}
use Rattle.field.specs.Fields.{number}
use Rattle.vhdx_header.specs.declared.Header.{Header}
use Rattle.vhdx_walk.specs.Entries.{Sector}
use Rattle.vhdx_log.specs.Work.{Plan, refused, apply, count}
use Rattle.vhdx_steps.specs.Buffer.{zeroed}
use Rattle.vhdx_steps.specs.Steps.{File, runs, steps}
use Rattle.vhdx_steps.specs.Calls.{plan_of}
use Rattle.vhdx_replay.proofs.Done.{written-size}
use Rattle.vhdx_steps.proofs.Reading.{header_of}
use Rattle.vhdx_rewrite.specs.Rewrite.{greatest}
use Rattle.vhdx_close_steps.specs.Close.{header_sector, close_plan, after_close, closed_by, close_answer}
use Rattle.vhdx_close_steps.proofs.Safety.{refused-either}
use Rattle.vhdx.specs.Plan.{Planned, planned_by, plan_answer, planned_of, ForetellsClose}

module _ (identifier : List ℕ) (f : File) where
  -- the answer by the plan
  told : Plan → Planned
  told p = planned_of (closed_by p (runs (steps p) f) (count (plan_of f)))

  answer-is : (p : Plan) → close_plan identifier f ≡ p → planned_of (close_answer identifier f) ≡ told p
  unfolding close_answer after_close told
  answer-is p e = ap (λ (x : Plan). planned_of (closed_by x (runs (steps x) f) (count (plan_of f)))) e

  as-planned : (m : ℕ) (ss us : List Sector) → plan_of f ≡ apply m ss → close_plan identifier f ≡ apply m us → planned_of (close_answer identifier f) ≡ plan_answer f
  unfolding plan_answer told
  as-planned m ss us e q =
      answer-is (apply m us) q
      ∙ ap₂ (λ (l k : ℕ). record { refusal = 0; length = l; count = k }) (written-size us (record { buffer = zeroed f.buffer f.size m; size = m })) (ap count e)
      ∙ ap (λ (p : Plan). planned_by p f.size) (sym e)

pub foretells-close : ForetellsClose
unfolding plan_answer close_plan told
foretells-close identifier f = go (plan_of f) refl
  where
    go : (p : Plan) → plan_of f ≡ p → ((close_answer identifier f).refusal ≡ 23) ⊎ (planned_of (close_answer identifier f) ≡ plan_answer f)
    go (refused c) e = inr (answer-is identifier f (refused c) (refused-either identifier f c e) ∙ ap (λ (p : Plan). planned_by p f.size) (sym e))
    go (apply m ss) e =
        let x = header_of f.buffer f.size e in
        by x.0 (eqb (number x.0.log_guid) 0) (ltb x.0.sequence_number greatest) (rw (x.1, e))
      where
        by : (h : Header) (z t : Bool) → close_plan identifier f ≡ cond z (apply m ss) (check t (refused 23) (apply m (ss ++ (header_sector identifier f h ∷ []))))
            → ((close_answer identifier f).refusal ≡ 23) ⊎ (planned_of (close_answer identifier f) ≡ plan_answer f)
        by h true t q = inr (as-planned identifier f m ss ss e q)
        by h false true q = inr (as-planned identifier f m ss (ss ++ (header_sector identifier f h ∷ [])) e q)
        by h false false q = inl (ap (λ (a : Planned). a.refusal) (answer-is identifier f (refused 23) q))
