-- What the calls answer, case by case, is what is told in numbers.
-- Assumes nothing.
use mathlib.Core.Path.{◌≡◌, refl}
use Prim.Native.Nat.{ℕ}
use Rattle.std.specs.Prelude.{Result, Ok, Err}
use Rattle.std.specs.Result.{result_unwrap_or}
use Rattle.decision.specs.declared.Refusal.{Refusal}
use Rattle.decision.specs.Refusal.{refusal_of, outcome}
use Rattle.vhdx_facts.specs.declared.Facts.{Facts}
use Rattle.vhdx_facts.specs.Ranges.{no_facts}
use Rattle.vhdx_steps.specs.Stepped.{Stepped, stepped_numbers}
use Rattle.vhdx_close_steps.specs.declared.Closed.{Closed as Figures}
use Rattle.vhdx_close_steps.specs.Close.{Closed, closed_numbers}
use Rattle.vhdx.specs.declared.Planned.{Planned as Answer}
use Rattle.vhdx_tables.specs.Tables.{facts_told}
use Rattle.vhdx.specs.Plan.{Planned, planned_numbers}

pub stepped : (n : ℕ) (r : Result ℕ Refusal) → ◌≡◌ {A = Stepped} (record { refusal = refusal_of (outcome r); length = result_unwrap_or r n }) (stepped_numbers n r)
stepped n (Err r) = refl
stepped n (Ok m) = refl

pub planned : (n : ℕ) (r : Result Answer Refusal)
    → ◌≡◌ {A = Planned} (let p = result_unwrap_or r (record { length = n; count = 0 }) in record { refusal = refusal_of (outcome r); length = p.length; count = p.count }) (planned_numbers n r)
planned n (Err r) = refl
planned n (Ok p) = refl

pub closed : (n : ℕ) (r : Result Figures Refusal)
    → ◌≡◌ {A = Closed} (let p = result_unwrap_or r (record { length = n; count = 0 }) in record { refusal = refusal_of (outcome r); length = p.length; count = p.count }) (closed_numbers n r)
closed n (Err r) = refl
closed n (Ok p) = refl

pub facts : (r : Result Facts Refusal) → result_unwrap_or r no_facts ≡ facts_told (outcome r)
facts (Err r) = refl
facts (Ok f) = refl
