-- What one step answers, in numbers (document 01, "What the gate does": "One step does step k of the log's work alone and answers the
-- length after it.").
-- Assumes nothing.
use Rattle.std.specs.Prelude.{ℕ, Result, Ok, Err}
use Rattle.decision.specs.declared.Refusal.{Refusal}
use Rattle.decision.specs.Refusal.{number}

pub record Stepped : Type 0 where
  -- the refusal's, or 0
  pub refusal : ℕ
  -- of the image as the step leaves it
  pub length : ℕ

-- the code's answer, n the given length
abbrev pub stepped_numbers : ℕ → Result ℕ Refusal → Stepped
stepped_numbers n (Err r) = record { refusal = number r; length = n }
stepped_numbers n (Ok m) = record { refusal = 0; length = m }
