-- Where the log is, and what the replay of planned work relies on.
-- Assumes nothing.
use Rattle.std.specs.Prelude.{List, ◌≡◌, ℕ, Result, Ok, Err}
use Rattle.decision.specs.declared.Refusal.{Refusal}
use Rattle.extent.specs.declared.Extent.{Extent}
use Rattle.extent.specs.Extent.{nowhere}
use Rattle.vhdx_header.specs.declared.Header.{Header}
use Rattle.vhdx_header.specs.Current.{current_header}
use Rattle.vhdx_walk.specs.Walk.{walk_from, Ready}
use Rattle.vhdx_log.specs.declared.Work.{Work}
use Rattle.vhdx_log.specs.Work.{count}
use Rattle.vhdx_log.specs.Plan.{extent_of, plan}
use Rattle.vhdx_log.specs.Answers.{log_of, plan_of}

-- where a header says that the log is; nowhere without one
abbrev pub extent_by : Result Header Refusal → Extent
extent_by (Err r) = nowhere
extent_by (Ok h) = extent_of h

-- the log of the image that is a buffer's first n bytes: the current header's
unfoldable pub log_extent : List ℕ → ℕ → Extent
log_extent buffer n = extent_by (current_header buffer n)

-- the work is what is planned for that image, whose log is here
pub record Planned (buffer : List ℕ) (n : ℕ) (log : Extent) (w : Work) : Type 0 where
  pub here : log ≡ log_extent buffer n
  pub same : plan_of buffer n (Ok w) ≡ plan buffer n
  pub counted : w.count ≡ count (plan buffer n)
  pub ready : Ready (log_of buffer n) (walk_from w.cursor)
