-- The facts of any image, as the exported function answers them. One of less than 1 MiB is refused as 1, as a caller of the tables
-- would have done before.
-- Assumes nothing.
use Rattle.std.specs.Prelude.{cond, List, ℕ, nat_le, length}
use Rattle.decision.specs.Refusal.{Outcome, refused}
use Rattle.extent.specs.declared.Extent.{Extent}
use Rattle.extent.specs.Extent.{mib}
use Rattle.vhdx_facts.specs.declared.Facts.{Facts}
use Rattle.vhdx_tables.specs.Tables.{tables}

unfoldable pub reading_of : List ℕ → Extent → Outcome Facts
reading_of image log = cond (nat_le mib (length image)) (tables image log) (refused 1)
