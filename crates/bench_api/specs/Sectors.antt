-- One sector of a plan, as the exported function answers it. The answer is written into an array that the caller lends: what stands
-- in it otherwise stays.
-- Assumes nothing.
use Rattle.std.specs.Prelude.{List, ◌≡◌, ℕ, set, Option, None, Some}
use Rattle.std.proofs.Math.Option as math
use Rattle.vhdx_walk.specs.Entries.{Sector}
use Rattle.vhdx_walk.specs.Walk.{next_of}
use Rattle.vhdx_walk.specs.declared.run.Source.{Source}
use Rattle.vhdx_walk.specs.declared.run.Source.TheVariants.{Zeros, Data}
use Rattle.vhdx_walk.specs.declared.SectorWrite.{SectorWrite}

-- a sector's kind, and what is written of it: its offset, and where the log holds its bytes
abbrev pub source_kind : Source → ℕ
source_kind Zeros = 1
source_kind (Data descriptor sector) = 2

abbrev pub source_in : Source → List ℕ → List ℕ
source_in Zeros answer = answer
source_in (Data descriptor sector) answer = set (set answer 1 descriptor) 2 sector

abbrev pub kind_of : Option SectorWrite → ℕ
kind_of None = 0
kind_of (Some s) = source_kind s.source

abbrev pub next_in : Option SectorWrite → List ℕ → List ℕ
next_in None answer = answer
next_in (Some s) answer = source_in s.source (set answer 0 s.offset)

-- the kind and what was written stand for the expected sector
pub record Answered (log : List ℕ) (expected : math.Option Sector) (kind : ℕ) (before after : List ℕ) : Type 0 where
  pub next : Option SectorWrite
  pub is : next_of log next ≡ expected
  pub told : kind ≡ kind_of next
  pub written : after ≡ next_in next before
