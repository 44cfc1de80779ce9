-- Document 01's R1 to R6, each computed from the definition of the log's work, and compared with what 01 says.
-- Assumes nothing.
use mathlib.Core.Path.{◌≡◌, refl}
use mathlib.Core.List.{List, [], ◌∷◌}
use Prim.Native.Nat.{ℕ, ◌*◌}
use Rattle.decision.specs.Examples.{Example, R, Agree}
use Rattle.extent.specs.Extent.{mib}
use Rattle.vhdx_walk.specs.Entries.{Descriptor, zeros, only, zero_sector, sectors_at}
use Rattle.vhdx_log.specs.Work.{Plan, refused, apply, count, work}

-- a plan in figures: the refusal's number or 0, the final length, the count
figures : Plan → List ℕ
figures (refused c) = c ∷ 0 ∷ 0 ∷ []
figures (apply n ss) = 0 ∷ n ∷ count (apply n ss) ∷ []

-- "log at 1 MiB, 1 MiB long; image 3 MiB; one entry: LastFileOffset 4 MiB": the buffer's length, FlushedFileOffset and the zero
-- descriptor vary
pub planned : ℕ → ℕ → Descriptor → Plan
planned capacity flushed d =
    work (record { offset = mib; length = mib }) (only (record { flushed = flushed; last = 4 * mib; descriptors = d ∷ [] })) (3 * mib) capacity

case : ℕ → ℕ → Descriptor → List ℕ
case capacity flushed d = figures (planned capacity flushed d)

pub examples : List Example
examples =
    record { name = R 1; given = case 4194304 3145728 (zeros 3145728 8192); said = 0 ∷ 4194304 ∷ 2 ∷ [] }
    ∷ record { name = R 2; given = case 4194303 3145728 (zeros 3145728 8192); said = 8 ∷ 0 ∷ 0 ∷ [] }
    ∷ record { name = R 3; given = case 4194304 3145729 (zeros 3145728 8192); said = 6 ∷ 0 ∷ 0 ∷ [] }
    ∷ record { name = R 4; given = case 4194304 3145728 (zeros 1044480 4096); said = 7 ∷ 0 ∷ 0 ∷ [] }
    ∷ record { name = R 5; given = case 4194304 3145728 (zeros 1048576 4096); said = 7 ∷ 0 ∷ 0 ∷ [] }
    ∷ record { name = R 6; given = case 4194304 3145728 (zeros 1048576 0); said = 0 ∷ 4194304 ∷ 0 ∷ [] }
    ∷ []

pub agree : Agree examples
unfolding examples case planned figures work sectors_at
agree = refl

-- R1 is work that can be done: two sectors of zeros
pub r1-applies : planned 4194304 3145728 (zeros 3145728 8192)
    ≡ apply 4194304 (record { offset = 3145728; bytes = zero_sector } ∷ record { offset = 3149824; bytes = zero_sector } ∷ [])
unfolding planned work sectors_at
r1-applies = refl
