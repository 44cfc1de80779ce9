-- A machine that is read back from its numbers; other numbers are no machine's.
-- Assumes nothing.
use Rattle.std.specs.Prelude.{Bool, cond, ◌&&◌, List, ◌≡◌, ℕ, ◌<◌, nat_eq, length, get_or, Option, None, Some}
use Rattle.decision.specs.Bounded.{every}
use Rattle.vhdx_pieces_scan.specs.declared.Stage as scan
use Rattle.vhdx_pieces_scan.specs.declared.Stage.TheVariants as scan_stage
use Rattle.vhdx_pieces_plan.specs.declared.Phase.{Phase}
use Rattle.vhdx_pieces_plan.specs.declared.Phase.TheVariants as phase
use Rattle.vhdx_pieces_walk.specs.declared.Stage as walk
use Rattle.vhdx_pieces_walk.specs.declared.Stage.TheVariants as walk_stage
use Rattle.vhdx_pieces.specs.declared.Machine.{Machine}
use Rattle.vhdx_pieces.specs.declared.Machine.TheVariants.{Planning, Growing, Reading, Writing}
use Rattle.vhdx_pieces.specs.Machines.{Sane}
use Rattle.vhdx_pieces_slots.specs.Slots.{numbers, machine_from}
use Rattle.vhdx_pieces_sanity.specs.Sanity.{sane}

-- two arrays hold the same
unfoldable pub same : List ℕ → List ℕ → Bool
same a b = every 64 (λ i. nat_eq (get_or a i 0) (get_or b i 0))

-- they are the numbers of the machine that they are read as, and that one keeps its bounds
unfoldable pub known : List ℕ → Bool
known ns = sane (machine_from ns) && same (numbers (machine_from ns)) ns

unfoldable pub loaded : List ℕ → Option Machine
loaded ns = cond (known ns) (Some (machine_from ns)) None

-- a machine that was loaded may be handed in
abbrev pub Sound : Option Machine → Type 0
Sound (Some m) = Sane m
Sound None = Unit {0}

-- ---- the laws

-- what is loaded has these very numbers
abbrev pub LoadsOwn : Type 0
LoadsOwn = (ns : List ℕ) (m : Machine) → length ns ≡ 64 → loaded ns ≡ Some m → numbers m ≡ ns

-- the numbers of 32 bits are such, as they are in every machine that the code makes

abbrev pub StageWords : scan.Stage → Type 0
StageWords scan_stage.First = Unit {0}
StageWords (scan_stage.Inside x) = (x.sum < 4294967296) × (x.state < 4294967296)
StageWords (scan_stage.Tail e) = Unit {0}

abbrev pub PhaseWords : Phase → Type 0
PhaseWords (phase.Header s) = Unit {0}
PhaseWords (phase.Scan s) = StageWords s.stage
PhaseWords (phase.Survey s) = Unit {0}

abbrev pub TurnWords : walk.Stage → Type 0
TurnWords walk_stage.Header = Unit {0}
TurnWords walk_stage.Descriptors = Unit {0}
TurnWords (walk_stage.Data d) = d.trailing < 4294967296
TurnWords (walk_stage.Sector d) = d.trailing < 4294967296
TurnWords (walk_stage.Zeros e) = Unit {0}

abbrev pub Words : Machine → Type 0
Words (Planning p) = PhaseWords p.phase
Words (Growing o) = Unit {0}
Words (Reading d) = TurnWords d.walker.stage
Words (Writing d) = TurnWords d.walker.stage

-- and a machine is loaded from its own
abbrev pub Restores : Type 0
Restores = (m : Machine) → Sane m → Words m → loaded (numbers m) ≡ Some m
