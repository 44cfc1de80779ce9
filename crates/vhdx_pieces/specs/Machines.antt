-- The log's work in pieces (change request Q-13: "it says which bytes of the file it wants next or which it wants written, and is told
-- they are there"): what a machine asks for, and what it does when that is done.
-- Assumes nothing.
use Rattle.std.specs.Prelude.{Bool, false, cond, List, Ok, Err, ◌≡◌, ℕ, suc, ◌+◌, ◌-◌, ◌*◌, ◌<◌, nat_eq, nat_lt}
use Rattle.std.specs.declared.ops.ControlFlow.TheVariants.{Continue, Break}
use Rattle.decision.specs.declared.Refusal.TheVariants.{NoLogSequence}
use Rattle.decision.specs.Refusal.{check}
use Rattle.extent.specs.declared.Extent.{Extent}
use Rattle.extent.specs.Extent.{nowhere}
use Rattle.vhdx_walk.specs.Entries.{Sector, length_limit}
use Rattle.vhdx_pieces_plan.specs.declared.Order.{Order}
use Rattle.vhdx_pieces_plan.specs.Planning as planning
use Rattle.vhdx_pieces_plan.specs.Planning.{sectors_of, sector_in, OrderFor}
use Rattle.vhdx_pieces_walk.specs.declared.Bounds.{Bounds}
use Rattle.vhdx_pieces_walk.specs.declared.Step as walk
use Rattle.vhdx_pieces_walk.specs.declared.Step.TheVariants as walk_step
use Rattle.vhdx_pieces_walk.specs.Walking as walking
use Rattle.vhdx_pieces_sector.specs.Written as written
use Rattle.vhdx_pieces.specs.declared.Machine.{Machine}
use Rattle.vhdx_pieces.specs.declared.Machine.TheVariants.{Planning, Growing, Reading, Writing}
use Rattle.vhdx_pieces.specs.declared.Turn.{Turn}
use Rattle.vhdx_pieces.specs.declared.Turn.TheVariants.{Read, Grow, Write, Done, Refused}

-- the bytes that are wanted, none where something else is asked for
abbrev pub wanted_of : Machine → Extent
wanted_of (Planning p) = planning.wanted_of p
wanted_of (Growing o) = nowhere
wanted_of (Reading d) = sector_in d.order.log (walking.wanted_of d.walker)
wanted_of (Writing d) = nowhere

-- the length to which the file is to grow
abbrev pub growth_of : Machine → ℕ
growth_of (Planning p) = 0
growth_of (Growing o) = o.length
growth_of (Reading d) = 0
growth_of (Writing d) = 0

-- the sector that is to be written, where s was read last
abbrev pub written_of : Machine → List ℕ → Sector
written_of (Planning p) s = record { offset = 0; bytes = s }
written_of (Growing o) s = record { offset = 0; bytes = s }
written_of (Reading d) s = record { offset = 0; bytes = s }
written_of (Writing d) s = walking.written_of d.walker s

-- it is a data descriptor's
abbrev pub is_data_of : Machine → Bool
is_data_of (Planning p) = false
is_data_of (Growing o) = false
is_data_of (Reading d) = false
is_data_of (Writing d) = written.is_data_of d.walker

abbrev pub bounds_of : Order → Bounds
bounds_of o = record { log = o.log; limit = o.length }

-- where k of the planned sectors are not written yet: a log that reads otherwise than it did asks for more or fewer
abbrev pub walked : Order → ℕ → walk.Step → Turn
walked o k (walk_step.Read w) = Read (Reading (record { order = o; walker = w; unwritten = k }))
walked o k (walk_step.Write w) = check (nat_lt 0 k) (Refused NoLogSequence) (Write (Writing (record { order = o; walker = w; unwritten = k - 1 })))
walked o k walk_step.Ended = check (nat_eq k 0) (Refused NoLogSequence) (Done (record { length = o.length; count = o.count }))
walked o k walk_step.Broken = Refused NoLogSequence

unfoldable pub walk_from : Order → Turn
walk_from o = walked o o.count (walking.started (record { at = o.start; len = sectors_of o.log }) o.left)

abbrev pub ordered : ℕ → planning.Outcome → Turn
ordered n (Err r) = Refused r
ordered n (Ok o) = cond (nat_lt n o.length) (Grow (Growing o)) (walk_from o)

abbrev pub planned : ℕ → planning.Step → Turn
planned n (Continue p) = Read (Planning p)
planned n (Break o) = ordered n o

abbrev pub started : ℕ → ℕ → Turn
started n capacity = planned n (planning.started n capacity)

abbrev pub step_in : Machine → List ℕ → Turn
step_in (Planning p) s = planned p.context.length (planning.step_of p s)
step_in (Growing o) s = walk_from o
step_in (Reading d) s = walked d.order d.unwritten (walking.step_of (bounds_of d.order) d.walker s)
step_in (Writing d) s = walked d.order d.unwritten (walking.wrote_of d.walker)

unfoldable pub step_of : Machine → List ℕ → Turn
step_of m s = step_in m s

-- ---- what a machine keeps to, whatever is fed

abbrev pub Sane : Machine → Type 0
Sane (Planning p) = planning.Sane p
Sane (Growing o) = OrderFor o.length o
Sane (Reading d) = OrderFor d.order.length d.order × walking.SaneReading (bounds_of d.order) d.walker × (d.walker.pos.len ≡ sectors_of d.order.log)
Sane (Writing d) = OrderFor d.order.length d.order × walking.SaneWriting (bounds_of d.order) d.walker × (d.walker.pos.len ≡ sectors_of d.order.log)

abbrev pub Kept : Turn → Type 0
Kept (Read m) = Sane m
Kept (Grow m) = Sane m
Kept (Write m) = Sane m
Kept (Done w) = Unit {0}
Kept (Refused r) = Unit {0}

-- ---- how many requests it still makes, at most

-- of the work on a log of fewer than 2^20 sectors, an entry with fewer than 2^32 descriptors
abbrev pub work_most : ℕ
work_most = 1048576 * 4294967296 * (length_limit + 3)

abbrev pub left_in : Machine → ℕ
left_in (Planning p) = planning.left_of (Continue p) + suc work_most
left_in (Growing o) = suc work_most
left_in (Reading d) = walking.left_of (bounds_of d.order) (walk_step.Read d.walker)
left_in (Writing d) = walking.left_of (bounds_of d.order) (walk_step.Write d.walker)

abbrev pub left_of : Turn → ℕ
left_of (Read m) = left_in m
left_of (Grow m) = left_in m
left_of (Write m) = left_in m
left_of (Done w) = 0
left_of (Refused r) = 0

-- whatever is fed, it may be fed again, and less is left
abbrev pub MachineAdvances : Type 0
MachineAdvances = (m : Machine) (p : List ℕ) → Sane m → Kept (step_of m p) × (left_of (step_of m p) < left_in m)
