-- What a machine keeps to, decided: the bounds of the machines that are its parts, each in the order in which the code can test it.
-- Assumes nothing.
use Rattle.std.specs.Prelude.{Bool, true, false, ◌&&◌, ◌||◌, ◌≡◌, ℕ, ◌+◌, ◌*◌, ◌%◌, nat_eq, nat_le, nat_lt}
use Rattle.extent.specs.Extent.{inside}
use Rattle.vhdx_entry.specs.declared.Entry.{Entry}
use Rattle.vhdx_entry.specs.declared.ring.RingPos.{RingPos}
use Rattle.vhdx_entry.specs.Entry.{descriptor_sectors}
use Rattle.vhdx_sequence.specs.declared.lap.Place.{Place}
use Rattle.vhdx_sequence.specs.declared.scan.Trace.{Trace}
use Rattle.vhdx_walk.specs.Entries.{length_limit}
use Rattle.vhdx_pieces_entry.specs.declared.Reading as entry
use Rattle.vhdx_pieces_entry.specs.Pass.{from_of}
use Rattle.vhdx_pieces_scan.specs.declared.Stage.{Stage}
use Rattle.vhdx_pieces_scan.specs.declared.Stage.TheVariants as stage
use Rattle.vhdx_pieces_scan.specs.declared.Scanner.{Scanner}
use Rattle.vhdx_pieces_survey.specs.declared.Tour.{Tour}
use Rattle.vhdx_pieces_plan.specs.declared.Context.{Context}
use Rattle.vhdx_pieces_plan.specs.declared.Surveying.{Surveying}
use Rattle.vhdx_pieces_plan.specs.declared.Phase.{Phase}
use Rattle.vhdx_pieces_plan.specs.declared.Phase.TheVariants as phase
use Rattle.vhdx_pieces_plan.specs.declared.Order.{Order}
use Rattle.vhdx_pieces_plan.specs.Planning.{sectors_of}
use Rattle.vhdx_pieces_walk.specs.declared.Bounds.{Bounds}
use Rattle.vhdx_pieces_walk.specs.declared.Stage as walk
use Rattle.vhdx_pieces_walk.specs.declared.Stage.TheVariants as turn
use Rattle.vhdx_pieces_walk.specs.declared.Walker.{Walker}
use Rattle.vhdx_pieces_walk.specs.Walking.{allowed}
use Rattle.vhdx_pieces.specs.declared.Machine.{Machine}
use Rattle.vhdx_pieces.specs.declared.Machine.TheVariants.{Planning, Growing, Reading, Writing}
use Rattle.vhdx_pieces.specs.Machines.{bounds_of, Sane}

-- on a log's ring, with so many entries left
abbrev pub standing : RingPos → ℕ → Bool
standing pos left = nat_lt pos.at pos.len && (nat_lt pos.len 1048576 && (nat_lt 0 left && nat_le left pos.len))

-- ---- a planner

unfoldable pub bounded : Context → Bool
bounded c =
    nat_lt c.length 18446744073709551616 && (nat_lt c.log.length 4294967296 && inside c.log.offset c.log.length c.length)

-- its scan

abbrev pub placed : ℕ → Place → Bool
placed n p = nat_eq p.pos.at (p.count % n) && nat_eq p.pos.len n

unfoldable pub upright : Trace → Place → Bool
upright t p =
    nat_lt p.pos.len 1048576
    && (nat_lt p.count (p.pos.len + p.pos.len)
    && (placed p.pos.len p && (placed p.pos.len t.start && nat_le t.start.count p.count)))

unfoldable pub readable : ℕ → entry.Reading → Bool
readable n x =
    nat_lt x.count 4294967296
    && (nat_le x.seen x.count
    && (nat_le x.found x.seen && (nat_le (descriptor_sectors x.count) n && (nat_lt x.tail n && nat_lt x.read n))))

abbrev pub ended : ℕ → Entry → Bool
ended n e = nat_lt 0 e.size && (nat_le e.size n && nat_lt e.tail n)

unfoldable pub staged : ℕ → Stage → Bool
staged n stage.First = true
staged n (stage.Inside x) = readable n x
staged n (stage.Tail e) = ended n e

unfoldable pub scanning : Scanner → Bool
scanning s = upright s.trace s.place && staged s.place.pos.len s.stage

-- its survey

unfoldable pub opened : Tour → Bool
opened t =
    nat_lt t.count 4294967296
    && (nat_le t.seen t.count
    && (nat_eq (64 + 32 * t.seen) (t.read * 4096 + from_of t.read)
    && (nat_le (descriptor_sectors t.count) t.size && nat_le t.size t.pos.len)))

unfoldable pub touring : Tour → Bool
touring t =
    standing t.pos t.left && (nat_lt t.read t.pos.len && (nat_eq t.read 0 || (opened t && nat_lt t.seen t.count)))

-- its phase

unfoldable pub sane_scan : Context → Scanner → Bool
sane_scan c s = bounded c && (scanning s && nat_eq s.place.pos.len (sectors_of c.log))

unfoldable pub sane_survey : Context → Surveying → Bool
sane_survey c s =
    bounded c
    && (touring s.tour
    && (nat_eq s.tour.pos.len (sectors_of c.log)
    && (nat_lt s.found.start (sectors_of c.log) && nat_lt s.found.more (sectors_of c.log))))

unfoldable pub sane_phase : Context → Phase → Bool
sane_phase c (phase.Header s) = nat_lt c.length 18446744073709551616 && nat_le 1048576 c.length
sane_phase c (phase.Scan s) = sane_scan c s
sane_phase c (phase.Survey s) = sane_survey c s

-- ---- an order, of the final length

unfoldable pub orderly : Order → Bool
orderly o =
    (nat_le o.length o.length && nat_le o.length length_limit)
    && (nat_lt o.log.length 4294967296
    && (inside o.log.offset o.log.length o.length
    && (nat_le o.left (sectors_of o.log) && (nat_eq o.left 0 || nat_lt o.start (sectors_of o.log)))))

-- ---- an order that is being done

unfoldable pub entered : Walker → Bool
entered w =
    standing w.pos w.left
    && (nat_lt w.count 4294967296
    && (nat_le w.index w.count
    && (nat_le w.«data» w.index && (nat_le (descriptor_sectors w.count) w.size && nat_le w.size w.pos.len))))

unfoldable pub wants : Bounds → Walker → walk.Stage → Bool
wants b w turn.Header = standing w.pos w.left
wants b w turn.Descriptors = entered w && nat_lt w.index w.count
wants b w (turn.Data d) = entered w && (nat_lt (descriptor_sectors w.count + d.rank) w.size && allowed b d.offset 4096)
wants b w (turn.Sector d) = false
wants b w (turn.Zeros e) = false

unfoldable pub writes : Bounds → Walker → walk.Stage → Bool
writes b w turn.Header = false
writes b w turn.Descriptors = false
writes b w (turn.Data d) = false
writes b w (turn.Sector d) = entered w && allowed b d.offset 4096
writes b w (turn.Zeros e) = entered w && (nat_lt 0 e.length && allowed b e.offset e.length)

-- ---- a machine

unfoldable pub sane : Machine → Bool
sane (Planning p) = sane_phase p.context p.phase
sane (Growing o) = orderly o
sane (Reading d) =
    orderly d.order && (wants (bounds_of d.order) d.walker d.walker.stage && nat_eq d.walker.pos.len (sectors_of d.order.log))
sane (Writing d) =
    orderly d.order && (writes (bounds_of d.order) d.walker d.walker.stage && nat_eq d.walker.pos.len (sectors_of d.order.log))

-- the test is neither too narrow nor too wide
abbrev pub DecidesSane : Type 0
DecidesSane = (m : Machine) → (sane m ≡ true → Sane m) × (Sane m → sane m ≡ true)
