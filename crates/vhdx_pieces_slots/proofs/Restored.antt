-- A machine is read from its own numbers.
-- Assumes nothing.
use mathlib.Core.Path.{◌≡◌, refl}
use Prim.Native.Nat.{ℕ}
use native.Mathlib.Nat.{mod-eq_of_lt}
use Rattle.vhdx_sequence.specs.declared.Sequence.{Sequence}
use Rattle.vhdx_sequence.specs.declared.lap.Place.{Place}
use Rattle.vhdx_pieces_header.specs.declared.Stage as header
use Rattle.vhdx_pieces_header.specs.declared.Stage.TheVariants as header_stage
use Rattle.vhdx_pieces_scan.specs.declared.Stage as scan
use Rattle.vhdx_pieces_scan.specs.declared.Stage.TheVariants as scan_stage
use Rattle.vhdx_pieces_plan.specs.declared.Context.{Context}
use Rattle.vhdx_pieces_plan.specs.declared.Phase.{Phase}
use Rattle.vhdx_pieces_plan.specs.declared.Phase.TheVariants as phase
use Rattle.vhdx_pieces_plan.specs.declared.Surveying.{Surveying}
use Rattle.vhdx_pieces_plan.specs.declared.Order.{Order}
use Rattle.vhdx_pieces_walk.specs.declared.Stage as walk
use Rattle.vhdx_pieces_walk.specs.declared.Stage.TheVariants as walk_stage
use Rattle.vhdx_pieces.specs.declared.Doing.{Doing}
use Rattle.vhdx_pieces.specs.declared.Machine.{Machine}
use Rattle.vhdx_pieces.specs.declared.Machine.TheVariants.{Planning, Growing, Reading, Writing}
use Rattle.std.specs.Prelude.{Option, None, Some}
use Rattle.vhdx_slots.specs.Slots.{in_slots}
use Rattle.vhdx_slots.proofs.Laws.{bit-read}
use Rattle.vhdx_pieces_slots.specs.Slots.{zeros, context_in, header_in, header_from, best_in, stage_in, stage_from, scanner_in, scanner_from, tour_in, surveying_in, surveying_from, phase_in, phase_from, planner_in, planner_from, order_in, held_in, turn_in, turn_from, walker_in, walker_from, doing_in, doing_from, numbers, machine_from}
use Rattle.vhdx_pieces_slots.specs.Loading.{StageWords, PhaseWords, TurnWords, Words}

abbrev Restored : Machine → Type 0
Restored m = machine_from (numbers m) ≡ m

abbrev planning : Context → Phase → Machine
planning c p = Planning (record { context = c; phase = p })

header-restored : (c : Context) (s : header.Stage) → Restored (planning c (phase.Header s))
unfolding zeros in_slots context_in header_in header_from phase_in phase_from planner_in planner_from numbers machine_from
header-restored c header_stage.Identifier = refl
header-restored c header_stage.First = refl
header-restored c (header_stage.Second x) = rw (bit-read x.valid, bit-read x.rules)

abbrev scanning : Context → Place → Place → ℕ → ℕ → Option Sequence → scan.Stage → Machine
scanning c place start next number best stage =
    planning c (phase.Scan (record { trace = record { start = start; next = next; number = number; best = best }; place = place; stage = stage }))

scan-restored : (c : Context) (place start : Place) (next number : ℕ) (q : Option Sequence) (s : scan.Stage) → StageWords s → Restored (scanning c place start next number q s)
unfolding zeros in_slots context_in best_in stage_in stage_from scanner_in scanner_from phase_in phase_from planner_in planner_from numbers machine_from
scan-restored c place start next number None scan_stage.First w = refl
scan-restored c place start next number None (scan_stage.Inside x) w = rw (mod-eq_of_lt w.0, mod-eq_of_lt w.1)
scan-restored c place start next number None (scan_stage.Tail e) w = refl
scan-restored c place start next number (Some q) scan_stage.First w = refl
scan-restored c place start next number (Some q) (scan_stage.Inside x) w = rw (mod-eq_of_lt w.0, mod-eq_of_lt w.1)
scan-restored c place start next number (Some q) (scan_stage.Tail e) w = refl

survey-restored : (c : Context) (s : Surveying) → Restored (planning c (phase.Survey s))
unfolding zeros in_slots context_in tour_in surveying_in surveying_from phase_in phase_from planner_in planner_from numbers machine_from
survey-restored c s = rw (bit-read s.tour.found.lies)

phase-restored : (c : Context) (p : Phase) → PhaseWords p → Restored (planning c p)
phase-restored c (phase.Header s) w = header-restored c s
phase-restored c (phase.Scan s) w = scan-restored c s.place s.trace.start s.trace.next s.trace.number s.trace.best s.stage w
phase-restored c (phase.Survey s) w = survey-restored c s

growing-restored : (o : Order) → Restored (Growing o)
unfolding zeros in_slots order_in numbers machine_from
growing-restored o = refl

-- with the walker in a stage
abbrev doing : Doing → walk.Stage → Doing
doing d s =
    let w = d.walker in
    record {
      order = d.order;
      walker = record { pos = w.pos; left = w.left; count = w.count; size = w.size; index = w.index; «data» = w.«data»; stage = s };
      unwritten = d.unwritten;
    }

doing-restored : (d : Doing) (s : walk.Stage) → TurnWords s → Restored (Reading (doing d s)) × Restored (Writing (doing d s))
unfolding zeros in_slots order_in held_in turn_in turn_from walker_in walker_from doing_in doing_from numbers machine_from
doing-restored d walk_stage.Header w = (refl, refl)
doing-restored d walk_stage.Descriptors w = (refl, refl)
doing-restored d (walk_stage.Data h) w = (rw (mod-eq_of_lt w), rw (mod-eq_of_lt w))
doing-restored d (walk_stage.Sector h) w = (rw (mod-eq_of_lt w), rw (mod-eq_of_lt w))
doing-restored d (walk_stage.Zeros e) w = (refl, refl)

pub restored : (m : Machine) → Words m → machine_from (numbers m) ≡ m
restored (Planning p) w = phase-restored p.context p.phase w
restored (Growing o) w = growing-restored o
restored (Reading d) w = (doing-restored d d.walker.stage w).0
restored (Writing d) w = (doing-restored d d.walker.stage w).1
