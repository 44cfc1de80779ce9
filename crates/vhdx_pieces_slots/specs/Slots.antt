-- A machine of the log's work in pieces as 64 numbers. Slot 0 is the kind: 1 planning, 2 growing, 3 reading, 4 writing, and 0 of no machine.
-- A yes or no is 1 or 0, a log two slots, its offset and its length, and an identifier two, its low and its high half. What is not named is 0.
--
--   planning
--    1 to  6  length, capacity, log, identifier
--    7        phase: 1 header, 2 scan, 3 survey
--   its header
--    8        stage: 1 identifier, 2 first, 3 second
--    9 to 16  of the second, what the first said: valid, rules, slot, number, identifier, log
--   its scan
--    8 to 10  place: at, len, count
--   11 to 15  run: at, len and count of its start, next, number
--   16 to 19  best: 1 found, 0 nothing; start, more, number
--   20        stage: 1 first, 2 inside, 3 tail
--   21 to 29  inside: number, tail, count, bytes, sum, seen, found, read, state; of the tail: size, number, tail
--   its survey
--    8 to 10  found: start, more, number
--   11 to 19  tour: at, len, left, count, size, seen, read, flushed, last
--   20 to 22  its survey: lies, end, count
--
--   growing, reading, writing
--    1 to  6  order: length, count, log, start, left
--   reading, writing
--    7        how many sectors are not written yet
--    8 to 14  walker: at, len, left, count, size, index, data
--   15        stage: 1 header, 2 descriptors, 3 data, 4 sector, 5 zeros
--   16 to 19  of data and sector: offset, leading, trailing, rank; of zeros: offset, length
--
-- Assumes nothing.
use Rattle.std.specs.Prelude.{cond, not, List, [], ◌∷◌, ℕ, ◌%◌, nat_eq, get_or, replicate, Option, None, Some}
use Rattle.vhdx_slots.specs.Slots.{bit, in_slots}
use Rattle.vhdx_sequence.specs.declared.Sequence.{Sequence}
use Rattle.vhdx_pieces_header.specs.declared.Candidate.{Candidate}
use Rattle.vhdx_pieces_header.specs.declared.Stage as header
use Rattle.vhdx_pieces_header.specs.declared.Stage.TheVariants as header_stage
use Rattle.vhdx_pieces_entry.specs.declared.Reading as entry
use Rattle.vhdx_pieces_scan.specs.declared.Scanner.{Scanner}
use Rattle.vhdx_pieces_scan.specs.declared.Stage as scan
use Rattle.vhdx_pieces_scan.specs.declared.Stage.TheVariants as scan_stage
use Rattle.vhdx_pieces_survey.specs.declared.Tour.{Tour}
use Rattle.vhdx_pieces_plan.specs.declared.Context.{Context}
use Rattle.vhdx_pieces_plan.specs.declared.Surveying.{Surveying}
use Rattle.vhdx_pieces_plan.specs.declared.Phase.{Phase}
use Rattle.vhdx_pieces_plan.specs.declared.Phase.TheVariants as phase
use Rattle.vhdx_pieces_plan.specs.declared.Planner.{Planner}
use Rattle.vhdx_pieces_plan.specs.declared.Order.{Order}
use Rattle.vhdx_pieces_walk.specs.declared.Held.{Held}
use Rattle.vhdx_pieces_walk.specs.declared.Stage as walk
use Rattle.vhdx_pieces_walk.specs.declared.Stage.TheVariants as walk_stage
use Rattle.vhdx_pieces_walk.specs.declared.Walker.{Walker}
use Rattle.vhdx_pieces.specs.declared.Doing.{Doing}
use Rattle.vhdx_pieces.specs.declared.Machine.{Machine}
use Rattle.vhdx_pieces.specs.declared.Machine.TheVariants.{Planning, Growing, Reading, Writing}

-- no machine
unfoldable pub zeros : List ℕ
zeros = replicate 64 0

-- ---- a planner

unfoldable pub context_in : Context → List ℕ → List ℕ
context_in c slots =
    in_slots 1 (c.length ∷ c.capacity ∷ c.log.offset ∷ c.log.length ∷ c.guid.low ∷ c.guid.high ∷ []) slots

abbrev pub context_from : List ℕ → Context
context_from slots =
    record {
      length = get_or slots 1 0;
      capacity = get_or slots 2 0;
      log = record { offset = get_or slots 3 0; length = get_or slots 4 0 };
      guid = record { low = get_or slots 5 0; high = get_or slots 6 0 };
    }

-- its header

unfoldable pub header_in : header.Stage → List ℕ → List ℕ
header_in header_stage.Identifier slots = in_slots 8 (1 ∷ []) slots
header_in header_stage.First slots = in_slots 8 (2 ∷ []) slots
header_in (header_stage.Second c) slots =
    in_slots 8
    (3
    ∷ bit c.valid
    ∷ bit c.rules
    ∷ c.header.slot
    ∷ c.header.sequence_number
    ∷ c.header.log_guid.low
    ∷ c.header.log_guid.high
    ∷ c.header.log_offset
    ∷ c.header.log_length
    ∷ [])
    slots

abbrev pub candidate_from : List ℕ → Candidate
candidate_from slots =
    record {
      valid = not (nat_eq (get_or slots 9 0) 0);
      rules = not (nat_eq (get_or slots 10 0) 0);
      header =
          record {
            slot = get_or slots 11 0;
            sequence_number = get_or slots 12 0;
            log_guid = record { low = get_or slots 13 0; high = get_or slots 14 0 };
            log_offset = get_or slots 15 0;
            log_length = get_or slots 16 0;
          };
    }

unfoldable pub header_from : List ℕ → header.Stage
header_from slots =
    cond (nat_eq (get_or slots 8 0) 1) header_stage.Identifier
    (cond (nat_eq (get_or slots 8 0) 2) header_stage.First (header_stage.Second (candidate_from slots)))

-- its scan

unfoldable pub best_in : Option Sequence → List ℕ → List ℕ
best_in (Some q) slots = in_slots 16 (1 ∷ q.start ∷ q.more ∷ q.number ∷ []) slots
best_in None slots = slots

abbrev pub best_from : List ℕ → Option Sequence
best_from slots =
    cond (nat_eq (get_or slots 16 0) 1) (Some (record { start = get_or slots 17 0; more = get_or slots 18 0; number = get_or slots 19 0 })) None

unfoldable pub stage_in : scan.Stage → List ℕ → List ℕ
stage_in scan_stage.First slots = in_slots 20 (1 ∷ []) slots
stage_in (scan_stage.Inside x) slots =
    in_slots 20
    (2
    ∷ x.number
    ∷ x.tail
    ∷ x.count
    ∷ x.bytes
    ∷ x.sum
    ∷ x.seen
    ∷ x.found
    ∷ x.read
    ∷ x.state
    ∷ [])
    slots
stage_in (scan_stage.Tail e) slots = in_slots 20 (3 ∷ e.size ∷ e.number ∷ e.tail ∷ []) slots

-- two of its numbers have 32 bits
abbrev pub reading_from : List ℕ → entry.Reading
reading_from slots =
    record {
      number = get_or slots 21 0;
      tail = get_or slots 22 0;
      count = get_or slots 23 0;
      bytes = get_or slots 24 0;
      sum = get_or slots 25 0 % 4294967296;
      seen = get_or slots 26 0;
      found = get_or slots 27 0;
      read = get_or slots 28 0;
      state = get_or slots 29 0 % 4294967296;
    }

unfoldable pub stage_from : List ℕ → scan.Stage
stage_from slots =
    cond (nat_eq (get_or slots 20 0) 1) scan_stage.First
    (cond (nat_eq (get_or slots 20 0) 2) (scan_stage.Inside (reading_from slots))
    (scan_stage.Tail (record { size = get_or slots 21 0; number = get_or slots 22 0; tail = get_or slots 23 0 })))

unfoldable pub scanner_in : Scanner → List ℕ → List ℕ
scanner_in s slots =
    stage_in s.stage
    (best_in s.trace.best
    (in_slots 8
    (s.place.pos.at
    ∷ s.place.pos.len
    ∷ s.place.count
    ∷ s.trace.start.pos.at
    ∷ s.trace.start.pos.len
    ∷ s.trace.start.count
    ∷ s.trace.next
    ∷ s.trace.number
    ∷ [])
    slots))

unfoldable pub scanner_from : List ℕ → Scanner
scanner_from slots =
    record {
      trace =
          record {
            start = record { pos = record { at = get_or slots 11 0; len = get_or slots 12 0 }; count = get_or slots 13 0 };
            next = get_or slots 14 0;
            number = get_or slots 15 0;
            best = best_from slots;
          };
      place = record { pos = record { at = get_or slots 8 0; len = get_or slots 9 0 }; count = get_or slots 10 0 };
      stage = stage_from slots;
    }

-- its survey

unfoldable pub tour_in : Tour → List ℕ → List ℕ
tour_in t slots =
    in_slots 11
    (t.pos.at
    ∷ t.pos.len
    ∷ t.left
    ∷ t.count
    ∷ t.size
    ∷ t.seen
    ∷ t.read
    ∷ t.flushed
    ∷ t.last
    ∷ bit t.found.lies
    ∷ t.found.end
    ∷ t.found.count
    ∷ [])
    slots

abbrev pub tour_from : List ℕ → Tour
tour_from slots =
    record {
      pos = record { at = get_or slots 11 0; len = get_or slots 12 0 };
      left = get_or slots 13 0;
      count = get_or slots 14 0;
      size = get_or slots 15 0;
      seen = get_or slots 16 0;
      read = get_or slots 17 0;
      flushed = get_or slots 18 0;
      last = get_or slots 19 0;
      found = record { lies = not (nat_eq (get_or slots 20 0) 0); end = get_or slots 21 0; count = get_or slots 22 0 };
    }

unfoldable pub surveying_in : Surveying → List ℕ → List ℕ
surveying_in s slots = tour_in s.tour (in_slots 8 (s.found.start ∷ s.found.more ∷ s.found.number ∷ []) slots)

unfoldable pub surveying_from : List ℕ → Surveying
surveying_from slots = record { found = record { start = get_or slots 8 0; more = get_or slots 9 0; number = get_or slots 10 0 }; tour = tour_from slots }

-- its phase

unfoldable pub phase_in : Phase → List ℕ → List ℕ
phase_in (phase.Header s) slots = header_in s (in_slots 7 (1 ∷ []) slots)
phase_in (phase.Scan s) slots = scanner_in s (in_slots 7 (2 ∷ []) slots)
phase_in (phase.Survey s) slots = surveying_in s (in_slots 7 (3 ∷ []) slots)

unfoldable pub phase_from : List ℕ → Phase
phase_from slots =
    cond (nat_eq (get_or slots 7 0) 1) (phase.Header (header_from slots))
    (cond (nat_eq (get_or slots 7 0) 2) (phase.Scan (scanner_from slots)) (phase.Survey (surveying_from slots)))

unfoldable pub planner_in : Planner → List ℕ → List ℕ
planner_in p slots = phase_in p.phase (context_in p.context slots)

unfoldable pub planner_from : List ℕ → Planner
planner_from slots = record { context = context_from slots; phase = phase_from slots }

-- ---- an order

unfoldable pub order_in : Order → List ℕ → List ℕ
order_in o slots = in_slots 1 (o.length ∷ o.count ∷ o.log.offset ∷ o.log.length ∷ o.start ∷ o.left ∷ []) slots

abbrev pub order_from : List ℕ → Order
order_from slots =
    record {
      length = get_or slots 1 0;
      count = get_or slots 2 0;
      log = record { offset = get_or slots 3 0; length = get_or slots 4 0 };
      start = get_or slots 5 0;
      left = get_or slots 6 0;
    }

-- ---- an order that is being done

-- of a data descriptor that was met
unfoldable pub held_in : Held → List ℕ → List ℕ
held_in d slots = in_slots 16 (d.offset ∷ d.leading ∷ d.trailing ∷ d.rank ∷ []) slots

unfoldable pub turn_in : walk.Stage → List ℕ → List ℕ
turn_in walk_stage.Header slots = in_slots 15 (1 ∷ []) slots
turn_in walk_stage.Descriptors slots = in_slots 15 (2 ∷ []) slots
turn_in (walk_stage.Data d) slots = held_in d (in_slots 15 (3 ∷ []) slots)
turn_in (walk_stage.Sector d) slots = held_in d (in_slots 15 (4 ∷ []) slots)
turn_in (walk_stage.Zeros e) slots = in_slots 15 (5 ∷ e.offset ∷ e.length ∷ []) slots

-- one of its numbers has 32 bits
abbrev pub held_from : List ℕ → Held
held_from slots =
    record { offset = get_or slots 16 0; leading = get_or slots 17 0; trailing = get_or slots 18 0 % 4294967296; rank = get_or slots 19 0 }

unfoldable pub turn_from : List ℕ → walk.Stage
turn_from slots =
    cond (nat_eq (get_or slots 15 0) 1) walk_stage.Header
    (cond (nat_eq (get_or slots 15 0) 2) walk_stage.Descriptors
    (cond (nat_eq (get_or slots 15 0) 3) (walk_stage.Data (held_from slots))
    (cond (nat_eq (get_or slots 15 0) 4) (walk_stage.Sector (held_from slots))
    (walk_stage.Zeros (record { offset = get_or slots 16 0; length = get_or slots 17 0 })))))

unfoldable pub walker_in : Walker → List ℕ → List ℕ
walker_in w slots =
    turn_in w.stage
    (in_slots 8 (w.pos.at ∷ w.pos.len ∷ w.left ∷ w.count ∷ w.size ∷ w.index ∷ w.«data» ∷ []) slots)

unfoldable pub walker_from : List ℕ → Walker
walker_from slots =
    record {
      pos = record { at = get_or slots 8 0; len = get_or slots 9 0 };
      left = get_or slots 10 0;
      count = get_or slots 11 0;
      size = get_or slots 12 0;
      index = get_or slots 13 0;
      «data» = get_or slots 14 0;
      stage = turn_from slots;
    }

unfoldable pub doing_in : Doing → List ℕ → List ℕ
doing_in d slots = walker_in d.walker (in_slots 7 (d.unwritten ∷ []) (order_in d.order slots))

unfoldable pub doing_from : List ℕ → Doing
doing_from slots = record { order = order_from slots; walker = walker_from slots; unwritten = get_or slots 7 0 }

-- ---- a machine

unfoldable pub numbers : Machine → List ℕ
numbers (Planning p) = planner_in p (in_slots 0 (1 ∷ []) zeros)
numbers (Growing o) = order_in o (in_slots 0 (2 ∷ []) zeros)
numbers (Reading d) = doing_in d (in_slots 0 (3 ∷ []) zeros)
numbers (Writing d) = doing_in d (in_slots 0 (4 ∷ []) zeros)

-- of any numbers; those of no machine are not the numbers of the machine that they are read as
unfoldable pub machine_from : List ℕ → Machine
machine_from slots =
    cond (nat_eq (get_or slots 0 0) 1) (Planning (planner_from slots))
    (cond (nat_eq (get_or slots 0 0) 2) (Growing (order_from slots))
    (cond (nat_eq (get_or slots 0 0) 3) (Reading (doing_from slots)) (Writing (doing_from slots))))
