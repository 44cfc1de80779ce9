-- The log's work in pieces over a machine's numbers, any numbers.
-- Assumes nothing.
use Rattle.std.specs.Prelude.{List, [], take, ℕ, Option, None, Some}
use Rattle.decision.specs.Refusal.{number}
use Rattle.vhdx_steps.specs.Buffer.{put}
use Rattle.vhdx_slots.specs.Slots.{bit}
use Rattle.vhdx_pieces.specs.declared.Machine.{Machine}
use Rattle.vhdx_pieces.specs.declared.Turn.{Turn}
use Rattle.vhdx_pieces.specs.declared.Turn.TheVariants.{Read, Grow, Write, Done, Refused}
use Rattle.vhdx_pieces.specs.Machines.{wanted_of, growth_of, written_of, is_data_of, step_of}
use Rattle.vhdx_pieces_slots.specs.Slots.{zeros, numbers}
use Rattle.vhdx_pieces_calls.specs.declared.Request.{Request}

-- what a turn asks for, or how it ended
abbrev pub request_of : Turn → Request
request_of (Read m) = record { kind = 1; first = (wanted_of m).offset; second = (wanted_of m).length }
request_of (Grow m) = record { kind = 2; first = growth_of m; second = 0 }
request_of (Write m) = record { kind = 3; first = (written_of m []).offset; second = bit (is_data_of m) }
request_of (Done w) = record { kind = 4; first = w.length; second = w.count }
request_of (Refused r) = record { kind = 0; first = number r; second = 0 }

-- the machine that goes on, or none
abbrev pub numbers_of : Turn → List ℕ
numbers_of (Read m) = numbers m
numbers_of (Grow m) = numbers m
numbers_of (Write m) = numbers m
numbers_of (Done w) = zeros
numbers_of (Refused r) = zeros

-- the piece, at a write with what is to be written in place of what was read
abbrev pub piece_of : Turn → List ℕ → List ℕ
piece_of (Write m) p = put p 0 (written_of m (take 4096 p)).bytes
piece_of (Read m) p = p
piece_of (Grow m) p = p
piece_of (Done w) p = p
piece_of (Refused r) p = p

-- a machine is handed in with the beginning of a piece
abbrev pub turn_of : Machine → List ℕ → Turn
turn_of m p = step_of m (take (wanted_of m).length p)

-- numbers that no machine has are left as they are, and so is the piece
abbrev pub no_machine : Request
no_machine = record { kind = 5; first = 0; second = 0 }

abbrev pub next_request : Option Machine → List ℕ → Request
next_request (Some m) p = request_of (turn_of m p)
next_request None p = no_machine

abbrev pub next_numbers : Option Machine → List ℕ → List ℕ → List ℕ
next_numbers (Some m) ns p = numbers_of (turn_of m p)
next_numbers None ns p = ns

abbrev pub next_piece : Option Machine → List ℕ → List ℕ
next_piece (Some m) p = piece_of (turn_of m p) p
next_piece None p = p
