-- What the program's loop goes by: a machine is handed in as long as it asks for something, and less is left each time.
-- Assumes nothing.
use Rattle.std.specs.Prelude.{Bool, true, false, ℕ, ◌+◌, ◌≤◌, ◌<◌, Option, None, Some}
use Rattle.vhdx_pieces.specs.declared.Machine.{Machine}
use Rattle.vhdx_pieces.specs.declared.Turn.{Turn}
use Rattle.vhdx_pieces.specs.declared.Turn.TheVariants.{Read, Grow, Write, Done, Refused}
use Rattle.vhdx_pieces.specs.Machines.{Kept, left_in, left_of}

abbrev pub asks_of : Turn → Bool
asks_of (Read m) = true
asks_of (Grow m) = true
asks_of (Write m) = true
asks_of (Done w) = false
asks_of (Refused c) = false

-- it may be handed in again, and less is left than of the machine m
abbrev pub Ahead : Machine → Turn → Type 0
Ahead m t = Kept t × (left_of t < left_in m)

-- what comes of a turn
abbrev pub Toward : Turn → Turn → Type 0
Toward (Read m) t = Ahead m t
Toward (Grow m) t = Ahead m t
Toward (Write m) t = Ahead m t
Toward (Done w) t = Kept t
Toward (Refused c) t = Kept t

-- n bytes from there on lie in a buffer of 64 KiB
abbrev pub Within : ℕ → Option ℕ → Type 0
Within n (Some start) = start + n ≤ 65536
Within n None = Unit {0}
