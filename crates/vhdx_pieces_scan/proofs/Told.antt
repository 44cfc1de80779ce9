-- A trace and a place are told by what they stand for.
-- Assumes nothing.
use mathlib.Core.Path.{◌≡◌}
use Prim.Native.Nat.{ℕ}
use Rattle.vhdx_sequence.specs.declared.lap.Place.{Place}
use Rattle.vhdx_sequence.specs.declared.scan.Trace.{Trace}
use Rattle.vhdx_sequence.specs.Scan.{Placed, state_of}
use Rattle.vhdx_pieces_scan.specs.declared.Stage.{Stage}
use Rattle.vhdx_pieces_scan.specs.declared.Scanner.{Scanner}
use Rattle.vhdx_pieces_scan.specs.Scanning.{place_at, trace_of, scanner_at}

pub place_is : {n : ℕ} {p : Place} → Placed n p → p ≡ place_at n p.count
place_is {n} {p} h = λ i. record { pos = record { at = h.0 i; len = h.1 i }; count = p.count }

pub trace-is : {n : ℕ} {t : Trace} → Placed n t.start → t ≡ trace_of n (state_of t)
trace-is {n} {t} h =
    let p = place_is h in
    λ i. record { start = p i; next = t.next; number = t.number; best = t.best }

pub scanner-is : {n : ℕ} {t : Trace} {p : Place} (stage : Stage) → Placed n p → Placed n t.start
    → ◌≡◌ {A = Scanner} (record { trace = t; place = p; stage = stage }) (scanner_at n p.count (state_of t) stage)
scanner-is stage h k =
    let a = trace-is k in
    let b = place_is h in
    λ i. record { trace = a i; place = b i; stage = stage }
