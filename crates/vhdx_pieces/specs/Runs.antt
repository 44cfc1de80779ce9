-- Runs of the machine, and the theorem: fed one file faithfully it asks for what the whole-buffer form does.
-- Assumes nothing.
use Rattle.std.specs.Prelude.{cond, List, [], ◌∷◌, ◌++◌, map, ℕ, ◌+◌, ◌≤◌, nat_lt, length, take, replicate}
use Rattle.decision.specs.declared.Refusal.{Refusal}
use Rattle.decision.specs.Refusal.{number}
use Rattle.extent.specs.Extent.{part}
use Rattle.field.specs.Fields.{Bytes}
use Rattle.vhdx_walk.specs.Entries.{Sector}
use Rattle.vhdx_log.specs.Work.{Plan, refused, apply}
use Rattle.vhdx_log.specs.Plan.{plan}
use Rattle.vhdx_pieces.specs.declared.Machine.{Machine}
use Rattle.vhdx_pieces.specs.declared.Finish.{Finish}
use Rattle.vhdx_pieces.specs.declared.Turn.{Turn}
use Rattle.vhdx_pieces.specs.declared.Turn.TheVariants.{Read, Grow, Write, Done, Refused}
use Rattle.vhdx_pieces.specs.Machines.{wanted_of, growth_of, written_of, started, step_of}

-- what is asked for besides reads
pub data Request : Type 0 where
  grow : ℕ → Request
  write : Sector → Request

-- how it ends: with document 01's number, or the final length and how many sectors were written
pub data Result : Type 0 where
  refusal : ℕ → Result
  finished : ℕ → ℕ → Result

-- fed the file f faithfully, with p read last, it ends from this turn on, having asked for these; reads are inside the file, of at most
-- 64 KiB
pub data Ends (f : List ℕ) : List ℕ → Turn → List Request → Result → Type 0 where
  done : {p : List ℕ} {w : Finish} → Ends f p (Done w) [] (finished w.length w.count)
  refuses : {p : List ℕ} {r : Refusal} → Ends f p (Refused r) [] (refusal (number r))
  reads : {p : List ℕ} {m : Machine} {rs : List Request} {x : Result} → (wanted_of m).offset + (wanted_of m).length ≤ length f → (wanted_of m).length ≤ 65536
      → Ends f (part f (wanted_of m)) (step_of m (part f (wanted_of m))) rs x → Ends f p (Read m) rs x
  grows : {p : List ℕ} {m : Machine} {rs : List Request} {x : Result} → ((p₂ : List ℕ) → Ends f p₂ (step_of m p₂) rs x) → Ends f p (Grow m) (grow (growth_of m) ∷ rs) x
  writes : {p : List ℕ} {m : Machine} {rs : List Request} {x : Result} → ((p₂ : List ℕ) → Ends f p₂ (step_of m p₂) rs x) → Ends f p (Write m) (write (written_of m p) ∷ rs) x

-- a buffer of the stated capacity that begins with the file ("1 and 8 read a stated room in place of the buffer")
unfoldable pub buffered : ℕ → List ℕ → List ℕ
buffered capacity f = take capacity (f ++ replicate capacity 0)

-- the growth and the writes of a plan for a file of n bytes ("Growth is one request for the final length, before any write, only
-- where that is greater")
abbrev pub requests : ℕ → Plan → List Request
requests n (refused c) = []
requests n (apply m ss) = cond (nat_lt n m) (grow m ∷ map write ss) (map write ss)

abbrev pub result_of : Plan → Result
result_of (refused c) = refusal c
result_of (apply m ss) = finished m (length ss)

-- The theorem (change request Q-13: "fed one file faithfully, it ends, having asked for the same growth and writes, bytes included, in
-- the same order as the whole-buffer form, with the same refusals 1 to 8"), over the plan that attach follows. Proved in
-- proofs/Faithfully.antt
abbrev pub Faithful : Type 0
Faithful =
    (f : List ℕ) (capacity : ℕ) (p : List ℕ) → Bytes f
    → Ends f p (started (length f) capacity) (requests (length f) (plan (buffered capacity f) (length f))) (result_of (plan (buffered capacity f) (length f)))
