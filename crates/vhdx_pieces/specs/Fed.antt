-- Whatever is fed (change request Q-13: "A file that changes between pieces still gets answers or refusals"): the theorem over every
-- way that the pieces may read. Nothing is said of their bytes.
-- Assumes nothing.
use Rattle.std.specs.Prelude.{List, ◌≡◌, ℕ, suc, ◌+◌, ◌≤◌, ◌<◌, length}
use Rattle.decision.specs.declared.Refusal.{Refusal}
use Rattle.decision.specs.declared.Refusal.TheVariants.{NoLogSequence}
use Rattle.decision.specs.Refusal.{number}
use Rattle.vhdx_pieces_plan.specs.declared.Order.{Order}
use Rattle.vhdx_pieces_plan.specs.Planning.{plan_most}
use Rattle.vhdx_pieces_walk.specs.Walking.{Apart}
use Rattle.vhdx_pieces.specs.declared.Machine.{Machine}
use Rattle.vhdx_pieces.specs.declared.Turn.{Turn}
use Rattle.vhdx_pieces.specs.declared.Turn.TheVariants.{Read, Grow, Write, Done, Refused}
use Rattle.vhdx_pieces.specs.Machines.{wanted_of, growth_of, written_of, bounds_of, started, step_of, work_most}

-- a read of 1 to 65,536 bytes among the first n
pub record Wants (n : ℕ) (m : Machine) : Type 0 where
  pub some : 1 ≤ (wanted_of m).length
  pub few : (wanted_of m).length ≤ 65536
  pub inside : (wanted_of m).offset + (wanted_of m).length ≤ n

-- a piece of the length that was asked for
abbrev pub Piece : Machine → List ℕ → Type 0
Piece m p = length p ≡ (wanted_of m).length

-- An order is being done on a file of n bytes, and k of its sectors are not written yet: at most j requests more; each write apart
-- from the first MiB and from the log, and within the final length; done after exactly k writes, or refused as 5.
pub data Does (n : ℕ) (o : Order) : ℕ → ℕ → Turn → Type 0 where
  done : {j : ℕ} → Does n o j 0 (Done (record { length = o.length; count = o.count }))
  refuses : {j k : ℕ} → Does n o j k (Refused NoLogSequence)
  reads : {j k : ℕ} {m : Machine} → Wants n m → ((p : List ℕ) → Piece m p → Does n o j k (step_of m p)) → Does n o (suc j) k (Read m)
  writes : {j k : ℕ} {m : Machine} → ((p : List ℕ) → Apart (bounds_of o) (written_of m p)) → ((p : List ℕ) → Does n o j k (step_of m p)) → Does n o (suc j) (suc k) (Write m)

-- Nothing is decided yet: at most j requests more; a refusal, or an order, with one growth before it where its length is greater
pub data Answers (n : ℕ) : ℕ → Turn → Type 0 where
  refuses : {j : ℕ} {r : Refusal} → 1 ≤ number r → number r ≤ 8 → Answers n j (Refused r)
  reads : {j : ℕ} {m : Machine} → Wants n m → ((p : List ℕ) → Piece m p → Answers n j (step_of m p)) → Answers n (suc j) (Read m)
  grows : {j : ℕ} {m : Machine} {o : Order} → n < o.length → growth_of m ≡ o.length → ((p : List ℕ) → Does n o j o.count (step_of m p)) → Answers n (suc j) (Grow m)
  orders : {j : ℕ} {t : Turn} {o : Order} → o.length ≡ n → Does n o j o.count t → Answers n j t

-- as many requests as there may be
abbrev pub most : ℕ
most = plan_most + suc work_most

-- whatever is fed, it ends after at most so many requests, having asked for nothing else. Proved in proofs/Answering.antt
abbrev pub AlwaysAnswers : Type 0
AlwaysAnswers = (n capacity : ℕ) → n < 18446744073709551616 → Answers n most (started n capacity)
