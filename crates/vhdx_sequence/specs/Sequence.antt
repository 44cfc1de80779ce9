-- Log sequences, and the active one of them (document 01, "The log"). Offsets in the log are counted in sectors.
-- Assumes nothing.
use Rattle.std.specs.Prelude.{Bool, cond, ◌&&◌, ◌||◌, List, Option, None, Some, ℕ, zero, suc, ◌+◌, ◌%◌, nat_lt, nat_le, nat_eq}
use Rattle.decision.specs.Bounded.{only_if}
use Rattle.field.specs.declared.Guid.{Guid}
use Rattle.vhdx_entry.specs.declared.Entry.{Entry}
use Rattle.vhdx_entry.specs.Ring.{sector_count}
use Rattle.vhdx_entry.specs.Entry.{entry_at}
use Rattle.vhdx_sequence.specs.declared.Sequence.{Sequence}

-- one after the other: what follows is none where the first is
infixl 10 ◌>>=◌
abbrev pub ◌>>=◌ : {A B : Type 0} → Option A → (A → Option B) → Option B
None >>= f = None
Some a >>= f = f a

-- an entry of a list of entries, and how many sectors the entries before it take
pub record Link : Type 0 where
  pub before : ℕ
  pub entry : Entry

-- how many sectors the list takes up to and with this entry
abbrev pub upto : Link → ℕ
upto l = l.before + l.entry.size

-- "The active one has the greatest head number; of equals, the lowest first offset": q is preferred to p
abbrev pub beats : Sequence → Sequence → Bool
beats q p = nat_lt p.number q.number || (nat_eq p.number q.number && nat_lt q.start p.start)

-- the preferred one of two
abbrev pub better : Option Sequence → Option Sequence → Option Sequence
better None q = q
better (Some p) None = Some p
better (Some p) (Some q) = Some (cond (beats q p) q p)

-- the preferred one of f 0, .., f (m - 1)
unfoldable pub best_of : ℕ → (ℕ → Option Sequence) → Option Sequence
best_of zero f = None
best_of (suc m) f = better (best_of m f) (f m)

-- a log of n sectors, where `entry s` is the valid entry that starts at sector s, if there is one
module _ (n : ℕ) (entry : ℕ → Option Entry) where
  -- "a non-empty list of valid entries, each starting where the one before ended, numbers rising by one without wrap":
  -- the last of the k + 1 such entries from sector s on
  unfoldable pub chain : ℕ → ℕ → Option Link
  chain s zero = do
    e ← entry s
    Some (record { before = 0; entry = e })
  chain s (suc k) = do
    l ← chain s k
    e ← entry ((s + upto l) % n)
    only_if (nat_eq e.number (l.entry.number + 1)) (record { before = upto l; entry = e })

  -- "total length at most the log's, the first at the last one's Tail. The last is its head.": the log sequence that these
  -- k + 1 entries are, if they are one
  unfoldable pub sequence : ℕ → ℕ → Option Sequence
  sequence s k = do
    l ← chain s k
    only_if (nat_le (upto l) n && nat_eq l.entry.tail s) (record { start = s; more = k; number = l.entry.number })

  -- the active one: the preferred one over every first sector below n and every k below n (each entry has at least one
  -- sector, so that a log sequence has at most n entries)
  unfoldable pub active_in : Option Sequence
  active_in = best_of n (λ s. best_of n (λ k. sequence s k))

-- the active log sequence of a log's bytes, in an image whose log has this identifier
unfoldable pub active_sequence : List ℕ → Guid → Option Sequence
active_sequence log guid = active_in (sector_count log) (entry_at log guid)
