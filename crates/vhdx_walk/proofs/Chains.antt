-- The entries of a chain and a cursor at its start: the same descriptors, of which a found sequence has few; and valid
-- entries can be walked.
-- Assumes nothing.
use mathlib.Core.Path.{◌≡◌, refl, sym, ap, subst, ◌∙◌}
use mathlib.Core.Bool.{true}
use mathlib.Core.List.{List, ◌++◌, append-nil}
use Prim.Native.Nat.{ℕ, zero, suc, ◌+◌, ◌-◌, ◌*◌, ◌/◌, ◌%◌, ◌≤◌, ◌<◌}
use native.Mathlib.Numerals.{add-one}
use native.Mathlib.Omega.{arith}
use lib.ListN.{length, length-append}
use Rattle.field.specs.declared.Guid.{Guid}
use Rattle.extent.specs.Extent.{mib}
use Rattle.vhdx_entry.specs.declared.ring.RingPos.{RingPos}
use Rattle.vhdx_entry.specs.Ring.{sector_at, sector_count, ring, On}
use Rattle.vhdx_entry.specs.Entry.{flushed_file_offset, last_file_offset, descriptor_count, data_before, size, valid_entry, behind}
use Rattle.vhdx_entry.proofs.Laws.{in-first}
use Rattle.vhdx_entry.proofs.Clauses.{keeps}
use Rattle.vhdx_sequence.specs.Linked.{Linked, total}
use Rattle.vhdx_walk.specs.Entries.{Descriptor, LogEntry, head, all_descriptors}
use Rattle.vhdx_walk.specs.Bytes.{descriptors_from, log_entry, entries_from}
use Rattle.vhdx_walk.specs.Cursor.{descriptors_on, Readable, AllReadable, Placed, Walkable}

-- the cursor at the first descriptor of the entry at sector s and the k after it
pub chain-descriptors : (log : List ℕ) (s k : ℕ) → all_descriptors (entries_from log s k) ≡ descriptors_on log s 0 (suc k)
unfolding entries_from descriptors_on
chain-descriptors log s zero =
    ap (descriptors_from (ring log s) 0) {x = descriptor_count (ring log s)} {y = descriptor_count (ring log s) - 0} (omega arith)
    ∙ sym (append-nil (descriptors_from (ring log s) 0 (descriptor_count (ring log s) - 0)))
chain-descriptors log s (suc k) =
    ap (λ (n : ℕ). descriptors_from (ring log s) 0 n ++ all_descriptors (entries_from log (behind log s) k)) {x = descriptor_count (ring log s)} {y = descriptor_count (ring log s) - 0} (omega arith)
    ∙ ap (λ (ds : List Descriptor). descriptors_from (ring log s) 0 (descriptor_count (ring log s) - 0) ++ ds) (chain-descriptors log (behind log s) k)

-- the head stays where an entry is left behind
pub head-onward : (log : List ℕ) (s k : ℕ) → 0 < k → head (entries_from log s k) ≡ head (entries_from log (behind log s) (k - 1))
unfolding entries_from
head-onward log s zero h = absurd (omega arith)
head-onward log s (suc k) h = ap (λ (n : ℕ). head (entries_from log (behind log s) n)) {x = k} {y = suc k - 1} (omega arith)

pub head-only : (log : List ℕ) (s k : ℕ) → k ≡ 0 → head (entries_from log s k) ≡ log_entry (ring log s)
unfolding entries_from
head-only log s k h = ap (λ (n : ℕ). head (entries_from log s n)) h

-- what the sector that the head starts says
pub head-says : (log : List ℕ) (s k : ℕ) (p : RingPos) (sector : List ℕ) → On log p → head (entries_from log s k) ≡ log_entry (ring log p.at) →
    sector ≡ sector_at log p.at →
    (flushed_file_offset sector ≡ (head (entries_from log s k)).flushed) × (last_file_offset sector ≡ (head (entries_from log s k)).last)
head-says log s k p sector on is at = (
  in-first log p.len p.at on at 48 8 (omega arith) ∙ sym (ap (λ (e : LogEntry). e.flushed) is),
  in-first log p.len p.at on at 56 8 (omega arith) ∙ sym (ap (λ (e : LogEntry). e.last) is),
)

-- ---- valid entries

pub valid-readable : (guid : Guid) (r : List ℕ) → valid_entry guid r ≡ true → Readable r
valid-readable guid r h = let k = keeps guid r h in record { fits = k.fits; exact = k.exact; described = k.described }

pub linked-readable : (log : List ℕ) (guid : Guid) (s k : ℕ) → Linked log guid s k → AllReadable log s (suc k)
unfolding Linked AllReadable
linked-readable log guid s zero h = (valid-readable guid (ring log s) h, tt)
linked-readable log guid s (suc k) h = (valid-readable guid (ring log s) h.0, linked-readable log guid (behind log s) k h.1)

-- ---- few descriptors

pub length_from : (r : List ℕ) (i m : ℕ) → length (descriptors_from r i m) ≡ m
unfolding descriptors_from
length_from r i zero = refl
length_from r i (suc m) = ap suc (length_from r (i + 1) m)

-- a sector holds at most 128
count-size : (r : List ℕ) → descriptor_count r ≤ 128 * size r
count-size r = omega arith

few-descriptors : (log : List ℕ) (s k : ℕ) → length (descriptors_on log s 0 (suc k)) ≤ 128 * total log s k
unfolding descriptors_on total
few-descriptors log s zero =
    let r = ring log s in
    omega (
      arith,
      count-size r,
      length_from r 0 (descriptor_count r - 0),
      ap length (append-nil (descriptors_from r 0 (descriptor_count r - 0))),
    )
few-descriptors log s (suc k) =
    let r = ring log s in
    omega (
      arith,
      count-size r,
      length_from r 0 (descriptor_count r - 0),
      length-append (descriptors_from r 0 (descriptor_count r - 0)) (descriptors_on log (behind log s) 0 (suc k)),
      few-descriptors log (behind log s) k,
    )

few-entries : (log : List ℕ) (s k : ℕ) → k < total log s k
unfolding total
few-entries log s zero = omega arith
few-entries log s (suc k) = omega (arith, few-entries log (behind log s) k)

module _ (log : List ℕ) (guid : Guid) (s k : ℕ) where
  pub walkable : length log % 4096 ≡ 0 → length log ≤ 64 * mib → s < sector_count log → Linked log guid s k → total log s k ≤ sector_count log → Walkable log s k
  walkable whole small start linked fits =
      record {
        whole = whole;
        small = small;
        start = start;
        readable = linked-readable log guid s k linked;
        short = omega (arith, few-entries log s k);
        few = omega (arith, few-descriptors log s k);
      }

one_fewer : (log : List ℕ) (s k : ℕ) → AllReadable log s (suc k) → AllReadable log s k
unfolding AllReadable
one_fewer log s zero a = tt
one_fewer log s (suc k) a = (a.0, one_fewer log (behind log s) k a.1)

-- ---- the cursor at a walkable sequence's start

module _ (log : List ℕ) (s k : ℕ) (w : Walkable log s k) where
  pub on-first : On log (record { at = s; len = length log / 4096 })
  on-first = (w.start, omega (arith, w.whole))

  pub more-readable : AllReadable log s k
  more-readable = one_fewer log s k w.readable

  pub first-placed : Placed log (record { pos = record { at = s; len = length log / 4096 }; left = k + 1; index = 0; «data» = 0 })
  unfolding data_before
  first-placed =
      record {
        here = λ _. record { on = on-first; within = omega arith; rank = refl };
        readable = subst (AllReadable log s) (sym (add-one k)) w.readable;
      }

  pub first-descriptors : descriptors_on log s 0 (k + 1) ≡ all_descriptors (entries_from log s k)
  first-descriptors = ap (descriptors_on log s 0) (add-one k) ∙ sym (chain-descriptors log s k)
