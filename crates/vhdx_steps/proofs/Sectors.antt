-- What is known of a plan that applies: each of its sectors has 4,096 bytes, ends at the final length or before, and lies outside
-- the first MiB and the log.
-- Assumes nothing.
use mathlib.Core.Path.{◌≡◌, refl, ap, ◌∙◌}
use mathlib.Core.Bool.{Bool, true, false, cond, ◌||◌}
use mathlib.Core.List.{List, [], ◌∷◌, ◌++◌}
use mathlib.Core.Logic.{◌⊎◌, ⊎_elim}
use Prim.Native.Nat.{ℕ, zero, suc, ◌+◌, ◌*◌, ◌/◌, ◌≤◌, ◌<◌}
use native.Mathlib.Nat.{div-mul-le_self}
use native.Mathlib.Omega.{arith}
use lib.Dec.{eqb}
use lib.ListN.{length, take, drop, length-append, length-replicate}
use borrow.Author.Tests.{eqb-true}
use Rattle.extent.specs.declared.Extent.{Extent}
use Rattle.extent.specs.Extent.{mib, shares}
use Rattle.extent.proofs.Laws.{share}
use Rattle.vhdx_entry.specs.Ring.{log_sector_size, ring, sector_at}
use Rattle.vhdx_entry.specs.Entry.{descriptor_count, descriptor_start, descriptor, is_data_descriptor, data_before, data_count, data_sector, descriptor_sectors, leading_bytes, trailing_bytes, file_offset, zero_length}
use Rattle.vhdx_entry.specs.Entry.{behind}
use Rattle.vhdx_walk.specs.Entries.{Descriptor, writes, zeros, all_descriptors, Sector, sectors_at, zero_sector, sectors, furthest}
use Rattle.vhdx_walk.specs.Bytes.{sector_bytes, descriptor_of, descriptors_from, entries_from}
use Rattle.vhdx_walk.specs.Cursor.{Readable, AllReadable}
use Rattle.vhdx_walk.proofs.Parts.{data-rank, size_fits, descriptors-fit}
use Rattle.vhdx_log.specs.Work.{lies, some_lies}
use Rattle.vhdx_steps.specs.Steps.{end, In, Named}
use Rattle.vhdx_steps.proofs.Bytes.{part-long}
use Rattle.vhdx_steps.proofs.Every.{All, all_append}
use Rattle.vhdx_steps.proofs.Restart.{EndBy}

-- ---- 4,096 bytes

sector-long : (d s : List ℕ) → length d ≡ 32 → length s ≡ 4096 → length (sector_bytes d s) ≡ 4096
unfolding sector_bytes
sector-long d s p q =
    let a = part-long d 8 8 (omega arith) in
    let b = part-long s 8 4084 (omega arith) in
    let c = part-long d 4 4 (omega arith) in
    length-append (leading_bytes d) (take 4084 (drop 8 s) ++ trailing_bytes d)
    ∙ ap (λ (x : ℕ). length (leading_bytes d) + x) (length-append (take 4084 (drop 8 s)) (trailing_bytes d))
    ∙ omega (arith, a, b, c)

-- a data descriptor's bytes
abbrev pub Sized : Descriptor → Type 0
Sized (writes offset bytes) = length bytes ≡ 4096
Sized (zeros offset n) = Unit {0}

abbrev pub AllSized : List Descriptor → Type 0
AllSized ds = All Sized ds

own-long : (r : List ℕ) (i : ℕ) → Readable r → i < descriptor_count r → length (descriptor r i) ≡ 32
unfolding descriptor
own-long r i e b = part-long r (descriptor_start i) 32 (omega (arith, descriptors-fit r e (i + 1) (omega arith)))

held-long : (r : List ℕ) (k : ℕ) → Readable r → k < data_count r → length (data_sector r k) ≡ 4096
unfolding sector_at
held-long r k e b = part-long r ((descriptor_sectors (descriptor_count r) + k) * log_sector_size) 4096 (omega (arith, size_fits r e))

descriptor-sized : (r : List ℕ) (i : ℕ) → Readable r → i < descriptor_count r → Sized (descriptor_of r i)
unfolding descriptor_of
descriptor-sized r i e b = go (is_data_descriptor (descriptor r i)) refl
  where
    go : (t : Bool) → is_data_descriptor (descriptor r i) ≡ t
        → Sized (cond t (writes (file_offset (descriptor r i)) (sector_bytes (descriptor r i) (data_sector r (data_before r i)))) (zeros (file_offset (descriptor r i)) (zero_length (descriptor r i))))
    go false h = tt
    go true h =
        sector-long (descriptor r i) (data_sector r (data_before r i)) (own-long r i e b) (held-long r (data_before r i) e (data-rank r i b h))

from-sized : (r : List ℕ) (i m : ℕ) → Readable r → i + m ≤ descriptor_count r → AllSized (descriptors_from r i m)
unfolding descriptors_from
from-sized r i zero e b = tt
from-sized r i (suc m) e b = (descriptor-sized r i e (omega arith), from-sized r (i + 1) m e (omega arith))

pub entries-sized : (log : List ℕ) (s k : ℕ) → AllReadable log s (suc k) → AllSized (all_descriptors (entries_from log s k))
unfolding entries_from AllReadable
entries-sized log s zero h = from-sized (ring log s) 0 (descriptor_count (ring log s)) h.0 (omega arith)
entries-sized log s (suc k) h =
    all_append Sized (descriptors_from (ring log s) 0 (descriptor_count (ring log s))) (all_descriptors (entries_from log (behind log s) k))
    (from-sized (ring log s) 0 (descriptor_count (ring log s)) h.0 (omega arith)) (entries-sized log (behind log s) k h.1)

-- ---- where they end

abbrev pub Long : Sector → Type 0
Long s = length s.bytes ≡ 4096

abbrev pub Whole : List Sector → Type 0
Whole ss = All Long ss

run-whole : (k offset : ℕ) (bytes : List ℕ) → length bytes ≡ 4096 → Whole (sectors_at k offset bytes)
unfolding sectors_at
run-whole zero offset bytes h = tt
run-whole (suc k) offset bytes h = (h, run-whole k (offset + log_sector_size) bytes h)

zeros-long : length zero_sector ≡ 4096
unfolding zero_sector
zeros-long = length-replicate {A = ℕ} log_sector_size 0

pub all_whole : (ds : List Descriptor) → AllSized ds → Whole (sectors ds)
all_whole [] h = tt
all_whole (writes offset bytes ∷ ds) h = all_append Long (sectors_at 1 offset bytes) (sectors ds) (run-whole 1 offset bytes h.0) (all_whole ds h.1)
all_whole (zeros offset n ∷ ds) h =
    all_append Long (sectors_at (n / log_sector_size) offset zero_sector) (sectors ds) (run-whole (n / log_sector_size) offset zero_sector zeros-long) (all_whole ds h.1)

run_ends : (m k offset : ℕ) (bytes : List ℕ) → length bytes ≡ 4096 → (0 < k → offset + k * 4096 ≤ m) → EndBy m (sectors_at k offset bytes)
unfolding sectors_at
run_ends m zero offset bytes h b = tt
run_ends m (suc k) offset bytes h b =
    let all = b (omega arith) in
    (omega (arith, all), run_ends m k (offset + log_sector_size) bytes h (λ c. omega (arith, all)))

zero-ends : (m offset n : ℕ) → cond (eqb n 0) 0 (offset + n) ≤ m → 0 < n / 4096 → offset + n / 4096 * 4096 ≤ m
zero-ends m offset n h b = go (eqb n 0) refl h
  where
    go : (t : Bool) → eqb n 0 ≡ t → cond t 0 (offset + n) ≤ m → offset + n / 4096 * 4096 ≤ m
    go true e h = let z : n ≡ 0 = eqb-true n 0 e in absurd (omega arith)
    go false e h = omega (arith, h, div-mul-le_self n 4096)

pub all_end : (m : ℕ) (ds : List Descriptor) → AllSized ds → furthest ds ≤ m → EndBy m (sectors ds)
all_end m [] h b = tt
all_end m (writes offset bytes ∷ ds) h b =
    all_append (λ (s : Sector). end s ≤ m) (sectors_at 1 offset bytes) (sectors ds) (run_ends m 1 offset bytes h.0 (λ c. omega (arith, b))) (all_end m ds h.1 (omega (arith, b)))
all_end m (zeros offset n ∷ ds) h b =
    let own : cond (eqb n 0) 0 (offset + n) ≤ m = omega (arith, b) in
    all_append (λ (s : Sector). end s ≤ m) (sectors_at (n / log_sector_size) offset zero_sector) (sectors ds)
    (run_ends m (n / log_sector_size) offset zero_sector zeros-long (zero-ends m offset n own)) (all_end m ds h.1 (omega (arith, b)))

-- ---- where they do not lie

pub neither : (a b : Bool) → (a || b) ≡ false → (a ≡ false) × (b ≡ false)
neither true b h = let z : ◌≡◌ {A = ℕ} 0 1 = cc in absurd (omega arith)
neither false b h = (refl, h)

-- byte i is in the first MiB or in the log
abbrev pub Kept : Extent → ℕ → Type 0
Kept log i = (i < mib) ⊎ ((log.offset ≤ i) × (i < log.offset + log.length))

pub clash : {t : Bool} {A : Type 0} → t ≡ true → t ≡ false → A
clash p q = let z : ◌≡◌ {A = ℕ} 0 1 = cc in absurd (omega arith)

pub none_kept : (log : Extent) (ss : List Sector) → Whole ss → some_lies log ss ≡ false → (i : ℕ) → Kept log i → ¬ Named ss i
none_kept log [] w h i k n = n
none_kept log (s ∷ ss) w h i k n =
    let p = neither (lies log s.offset log_sector_size) (some_lies log ss) h in
    let q = neither (shares s.offset log_sector_size 0 mib) (shares s.offset log_sector_size log.offset log.length) p.0 in
    ⊎_elim
    (λ (x : In i s).
    ⊎_elim
    (λ y. clash (share s.offset log_sector_size 0 mib (omega arith) (omega arith) (omega (arith, x.0)) (omega arith)) q.0)
    (λ y. clash (share s.offset log_sector_size log.offset log.length (omega arith) (omega (arith, y)) (omega (arith, x.0, y)) (omega (arith, x.1, w.0, y))) q.1)
    k)
    (none_kept log ss w.1 p.1 i k)
    n
