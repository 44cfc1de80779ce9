-- What a cursor has before it, and what it has after a move.
-- Assumes nothing.
use mathlib.Core.Path.{◌≡◌, refl, sym, ap, subst, ◌∙◌}
use mathlib.Core.Bool.{true, false, cond}
use mathlib.Core.List.{List, [], ◌∷◌, ◌++◌}
use Prim.Native.Nat.{ℕ, zero, suc, ◌+◌, ◌-◌, ◌%◌, ◌≤◌, ◌<◌}
use native.Mathlib.Omega.{arith}
use lib.ListN.{length}
use Rattle.vhdx_entry.specs.declared.ring.RingPos.{RingPos}
use Rattle.vhdx_entry.specs.Ring.{ring, On}
use Rattle.vhdx_entry.specs.Entry.{descriptor, descriptor_start, descriptor_sectors, descriptor_count, is_data_descriptor, zero_length, file_offset, data_before, data_sector, behind}
use Rattle.vhdx_entry.proofs.Laws.{data-more}
use Rattle.vhdx_walk.specs.declared.run.Source.TheVariants.{Zeros}
use Rattle.vhdx_walk.specs.declared.run.Run.{Run}
use Rattle.vhdx_walk.specs.declared.cursor.Cursor.{Cursor}
use Rattle.vhdx_walk.specs.declared.cursor.Move.TheVariants.{Entry, Descriptor as Named}
use Rattle.vhdx_walk.specs.Entries.{Descriptor, writes, zeros}
use Rattle.vhdx_walk.specs.Bytes.{sector_bytes, descriptor_of, descriptors_from}
use Rattle.vhdx_walk.specs.Cursor.{descriptor_in, Proper, descriptors_on, Readable, AllReadable, Within, Placed, Onward}
use Rattle.vhdx_walk.proofs.Parts.{data-rank, descriptors-fit, zeros-whole, same_length, size-within}

-- ---- the descriptors that are left

pub on-descriptor : (log : List ℕ) (s i left : ℕ) → 0 < left → i < descriptor_count (ring log s) →
    descriptors_on log s i left ≡ descriptor_of (ring log s) i ∷ descriptors_on log s (i + 1) left
unfolding descriptors_on descriptors_from
on-descriptor log s i zero p h = absurd (omega arith)
on-descriptor log s i (suc k) p h =
    ap (λ (m : ℕ). descriptors_from (ring log s) i m ++ descriptors_on log (behind log s) 0 k)
    {x = descriptor_count (ring log s) - i}
    {y = suc (descriptor_count (ring log s) - (i + 1))}
    (omega arith)

pub on-entry : (log : List ℕ) (s i left : ℕ) → 0 < left → descriptor_count (ring log s) ≤ i → descriptors_on log s i left ≡ descriptors_on log (behind log s) 0 (left - 1)
unfolding descriptors_on descriptors_from
on-entry log s i zero p h = absurd (omega arith)
on-entry log s i (suc k) p h =
    ap (λ (m : ℕ). descriptors_from (ring log s) i m ++ descriptors_on log (behind log s) 0 k)
    {x = descriptor_count (ring log s) - i}
    {y = 0}
    (omega arith)
    ∙ ap (descriptors_on log (behind log s) 0) {x = k} {y = suc k - 1} (omega arith)

pub on-done : (log : List ℕ) (s i left : ℕ) → left ≡ 0 → descriptors_on log s i left ≡ []
unfolding descriptors_on
on-done log s i left h = ap (descriptors_on log s i) h

pub first-readable : (log : List ℕ) (s left : ℕ) → 0 < left → AllReadable log s left → Readable (ring log s)
unfolding AllReadable
first-readable log s zero p a = absurd (omega arith)
first-readable log s (suc k) p a = a.0

pub rest-readable : (log : List ℕ) (s left : ℕ) → 0 < left → AllReadable log s left → AllReadable log (behind log s) (left - 1)
unfolding AllReadable
rest-readable log s zero p a = absurd (omega arith)
rest-readable log s (suc k) p a = subst (AllReadable log (behind log s)) {x = k} {y = suc k - 1} (omega arith) a.1

-- ---- a cursor's moves

module _ (log : List ℕ) (c : Cursor) (placed : Placed log c) (more : 0 < c.left) where
  pub stands : Within log c
  stands = placed.here more

  pub reads : Readable (ring log c.pos.at)
  reads = first-readable log c.pos.at c.left more placed.readable

  start_fits : (i : ℕ) → i ≤ descriptor_count (ring log c.pos.at) → descriptor_start i ≤ length log
  start_fits i b = omega (arith, descriptors-fit (ring log c.pos.at) reads i b, same_length log c.pos stands.on)

  pub to-entry : (p : RingPos) → On log p → p.at ≡ behind log c.pos.at → descriptor_count (ring log c.pos.at) ≤ c.index →
      Onward log c (Entry (record { pos = p; left = c.left - 1; index = 0; «data» = 0 }))
  unfolding data_before
  to-entry p on at done = (
    on-entry log c.pos.at c.index c.left more done ∙ ap (λ (s : ℕ). descriptors_on log s 0 (c.left - 1)) (sym at),
    record {
      here = λ _. record { on = on; within = omega arith; rank = refl };
      readable = subst (λ (s : ℕ). AllReadable log s (c.left - 1)) (sym at) (rest-readable log c.pos.at c.left more placed.readable);
    },
    omega arith,
  )

  module _ (inside : c.index < descriptor_count (ring log c.pos.at)) where
    pub descriptor-fits : descriptor_start (c.index + 1) ≤ length log
    descriptor-fits = start_fits (c.index + 1) (omega arith)

    pub rank-fits : is_data_descriptor (descriptor (ring log c.pos.at) c.index) ≡ true → descriptor_sectors (descriptor_count (ring log c.pos.at)) + c.«data» < c.pos.len
    rank-fits h =
        omega (arith, stands.rank, size-within log c.pos stands.on reads, data-rank (ring log c.pos.at) c.index inside h)

    moved : (n : ℕ) → n ≡ c.«data» + cond (is_data_descriptor (descriptor (ring log c.pos.at) c.index)) 1 0 →
        Placed log (record { pos = c.pos; left = c.left; index = c.index + 1; «data» = n })
    moved n e =
        record {
          here = λ _.
              record {
                on = stands.on;
                within = omega arith;
                rank = omega (arith, stands.rank, data-more (ring log c.pos.at) c.index);
              };
          readable = placed.readable;
        }

    pub past-data : (run : Run) → is_data_descriptor (descriptor (ring log c.pos.at) c.index) ≡ true →
        descriptor_in log run ≡ writes (file_offset (descriptor (ring log c.pos.at) c.index)) (sector_bytes (descriptor (ring log c.pos.at) c.index) (data_sector (ring log c.pos.at) c.«data»)) →
        Proper log run →
        Onward log c (Named run (record { pos = c.pos; left = c.left; index = c.index + 1; «data» = c.«data» + 1 }))
    unfolding descriptor_of
    past-data run h e proper =
        let r = ring log c.pos.at in
        let same : descriptor_of r c.index ≡ writes (file_offset (descriptor r c.index)) (sector_bytes (descriptor r c.index) (data_sector r c.«data»)) =
        rw (h, ← stands.rank) in (
          on-descriptor log c.pos.at c.index c.left more inside
              ∙ ap (λ (d : Descriptor). d ∷ descriptors_on log c.pos.at (c.index + 1) c.left) (same ∙ sym e),
          moved (c.«data» + 1) (rw h),
          refl,
          proper,
        )

    pub past-zeros : (offset n : ℕ) → is_data_descriptor (descriptor (ring log c.pos.at) c.index) ≡ false →
        offset ≡ file_offset (descriptor (ring log c.pos.at) c.index) →
        n ≡ zero_length (descriptor (ring log c.pos.at) c.index) →
        Onward log c (Named (record { offset = offset; length = n; source = Zeros }) (record { pos = c.pos; left = c.left; index = c.index + 1; «data» = c.«data» }))
    unfolding descriptor_of
    past-zeros offset n h p q =
        let r = ring log c.pos.at in
        let same : descriptor_of r c.index ≡ zeros offset n = rw (h, p, q) in (
          on-descriptor log c.pos.at c.index c.left more inside
              ∙ ap (λ (d : Descriptor). d ∷ descriptors_on log c.pos.at (c.index + 1) c.left) same,
          moved c.«data» (rw h (omega arith)),
          refl,
          ap (λ (k : ℕ). k % 4096) q ∙ zeros-whole r reads c.index inside h,
        )
