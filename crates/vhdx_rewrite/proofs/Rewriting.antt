-- The header that closing writes: it is valid, its number is one greater, it names no log, and all else is the current one's.
-- Assumes nothing.
use mathlib.Core.Path.{◌≡◌, sym, ap, ap₂, ◌∙◌}
use mathlib.Core.Bool.{Bool, true, ◌&&◌, ◌||◌, and-eq-true_iff}
use mathlib.Core.List.{List}
use mathlib.Core.Logic.{inl, inr}
use Prim.Native.Nat.{ℕ, ◌+◌, ◌*◌, ◌^◌, ◌≤◌, ◌<◌}
use native.Mathlib.Omega.{arith}
use lib.Dec.{eqb, leb}
use lib.ListN.{length, take, replicate, length-replicate}
use borrow.Author.Tests.{eq-eqb}
use Rattle.field.specs.declared.Guid.{Guid}
use Rattle.field.specs.Fields.{le_bytes, Bytes, field, number, starts}
use Rattle.field.proofs.Bytes.{le-bytes-long, le-of-bytes, le-zeros, bytes-zeros, bytes-number}
use Rattle.field.proofs.Laws.{field-add}
use Rattle.extent.specs.Extent.{mib, whole_mib}
use Rattle.crc32c.specs.Crc.{crc, zeroed}
use Rattle.vhdx_header.specs.Header.{checksum, sequence_number_of, log_guid_of, log_version, log_length_of, log_offset_of, head, valid_header, version_rule, log_version_rule, log_limit, field_rules}
use Rattle.vhdx_steps.specs.Buffer.{put}
use Rattle.vhdx_steps.proofs.Bytes.{put-length}
use Rattle.vhdx_rewrite.specs.Rewrite.{checksum_at, number_at, file_write_at, log_at, next_number, numbered, named, rewritten, new_checksum, closed_header}
use Rattle.vhdx_rewrite.proofs.Parts.{part_out, field_out, field_in, starts-same, zeroed-put, crc-lt, bytes-put, bytes-zeroed}

-- the rules of the log's place, by its offset and length
abbrev place_rules : ℕ → ℕ → Bool
place_rules o l = whole_mib o && (whole_mib l && (leb mib o && leb l log_limit))

seal : List ℕ → List ℕ
seal u = le_bytes 4 (new_checksum u)

module _ (h identifier : List ℕ) (long : length h ≡ 4096) (sixteen : length identifier ≡ 16) where
  fits-1 : number_at + length (le_bytes 8 (next_number h)) ≤ length h
  fits-1 = omega (arith, le-bytes-long 8 (next_number h))

  long-1 : length (numbered h) ≡ 4096
  unfolding numbered
  long-1 = put-length h number_at (le_bytes 8 (next_number h)) fits-1 ∙ long

  fits-2 : file_write_at + length identifier ≤ length (numbered h)
  fits-2 = omega (arith, long-1)

  long-2 : length (named h identifier) ≡ 4096
  unfolding named
  long-2 = put-length (numbered h) file_write_at identifier fits-2 ∙ long-1

  fits-3 : log_at + length {A = ℕ} (replicate 16 0) ≤ length (named h identifier)
  fits-3 = omega (arith, long-2)

  long-3 : length (rewritten h identifier) ≡ 4096
  unfolding rewritten
  long-3 = put-length (named h identifier) log_at (replicate 16 0) fits-3 ∙ long-2

  fits-4 : checksum_at + length (seal (rewritten h identifier)) ≤ length (rewritten h identifier)
  unfolding seal
  fits-4 = omega (arith, long-3, le-bytes-long 4 (new_checksum (rewritten h identifier)))

  four : length (seal (rewritten h identifier)) ≡ 4
  unfolding seal
  four = le-bytes-long 4 (new_checksum (rewritten h identifier))

  pub rewritten-long : length (rewritten h identifier) ≡ 4096
  rewritten-long = long-3

  pub closed-long : length (closed_header h identifier) ≡ 4096
  unfolding closed_header seal
  closed-long = put-length (rewritten h identifier) checksum_at (seal (rewritten h identifier)) fits-4 ∙ long-3

  -- ---- fields, put by put

  -- behind the checksum
  past-seal : (a n : ℕ) → 8 ≤ a → a + n ≤ 4096 → field (closed_header h identifier) a n ≡ field (rewritten h identifier) a n
  unfolding closed_header seal
  past-seal a n b e = field_out (rewritten h identifier) checksum_at (seal (rewritten h identifier)) fits-4 a n (omega (arith, long-3)) (inr (omega (arith, four)))

  past-guid : (a n : ℕ) → a + n ≤ 48 → field (rewritten h identifier) a n ≡ field (named h identifier) a n
  unfolding rewritten named numbered
  past-guid a n e = field_out (named h identifier) log_at (replicate 16 0) fits-3 a n (omega (arith, long-2)) (inl e)

  past-name : (a n : ℕ) → a + n ≤ 16 → field (named h identifier) a n ≡ field (numbered h) a n
  unfolding named
  past-name a n e = field_out (numbered h) file_write_at identifier fits-2 a n (omega (arith, long-1)) (inl e)

  pub closed-number : sequence_number_of h + 1 < 2 ^ 64 → sequence_number_of (closed_header h identifier) ≡ sequence_number_of h + 1
  unfolding numbered
  closed-number b =
      past-seal 8 8 (omega arith) (omega arith) ∙ past-guid 8 8 (omega arith) ∙ past-name 8 8 (omega arith)
      ∙ field_in h number_at (le_bytes 8 (next_number h)) fits-1 8 (le-bytes-long 8 (next_number h))
      ∙ le-of-bytes 8 (next_number h) (omega (arith, b))

  no-guid : field (closed_header h identifier) 48 16 ≡ 0
  unfolding rewritten named numbered
  no-guid =
      past-seal 48 16 (omega arith) (omega arith)
      ∙ field_in (named h identifier) log_at (replicate 16 0) fits-3 16 (length-replicate {A = ℕ} 16 0)
      ∙ le-zeros 16

  pub closed-guid : log_guid_of (closed_header h identifier) ≡ record { low = 0; high = 0 }
  closed-guid =
      let s = closed_header h identifier in
      let j : field s 48 16 ≡ field s 48 8 + 256 ^ 8 * field s 56 8 = field-add s 48 8 8 (omega (arith, closed-long)) in
      let z = no-guid in
      let a : field s 48 8 ≡ 0 = omega arith in
      let b : field s 56 8 ≡ 0 = omega arith in
      ap₂ (λ (x y : ℕ). record { low = x; high = y }) a b

  -- all that stands behind the log identifier
  pub closed-rest : (a n : ℕ) → 64 ≤ a → a + n ≤ 4096 → field (closed_header h identifier) a n ≡ field h a n
  unfolding rewritten named numbered
  closed-rest a n b e =
      past-seal a n (omega arith) e
      ∙ field_out (named h identifier) log_at (replicate 16 0) fits-3 a n (omega (arith, long-2)) (inr (omega (arith, b)))
      ∙ field_out (numbered h) file_write_at identifier fits-2 a n (omega (arith, long-1)) (inr (omega arith))
      ∙ field_out h number_at (le_bytes 8 (next_number h)) fits-1 a n (omega arith) (inr (omega (arith, le-bytes-long 8 (next_number h))))

  -- ---- valid

  begins : take 4 (closed_header h identifier) ≡ take 4 h
  unfolding closed_header seal rewritten named numbered
  begins =
      part_out (rewritten h identifier) checksum_at (seal (rewritten h identifier)) fits-4 0 4 (omega (arith, long-3)) (inl (omega arith))
      ∙ part_out (named h identifier) log_at (replicate 16 0) fits-3 0 4 (omega (arith, long-2)) (inl (omega arith))
      ∙ part_out (numbered h) file_write_at identifier fits-2 0 4 (omega (arith, long-1)) (inl (omega arith))
      ∙ part_out h number_at (le_bytes 8 (next_number h)) fits-1 0 4 (omega arith) (inl (omega arith))

  module _ (bytes : Bytes h) (named-bytes : Bytes identifier) where
    rewritten-bytes : Bytes (rewritten h identifier)
    unfolding rewritten named numbered
    rewritten-bytes =
        bytes-put (named h identifier) log_at (replicate 16 0)
        (bytes-put (numbered h) file_write_at identifier (bytes-put h number_at (le_bytes 8 (next_number h)) bytes (bytes-number 8 (next_number h))) named-bytes)
        (bytes-zeros 16)

    agrees : checksum (closed_header h identifier) ≡ crc (zeroed (closed_header h identifier) 4)
    unfolding closed_header seal
    agrees =
        let u = rewritten h identifier in
        field_in u checksum_at (le_bytes 4 (new_checksum u)) fits-4 4 four
        ∙ le-of-bytes 4 (new_checksum u) (omega (arith, crc-lt (zeroed u 4) (bytes-zeroed u rewritten-bytes)))
        ∙ ap crc (sym (zeroed-put u (le_bytes 4 (new_checksum u)) four (omega (arith, long-3))))

    pub closed-valid : valid_header h ≡ true → valid_header (closed_header h identifier) ≡ true
    unfolding valid_header
    closed-valid v =
        let p = (and-eq-true_iff (starts h head) (eqb (checksum h) (crc (zeroed h 4)))).0 v in
        (and-eq-true_iff (starts (closed_header h identifier) head) (eqb (checksum (closed_header h identifier)) (crc (zeroed (closed_header h identifier) 4)))).1
        (starts-same h (closed_header h identifier) head begins ∙ p.0, eq-eqb _ _ agrees)

  -- ---- its rules

  pub closed-rules : field_rules h ≡ true → field_rules (closed_header h identifier) ≡ true
  unfolding field_rules
  closed-rules e =
      let s = closed_header h identifier in
      let p = (and-eq-true_iff (version_rule h) (log_version_rule h && place_rules (log_offset_of h) (log_length_of h))).0 e in
      let q = (and-eq-true_iff (log_version_rule h) (place_rules (log_offset_of h) (log_length_of h))).0 p.1 in
      (and-eq-true_iff (version_rule s) (log_version_rule s && place_rules (log_offset_of s) (log_length_of s))).1 (
        ap (λ (x : ℕ). eqb x 1) (closed-rest 66 2 (omega arith) (omega arith)) ∙ p.0,
        (and-eq-true_iff (log_version_rule s) (place_rules (log_offset_of s) (log_length_of s))).1 (
          ap (λ (g : Guid). eqb (number g) 0 || eqb (log_version s) 0) closed-guid,
          ap₂ place_rules (closed-rest 72 8 (omega arith) (omega arith)) (closed-rest 68 4 (omega arith) (omega arith)) ∙ q.1,
        ),
      )

-- ---- as the code puts it together

module _ (h identifier : List ℕ) where
  pub rewrite-is : (b c d next none : List ℕ) (n : ℕ) → n ≡ sequence_number_of h → next ≡ le_bytes 8 (n + 1) → b ≡ put h 8 next
      → c ≡ put b 16 identifier → none ≡ replicate 16 0 → d ≡ put c 48 none → d ≡ rewritten h identifier
  unfolding rewritten named numbered
  rewrite-is b c d next none n en enext eb ec enone ed =
      let number : next ≡ le_bytes 8 (sequence_number_of h + 1) = enext ∙ ap (λ (x : ℕ). le_bytes 8 (x + 1)) en in
      cc
