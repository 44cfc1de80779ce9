-- The header that closing writes (change request Q-6: "the header that isn't current is rewritten with sequence number plus one, log
-- identifier zero and a file-write identifier that the caller lends, all else copied. The checksum is made anew.").
-- A header h is the list of its 4,096 bytes, an identifier the list of its 16.
-- Assumes nothing.
use Rattle.std.specs.Prelude.{List, ℕ, ◌+◌, replicate}
use Rattle.field.specs.Fields.{le_bytes}
use Rattle.crc32c.specs.Crc.{crc, zeroed}
use Rattle.vhdx_header.specs.Header.{sequence_number_of}
use Rattle.vhdx_steps.specs.Buffer.{put}

-- a sequence number's "greatest value", 2^64 - 1: the one that has no next
abbrev pub greatest : ℕ
greatest = 18446744073709551615

-- where a header has these fields (MS-VHDX 2.2.2)
abbrev pub checksum_at : ℕ
checksum_at = 4

abbrev pub number_at : ℕ
number_at = 8

abbrev pub file_write_at : ℕ
file_write_at = 16

abbrev pub log_at : ℕ
log_at = 48

-- "sequence number plus one"
abbrev pub next_number : List ℕ → ℕ
next_number h = sequence_number_of h + 1

unfoldable pub numbered : List ℕ → List ℕ
numbered h = put h number_at (le_bytes 8 (next_number h))

-- with the caller's file-write identifier
unfoldable pub named : List ℕ → List ℕ → List ℕ
named h identifier = put (numbered h) file_write_at identifier

-- "log identifier zero .. all else copied"
unfoldable pub rewritten : List ℕ → List ℕ → List ℕ
rewritten h identifier = put (named h identifier) log_at (replicate 16 0)

-- "The checksum is made anew": over the header with its four bytes taken as zero
abbrev pub new_checksum : List ℕ → ℕ
new_checksum h = crc (zeroed h checksum_at)

unfoldable pub closed_header : List ℕ → List ℕ → List ℕ
closed_header h identifier = put (rewritten h identifier) checksum_at (le_bytes 4 (new_checksum (rewritten h identifier)))
