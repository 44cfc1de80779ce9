-- A valid entry of the log, clause by clause (document 01, "The log"; MS-VHDX 2.3.1). An entry is judged on r, the ring
-- read from its start once round: its bytes are the first of r.
-- Assumes nothing.
use Rattle.std.specs.Prelude.{Bool, cond, ◌&&◌, ◌||◌, List, Option, ℕ, zero, suc, ◌+◌, ◌-◌, ◌*◌, ◌/◌, ◌%◌, ◌^◌, nat_eq, nat_le, nat_lt, length, take, drop}
use Rattle.decision.specs.Bounded.{every, only_if}
use Rattle.field.specs.declared.Guid.{Guid}
use Rattle.field.specs.Fields.{field, number}
use Rattle.crc32c.specs.Crc.{crc, zeroed}
use Rattle.vhdx_entry.specs.Ring.{log_sector_size, sector_count, ring, sector_at}
use Rattle.vhdx_entry.specs.declared.Entry.{Entry}

-- the signatures, as the little-endian numbers of their four bytes
-- "loge"
abbrev pub loge : ℕ
loge = 0x65676f6c

-- "desc"
abbrev pub desc : ℕ
desc = 0x63736564

-- "zero"
abbrev pub zeroes : ℕ
zeroes = 0x6f72657a

-- "data"
abbrev pub datum : ℕ
datum = 0x61746164

-- what a header, a descriptor and a data sector begin with
abbrev pub signature : List ℕ → ℕ
signature s = field s 0 4

-- a multiple of 4,096
abbrev pub whole_sectors : ℕ → Bool
whole_sectors n = nat_eq (n % log_sector_size) 0

-- "header, 64 bytes: "loge", checksum, EntryLength, Tail (4 bytes each), SequenceNumber (8), DescriptorCount (4),
-- reserved (4), LogGuid (16), FlushedFileOffset (8), LastFileOffset (8)"
abbrev pub checksum : List ℕ → ℕ
checksum r = field r 4 4

abbrev pub entry_length : List ℕ → ℕ
entry_length r = field r 8 4

abbrev pub tail : List ℕ → ℕ
tail r = field r 12 4

abbrev pub sequence_number_of : List ℕ → ℕ
sequence_number_of r = field r 16 8

abbrev pub descriptor_count : List ℕ → ℕ
descriptor_count r = field r 24 4

abbrev pub log_guid_of : List ℕ → ℕ
log_guid_of r = field r 32 16

abbrev pub flushed_file_offset : List ℕ → ℕ
flushed_file_offset r = field r 48 8

abbrev pub last_file_offset : List ℕ → ℕ
last_file_offset r = field r 56 8

-- "DescriptorCount descriptors of 32 bytes": number i
abbrev pub descriptor_start : ℕ → ℕ
descriptor_start i = 64 + 32 * i

unfoldable pub descriptor : List ℕ → ℕ → List ℕ
descriptor r i = take 32 (drop (descriptor_start i) r)

-- "Data: "desc", TrailingBytes (4), LeadingBytes (8), FileOffset (8), SequenceNumber (8). Zero: "zero", reserved (4),
-- ZeroLength (8), FileOffset (8), SequenceNumber (8).": of a descriptor d
abbrev pub is_data_descriptor : List ℕ → Bool
is_data_descriptor d = nat_eq (signature d) desc

abbrev pub is_zero : List ℕ → Bool
is_zero d = nat_eq (signature d) zeroes

abbrev pub trailing_bytes : List ℕ → List ℕ
trailing_bytes d = take 4 (drop 4 d)

abbrev pub leading_bytes : List ℕ → List ℕ
leading_bytes d = take 8 (drop 8 d)

abbrev pub zero_length : List ℕ → ℕ
zero_length d = field d 8 8

abbrev pub file_offset : List ℕ → ℕ
file_offset d = field d 16 8

abbrev pub descriptor_number : List ℕ → ℕ
descriptor_number d = field d 24 8

-- "Header and descriptors are padded to 4,096": the sectors that they take
abbrev pub descriptor_sectors : ℕ → ℕ
descriptor_sectors count = (descriptor_start count + (log_sector_size - 1)) / log_sector_size

-- how many of the first m descriptors are data descriptors
unfoldable pub data_before : List ℕ → ℕ → ℕ
data_before r zero = 0
data_before r (suc m) = data_before r m + cond (is_data_descriptor (descriptor r m)) 1 0

-- "one data sector per data descriptor, in order": how many, and number k of them
abbrev pub data_count : List ℕ → ℕ
data_count r = data_before r (descriptor_count r)

abbrev pub data_sector : List ℕ → ℕ → List ℕ
data_sector r k = sector_at r (descriptor_sectors (descriptor_count r) + k)

-- the entry's length in sectors: "that sum"
abbrev pub size : List ℕ → ℕ
size r = descriptor_sectors (descriptor_count r) + data_count r

-- ---- the clauses

-- "header, 64 bytes: "loge""
abbrev pub signature_rule : List ℕ → Bool
signature_rule r = nat_eq (signature r) loge

-- "LogGuid equals the header's."
abbrev pub guid_rule : Guid → List ℕ → Bool
guid_rule guid r = nat_eq (log_guid_of r) (number guid)

-- "Tail is a multiple of 4,096 below the log length."
abbrev pub tail_rule : ℕ → List ℕ → Bool
tail_rule log_length_of r = whole_sectors (tail r) && nat_lt (tail r) log_length_of

-- "The sequence number is at least 1"
abbrev pub number_rule : List ℕ → Bool
number_rule r = nat_le 1 (sequence_number_of r)

-- "EntryLength is .. at most the log length.": that sum is, which it is exactly
abbrev pub fits_rule : List ℕ → Bool
fits_rule r = nat_le (size r * log_sector_size) (length r)

-- "EntryLength is exactly that sum (house rule)"
abbrev pub entry_length_rule : List ℕ → Bool
entry_length_rule r = nat_eq (entry_length r) (size r * log_sector_size)

-- "repeated in every descriptor", "FileOffset and ZeroLength are multiples of 4,096.": of a descriptor d, in an entry with
-- this sequence number. What is neither a data nor a zero descriptor is none
unfoldable pub descriptor_rule : ℕ → List ℕ → Bool
descriptor_rule number d =
    (is_data_descriptor d || (is_zero d && whole_sectors (zero_length d))) && (whole_sectors (file_offset d) && nat_eq (descriptor_number d) number)

-- of all of them
unfoldable pub descriptors_rule : List ℕ → Bool
descriptors_rule r = every (descriptor_count r) (λ i. descriptor_rule (sequence_number_of r) (descriptor r i))

-- ""data", SequenceHigh (4), 4,084 bytes, SequenceLow (4)", the number repeated in the two: of a data sector s
unfoldable pub data_sector_rule : ℕ → List ℕ → Bool
data_sector_rule number s = nat_eq (signature s) datum && nat_eq (field s 4 4 * 2 ^ 32 + field s 4092 4) number

-- of all of them
unfoldable pub data_sectors_rule : List ℕ → Bool
data_sectors_rule r = every (data_count r) (λ k. data_sector_rule (sequence_number_of r) (data_sector r k))

-- "The CRC covers EntryLength bytes, checksum field taken as zero."
unfoldable pub checksum_rule : List ℕ → Bool
checksum_rule r = nat_eq (checksum r) (crc (zeroed (take (entry_length r) r) 4))

-- what the header's 64 bytes decide, in a log of this length
unfoldable pub header_rule : Guid → ℕ → List ℕ → Bool
header_rule guid log_length_of r = signature_rule r && (guid_rule guid r && (tail_rule log_length_of r && number_rule r))

-- a valid entry, in an image whose log has this identifier: every clause
unfoldable pub valid_entry : Guid → List ℕ → Bool
valid_entry guid r =
    header_rule guid (length r) r && (fits_rule r && (descriptors_rule r && (entry_length_rule r && (data_sectors_rule r && checksum_rule r))))

-- what log sequences are made by: its length, its number, its Tail; length and Tail in sectors
abbrev pub contents : List ℕ → Entry
contents r = record { size = size r; number = sequence_number_of r; tail = tail r / log_sector_size }

-- "each starting where the one before ended": where the entry behind the one at sector s starts
abbrev pub behind : List ℕ → ℕ → ℕ
behind log s = (s + size (ring log s)) % sector_count log

-- the valid entry that starts at sector s of the log
unfoldable pub entry_at : List ℕ → Guid → ℕ → Option Entry
entry_at log guid s = only_if (valid_entry guid (ring log s)) (contents (ring log s))
