-- One header: its fields, when it is valid, and the rules of its fields (document 01, "Headers"; MS-VHDX 2.2.2).
-- A header h is the list of its 4,096 bytes.
-- Assumes nothing.
use Rattle.std.specs.Prelude.{Bool, ◌&&◌, ◌||◌, List, [], ◌∷◌, ℕ, ◌*◌, nat_eq, nat_le}
use Rattle.field.specs.declared.Guid.{Guid}
use Rattle.field.specs.Fields.{field, guid_at, number, starts}
use Rattle.extent.specs.Extent.{mib, whole_mib, inside}
use Rattle.crc32c.specs.Crc.{crc, zeroed}
use Rattle.vhdx_header.specs.declared.Header.{Header}

-- the fields, each by its offset and width
abbrev pub checksum : List ℕ → ℕ
checksum h = field h 4 4

abbrev pub sequence_number_of : List ℕ → ℕ
sequence_number_of h = field h 8 8

abbrev pub log_guid_of : List ℕ → Guid
log_guid_of h = guid_at h 48

abbrev pub log_version : List ℕ → ℕ
log_version h = field h 64 2

abbrev pub version : List ℕ → ℕ
version h = field h 66 2

abbrev pub log_length_of : List ℕ → ℕ
log_length_of h = field h 68 4

abbrev pub log_offset_of : List ℕ → ℕ
log_offset_of h = field h 72 8

-- "head"
abbrev pub head : List ℕ
head = 0x68 ∷ 0x65 ∷ 0x61 ∷ 0x64 ∷ []

-- "valid if it begins "head" and its CRC-32C over 4,096 bytes, checksum field taken as zero, agrees"
unfoldable pub valid_header : List ℕ → Bool
valid_header h = starts h head && nat_eq (checksum h) (crc (zeroed h 4))

-- "Version is 1"
abbrev pub version_rule : List ℕ → Bool
version_rule h = nat_eq (version h) 1

-- "LogVersion is 0 unless the log identifier is zero"
abbrev pub log_version_rule : List ℕ → Bool
log_version_rule h = nat_eq (number (log_guid_of h)) 0 || nat_eq (log_version h) 0

-- "log offset and log length are multiples of 1 MiB"
abbrev pub log_offset_rule : List ℕ → Bool
log_offset_rule h = whole_mib (log_offset_of h)

abbrev pub log_length_rule : List ℕ → Bool
log_length_rule h = whole_mib (log_length_of h)

-- "the offset at least 1 MiB"
abbrev pub log_start_rule : List ℕ → Bool
log_start_rule h = nat_le mib (log_offset_of h)

-- "its length at most 64 MiB (house limit)"
abbrev pub log_limit : ℕ
log_limit = 64 * mib

abbrev pub log_limit_rule : List ℕ → Bool
log_limit_rule h = nat_le (log_length_of h) log_limit

-- the rules that the header's own bytes decide
unfoldable pub field_rules : List ℕ → Bool
field_rules h =
    version_rule h && (log_version_rule h && (log_offset_rule h && (log_length_rule h && (log_start_rule h && log_limit_rule h))))

-- "the log inside the image": the one rule that the image's length n decides too
abbrev pub inside_rule : Header → ℕ → Bool
inside_rule h n = inside h.log_offset h.log_length n

-- what is answered of the header that stands at an offset
abbrev pub contents : ℕ → List ℕ → Header
contents at h =
    record {
      slot = at;
      sequence_number = sequence_number_of h;
      log_guid = log_guid_of h;
      log_offset = log_offset_of h;
      log_length = log_length_of h;
    }
