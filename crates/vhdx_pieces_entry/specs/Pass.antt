-- An entry read sector by sector, each once, with the checksum's state carried along.
-- Assumes nothing.
use Rattle.std.specs.Prelude.{cond, ◌&&◌, List, Option, None, Some, ◌≡◌, ℕ, ◌+◌, ◌-◌, ◌*◌, ◌/◌, ◌≤◌, ◌<◌, min, nat_eq, nat_le, nat_lt, length}
use Rattle.std.specs.Int.Bits.{bit_xor}
use Rattle.decision.specs.Bounded.{only_if}
use Rattle.field.specs.declared.Guid.{Guid}
use Rattle.crc32c.specs.Crc.{ones, updates, zeroed}
use Rattle.vhdx_entry.specs.declared.Entry.{Entry}
use Rattle.vhdx_entry.specs.Ring.{sector_at}
use Rattle.vhdx_entry.specs.Entry.{checksum, entry_length, tail, sequence_number_of, descriptor_count, descriptor_sectors, header_rule, data_sector_rule, valid_entry, contents}
use Rattle.vhdx_pieces_entry.specs.declared.Reading.{Reading}
use Rattle.std.specs.declared.ops.ControlFlow.{ControlFlow}
use Rattle.std.specs.declared.ops.ControlFlow.TheVariants.{Continue, Break}
use Rattle.vhdx_pieces_entry.specs.Sector.{passes, data_in}

-- a further sector is wanted, or it has ended
abbrev pub Progress : Type 0
Progress = ControlFlow (Option Entry) Reading

abbrev pub front : Reading → ℕ
front x = descriptor_sectors x.count

abbrev pub size_of : Reading → ℕ
size_of x = front x + x.found

unfoldable pub closed : Reading → ℕ → Progress
closed x size =
    Break (only_if (nat_eq x.sum (bit_xor x.state ones)) (record { size = size; number = x.number; tail = x.tail }))

abbrev pub going : Reading → Progress
going x = cond (nat_lt x.read (size_of x)) (Continue x) (closed x (size_of x))

unfoldable pub settled : ℕ → Reading → Progress
settled n x =
    cond (nat_lt x.read (front x)) (Continue x)
    (cond (nat_le (size_of x) n && nat_eq x.bytes (size_of x * 4096)) (going x) (Break None))

-- 126 descriptors stand in an entry's first sector, from byte 64 on, and 128 in each other
abbrev pub from_of : ℕ → ℕ
from_of k = cond (nat_eq k 0) 64 0

abbrev pub places_in : ℕ → ℕ
places_in k = cond (nat_eq k 0) 126 128

abbrev pub here : Reading → ℕ
here x = min (x.count - x.seen) (places_in x.read)

abbrev pub state_on : ℕ → ℕ → List ℕ → ℕ
state_on k state s = cond (nat_eq k 0) (updates ones (zeroed s 4)) (updates state s)

abbrev pub past : Reading → ℕ → ℕ → List ℕ → Reading
past x m d s =
    record {
      number = x.number;
      tail = x.tail;
      count = x.count;
      bytes = x.bytes;
      sum = x.sum;
      seen = x.seen + m;
      found = x.found + d;
      read = x.read + 1;
      state = state_on x.read x.state s;
    }

unfoldable pub on_front : ℕ → Reading → List ℕ → Progress
on_front n x s =
    cond (passes x.number s (from_of x.read) (here x)) (settled n (past x (here x) (data_in s (from_of x.read) (here x)) s)) (Break None)

unfoldable pub on_data : ℕ → Reading → List ℕ → Progress
on_data n x s = cond (data_sector_rule x.number s) (settled n (past x 0 0 s)) (Break None)

unfoldable pub further : ℕ → Reading → List ℕ → Progress
further n x s = cond (nat_lt x.read (front x)) (on_front n x s) (on_data n x s)

abbrev pub beginning : List ℕ → Reading
beginning s =
    record {
      number = sequence_number_of s;
      tail = tail s / 4096;
      count = descriptor_count s;
      bytes = entry_length s;
      sum = checksum s;
      seen = 0;
      found = 0;
      read = 0;
      state = 0;
    }

unfoldable pub first : Guid → ℕ → List ℕ → Progress
first guid n s = cond (header_rule guid (n * 4096) s && nat_le (descriptor_sectors (descriptor_count s)) n) (on_front n (beginning s) s) (Break None)

-- what a reading keeps to, whatever is fed, in a log of n sectors
pub record Sized (n : ℕ) (x : Reading) : Type 0 where
  pub few : x.count < 4294967296
  pub seen : x.seen ≤ x.count
  pub found : x.found ≤ x.seen
  pub fits : front x ≤ n
  pub tail : x.tail < n

-- and where a further sector is wanted
pub record Sane (n : ℕ) (x : Reading) : Type 0 where
  pub sized : Sized n x
  pub short : x.read < n

abbrev pub Kept : ℕ → Progress → Type 0
Kept n (Continue x) = Sane n x
Kept n (Break (Some e)) = (0 < e.size) × (e.size ≤ n) × (e.tail < n)
Kept n (Break None) = Unit {0}

-- fed the sectors of r in order, it ends with this answer
pub data Reads (n : ℕ) (r : List ℕ) : Progress → Option Entry → Type 0 where
  stop : {o : Option Entry} → Reads n r (Break o) o
  next : {x : Reading} {o : Option Entry} → Reads n r (further n x (sector_at r x.read)) o → Reads n r (Continue x) o

-- the theorem: of the ring r read from a sector on, n sectors long
abbrev pub ReadsEntry : Type 0
ReadsEntry =
    (guid : Guid) (n : ℕ) (r : List ℕ) → 0 < n → length r ≡ n * 4096
    → Reads n r (first guid n (sector_at r 0)) (only_if (valid_entry guid r) (contents r))
