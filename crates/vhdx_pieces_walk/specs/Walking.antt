-- The walk over a found sequence's sectors in pieces: what a walker wants or writes, and what it does then.
-- Assumes nothing.
use Rattle.std.specs.Prelude.{Bool, true, false, not, cond, ◌&&◌, List, [], ◌∷◌, ◌++◌, ◌≡◌, ℕ, zero, suc, ◌+◌, ◌-◌, ◌*◌, ◌/◌, ◌%◌, ◌≤◌, ◌<◌, min, nat_eq, nat_le, nat_lt, length, take, drop}
use Rattle.extent.specs.Extent.{mib, inside, shares}
use Rattle.field.specs.Fields.{le_bytes, Bytes, field}
use Rattle.vhdx_entry.specs.declared.ring.RingPos.{RingPos}
use Rattle.vhdx_entry.specs.Ring.{log_sector_size, sector_count, sector_at, advanced}
use Rattle.vhdx_entry.specs.Entry.{is_data_descriptor, file_offset, descriptor_count, descriptor_sectors, entry_length}
use Rattle.vhdx_walk.specs.Entries.{Sector, sectors, furthest, zero_sector}
use Rattle.vhdx_walk.specs.Cursor.{descriptors_on, AllReadable}
use Rattle.vhdx_log.specs.Work.{lies, some_lies}
use Rattle.vhdx_pieces_entry.specs.Sector.{descriptor_in, length_in}
use Rattle.vhdx_pieces_walk.specs.declared.Bounds.{Bounds}
use Rattle.vhdx_pieces_walk.specs.declared.Held.{Held}
use Rattle.vhdx_pieces_walk.specs.declared.Stage.{Stage}
use Rattle.vhdx_pieces_walk.specs.declared.Stage.TheVariants as stage
use Rattle.vhdx_pieces_walk.specs.declared.Walker.{Walker}
use Rattle.vhdx_pieces_walk.specs.declared.Step.{Step}
use Rattle.vhdx_pieces_walk.specs.declared.Step.TheVariants.{Read, Write, Ended, Broken}

abbrev pub staged : Walker → Stage → Walker
staged w s = record { pos = w.pos; left = w.left; count = w.count; size = w.size; index = w.index; «data» = w.«data»; stage = s }

abbrev pub at_header : RingPos → ℕ → Walker
at_header pos left = record { pos = pos; left = left; count = 0; size = 0; index = 0; «data» = 0; stage = stage.Header }

abbrev pub started : RingPos → ℕ → Step
started pos left = cond (nat_eq left 0) Ended (Read (at_header pos left))

-- the sector of the log that is wanted
abbrev pub wanted_in : Walker → Stage → ℕ
wanted_in w stage.Header = w.pos.at
wanted_in w stage.Descriptors = (w.pos.at + (64 + 32 * w.index) / 4096) % w.pos.len
wanted_in w (stage.Data d) = (w.pos.at + (descriptor_sectors w.count + d.rank)) % w.pos.len
wanted_in w (stage.Sector d) = w.pos.at
wanted_in w (stage.Zeros e) = w.pos.at

abbrev pub wanted_of : Walker → ℕ
wanted_of w = wanted_in w w.stage

unfoldable pub resumed : Walker → Step
resumed w =
    cond (nat_lt w.index w.count) (Read (staged w stage.Descriptors))
    (cond (nat_lt 1 w.left) (Read (at_header (advanced w.pos w.size) (w.left - 1))) Ended)

-- of the m descriptors of a sector from number i on, those before the first that names bytes
unfoldable pub idle_from : List ℕ → ℕ → ℕ → ℕ → ℕ
idle_from s from i zero = 0
idle_from s from i (suc m) = cond (nat_eq (length_in (descriptor_in s from i)) 0) (suc (idle_from s from (i + 1) m)) 0

abbrev pub past_by : Walker → ℕ → Walker
past_by w i = record { pos = w.pos; left = w.left; count = w.count; size = w.size; index = w.index + i; «data» = w.«data»; stage = w.stage }

abbrev pub allowed : Bounds → ℕ → ℕ → Bool
allowed b offset n = inside offset n b.limit && (nat_eq (n % 4096) 0 && not (lies b.log offset n))

abbrev pub beyond_by : Walker → ℕ → Stage → Walker
beyond_by w k s = record { pos = w.pos; left = w.left; count = w.count; size = w.size; index = w.index + 1; «data» = k; stage = s }

abbrev pub held_in : Walker → List ℕ → Held
held_in w d = record { offset = file_offset d; leading = field d 8 8; trailing = field d 4 4; rank = w.«data» }

unfoldable pub met : Bounds → Walker → List ℕ → Step
met b w d =
    cond (allowed b (file_offset d) (length_in d))
    (cond (is_data_descriptor d)
    (cond (nat_lt (descriptor_sectors w.count + w.«data») w.size) (Read (beyond_by w (w.«data» + 1) (stage.Data (held_in w d)))) Broken)
    (Write (beyond_by w w.«data» (stage.Zeros (record { offset = file_offset d; length = length_in d })))))
    Broken

abbrev pub from_in : Walker → ℕ
from_in w = (64 + 32 * w.index) % 4096

abbrev pub here_in : Walker → ℕ
here_in w = min (w.count - w.index) ((4096 - from_in w) / 32)

abbrev pub looked_at : Bounds → Walker → List ℕ → ℕ → ℕ → ℕ → Step
looked_at b w s from m i = cond (nat_lt i m) (met b (past_by w i) (descriptor_in s from i)) (resumed (past_by w i))

unfoldable pub looked : Bounds → Walker → List ℕ → Step
looked b w s = looked_at b w s (from_in w) (here_in w) (idle_from s (from_in w) 0 (here_in w))

abbrev pub opened : Walker → List ℕ → Walker
opened w h =
    record {
      pos = w.pos;
      left = w.left;
      count = descriptor_count h;
      size = entry_length h / 4096;
      index = 0;
      «data» = 0;
      stage = stage.Descriptors;
    }

abbrev pub fits : Walker → Bool
fits w = nat_le (descriptor_sectors w.count) w.size && nat_le w.size w.pos.len

abbrev pub step_in : Bounds → Walker → Stage → List ℕ → Step
step_in b w stage.Header s = cond (fits (opened w s)) (looked b (opened w s) s) Broken
step_in b w stage.Descriptors s = looked b w s
step_in b w (stage.Data d) s = Write (staged w (stage.Sector d))
step_in b w (stage.Sector d) s = Broken
step_in b w (stage.Zeros e) s = Broken

unfoldable pub step_of : Bounds → Walker → List ℕ → Step
step_of b w s = step_in b w w.stage s

abbrev pub wrote_in : Walker → Stage → Step
wrote_in w (stage.Sector d) = resumed w
wrote_in w (stage.Zeros e) = cond (nat_lt 4096 e.length) (Write (staged w (stage.Zeros (record { offset = e.offset + 4096; length = e.length - 4096 })))) (resumed w)
wrote_in w stage.Header = Broken
wrote_in w stage.Descriptors = Broken
wrote_in w (stage.Data d) = Broken

unfoldable pub wrote_of : Walker → Step
wrote_of w = wrote_in w w.stage

-- ---- what a walker keeps to, whatever is fed

pub record Standing (w : Walker) : Type 0 where
  pub on : w.pos.at < w.pos.len
  pub few : w.pos.len < 1048576
  pub some : 0 < w.left
  pub bounded : w.left ≤ w.pos.len

-- in an entry
pub record Opened (w : Walker) : Type 0 where
  pub standing : Standing w
  pub small : w.count < 4294967296
  pub index : w.index ≤ w.count
  pub rank : w.«data» ≤ w.index
  pub front : descriptor_sectors w.count ≤ w.size
  pub size : w.size ≤ w.pos.len

-- where a sector is wanted; what is held may be written
abbrev pub ReadingIn : Bounds → Walker → Stage → Type 0
ReadingIn b w stage.Header = Standing w
ReadingIn b w stage.Descriptors = Opened w × (w.index < w.count)
ReadingIn b w (stage.Data d) = Opened w × (descriptor_sectors w.count + d.rank < w.size) × (allowed b d.offset 4096 ≡ true)
ReadingIn b w (stage.Sector d) = ⊥
ReadingIn b w (stage.Zeros e) = ⊥

-- where a sector is to be written, and may be
abbrev pub WritingIn : Bounds → Walker → Stage → Type 0
WritingIn b w (stage.Sector d) = Opened w × (allowed b d.offset 4096 ≡ true)
WritingIn b w (stage.Zeros e) = Opened w × (0 < e.length) × (allowed b e.offset e.length ≡ true)
WritingIn b w stage.Header = ⊥
WritingIn b w stage.Descriptors = ⊥
WritingIn b w (stage.Data d) = ⊥

abbrev pub SaneReading : Bounds → Walker → Type 0
SaneReading b w = ReadingIn b w w.stage

abbrev pub SaneWriting : Bounds → Walker → Type 0
SaneWriting b w = WritingIn b w w.stage

abbrev pub Onward : Bounds → ℕ → Step → Type 0
Onward b n (Read w) = SaneReading b w × (w.pos.len ≡ n)
Onward b n (Write w) = SaneWriting b w × (w.pos.len ≡ n)
Onward b n Ended = Unit {0}
Onward b n Broken = Unit {0}

-- ---- what is written

-- a data sector with the bytes at its two ends that its descriptor holds
abbrev pub data_sector : Held → List ℕ → List ℕ
data_sector d p = le_bytes 8 d.leading ++ (take 4084 (drop 8 p) ++ le_bytes 4 d.trailing)

-- with the data sector, which was read last, in p; nothing is written in the other stages
abbrev pub written_in : Stage → List ℕ → Sector
written_in (stage.Sector d) p = record { offset = d.offset; bytes = data_sector d p }
written_in (stage.Zeros e) p = record { offset = e.offset; bytes = zero_sector }
written_in stage.Header p = record { offset = 0; bytes = p }
written_in stage.Descriptors p = record { offset = 0; bytes = p }
written_in (stage.Data d) p = record { offset = 0; bytes = p }

abbrev pub written_of : Walker → List ℕ → Sector
written_of w p = written_in w.stage p

-- not in the first MiB, not in the log, within the final length
pub record Apart (b : Bounds) (s : Sector) : Type 0 where
  pub behind : mib ≤ s.offset
  pub within : s.offset + log_sector_size ≤ b.limit
  pub outside : shares s.offset log_sector_size b.log.offset b.log.length ≡ false

-- so is what is written, whatever was fed, and it is a whole sector
abbrev pub WritesApart : Type 0
WritesApart =
    (b : Bounds) (w : Walker) (p : List ℕ) → SaneWriting b w
    → Apart b (written_of w p) × (length p ≡ log_sector_size → length (written_of w p).bytes ≡ log_sector_size)

-- ---- how much is left

-- from the next descriptor on, where an entry counts as 2^32 descriptors, and a descriptor as more than the bytes of its run
abbrev pub left_behind : Bounds → Walker → ℕ
left_behind b w = ((w.left - 1) * 4294967296 + (w.count - w.index)) * (b.limit + 3)

abbrev pub left_in : Bounds → Walker → Stage → ℕ
left_in b w stage.Header = w.left * 4294967296 * (b.limit + 3)
left_in b w stage.Descriptors = left_behind b w
left_in b w (stage.Data d) = left_behind b w + 2
left_in b w (stage.Sector d) = left_behind b w + 1
left_in b w (stage.Zeros e) = left_behind b w + e.length

abbrev pub left_of : Bounds → Step → ℕ
left_of b (Read w) = left_in b w w.stage
left_of b (Write w) = left_in b w w.stage
left_of b Ended = 0
left_of b Broken = 0

-- ---- the theorems

-- whatever is fed, it keeps to its bounds and comes nearer to its end
abbrev pub WalkAdvances : Type 0
WalkAdvances =
    (b : Bounds) (w : Walker) (p : List ℕ)
    → (SaneReading b w → Onward b w.pos.len (step_of b w p) × (left_of b (step_of b w p) < left_of b (Read w)))
    × (SaneWriting b w → Onward b w.pos.len (wrote_of w) × (left_of b (wrote_of w) < left_of b (Write w)))

-- so from its start on
abbrev pub WalkStarts : Type 0
WalkStarts =
    (b : Bounds) (pos : RingPos) (left : ℕ) → (0 < left → pos.at < pos.len) → pos.len < 1048576 → left ≤ pos.len
    → Onward b pos.len (started pos left) × (left_of b (started pos left) ≤ 1048576 * 4294967296 * (b.limit + 3))

-- fed the sectors of a log that it wants, with p read last, it ends, having written these
pub data Writes (log : List ℕ) (b : Bounds) : List ℕ → Step → List Sector → Type 0 where
  stop : {p : List ℕ} → Writes log b p Ended []
  reads : {p : List ℕ} {w : Walker} {ss : List Sector} → wanted_of w < sector_count log
      → Writes log b (sector_at log (wanted_of w)) (step_of b w (sector_at log (wanted_of w))) ss → Writes log b p (Read w) ss
  writes : {p : List ℕ} {w : Walker} {ss : List Sector} → ((p₂ : List ℕ) → Writes log b p₂ (wrote_of w) ss) → Writes log b p (Write w) (written_of w p ∷ ss)

abbrev pub WritesAll : Type 0
WritesAll =
    (log : List ℕ) (b : Bounds) (s left : ℕ) (p : List ℕ) → Bytes log → length log % 4096 ≡ 0 → s < sector_count log → AllReadable log s left
    → furthest (descriptors_on log s 0 left) ≤ b.limit → some_lies b.log (sectors (descriptors_on log s 0 left)) ≡ false
    → Writes log b p (started (record { at = s; len = sector_count log }) left) (sectors (descriptors_on log s 0 left))
