-- What a found sequence's descriptors and its head say, in pieces: what a tour over its entries wants, and what it does with it.
-- Assumes nothing.
use Rattle.std.specs.Prelude.{Bool, false, cond, ◌&&◌, List, Option, None, Some, ◌≡◌, ℕ, zero, suc, ◌+◌, ◌-◌, ◌*◌, ◌/◌, ◌%◌, ◌≤◌, ◌<◌, min, nat_eq, nat_le, nat_lt}
use Rattle.extent.specs.declared.Extent.{Extent}
use Rattle.vhdx_entry.specs.declared.ring.RingPos.{RingPos}
use Rattle.vhdx_entry.specs.Ring.{sector_count, sector_at, advanced}
use Rattle.vhdx_entry.specs.Entry.{file_offset, descriptor_count, descriptor_sectors, entry_length, flushed_file_offset, last_file_offset}
use Rattle.vhdx_walk.specs.Entries.{head, all_descriptors}
use Rattle.vhdx_walk.specs.Bytes.{entries_from}
use Rattle.vhdx_walk.specs.Cursor.{Walkable}
use Rattle.vhdx_log.specs.declared.survey.Survey.{Survey}
use Rattle.vhdx_log.specs.Survey.{survey_of, added}
use Rattle.vhdx_pieces_entry.specs.Sector.{descriptor_in, length_in}
use Rattle.vhdx_pieces_entry.specs.Pass.{from_of, places_in}
use Rattle.vhdx_pieces_survey.specs.declared.Tour.{Tour}
use Rattle.vhdx_pieces_survey.specs.declared.Report.{Report}
use Rattle.std.specs.declared.ops.ControlFlow.{ControlFlow}
use Rattle.std.specs.declared.ops.ControlFlow.TheVariants.{Continue, Break}

-- a sector is wanted, or the tour has ended: without a report, if what was an entry of the sequence is none any more
abbrev pub Step : Type 0
Step = ControlFlow (Option Report) Tour

-- a survey with one descriptor more
unfoldable pub added_by : Extent → Survey → List ℕ → Survey
added_by log sv d = added log sv (file_offset d) (length_in d)

-- with the m descriptors from byte `from` of a sector on
unfoldable pub survey_in : Extent → Survey → List ℕ → ℕ → ℕ → Survey
survey_in log sv s from zero = sv
survey_in log sv s from (suc m) = added_by log (survey_in log sv s from m) (descriptor_in s from m)

-- the sector of the log that is wanted
abbrev pub wanted_of : Tour → ℕ
wanted_of t = (t.pos.at + t.read) % t.pos.len

abbrev pub at_header : RingPos → ℕ → ℕ → ℕ → Survey → Tour
at_header pos left flushed last found =
    record { pos = pos; left = left; count = 0; size = 0; seen = 0; read = 0; flushed = flushed; last = last; found = found }

abbrev pub empty : Survey
empty = record { lies = false; end = 0; count = 0 }

abbrev pub started : RingPos → ℕ → Step
started pos more = Continue (at_header pos (more + 1) 0 0 empty)

abbrev pub opened : Tour → List ℕ → Tour
opened t h =
    record {
      pos = t.pos;
      left = t.left;
      count = descriptor_count h;
      size = entry_length h / 4096;
      seen = 0;
      read = 0;
      flushed = flushed_file_offset h;
      last = last_file_offset h;
      found = t.found;
    }

abbrev pub further : Tour → ℕ → Survey → Tour
further t m sv =
    record {
      pos = t.pos;
      left = t.left;
      count = t.count;
      size = t.size;
      seen = t.seen + m;
      read = t.read + 1;
      flushed = t.flushed;
      last = t.last;
      found = sv;
    }

-- past m descriptors, with the survey that they made
unfoldable pub moved_on : Tour → ℕ → Survey → Step
moved_on t m sv =
    cond (nat_lt (t.seen + m) t.count) (Continue (further t m sv))
    (cond (nat_lt 1 t.left) (Continue (at_header (advanced t.pos t.size) (t.left - 1) t.flushed t.last sv))
    (Break (Some (record { flushed = t.flushed; last = t.last; found = sv }))))

-- how many descriptors the next sector has
abbrev pub here : Tour → ℕ
here t = min (t.count - t.seen) (places_in t.read)

unfoldable pub passed : Extent → Tour → List ℕ → Step
passed log t s = moved_on t (here t) (survey_in log t.found s (from_of t.read) (here t))

abbrev pub fits : Tour → Bool
fits t = nat_le (descriptor_sectors t.count) t.size && nat_le t.size t.pos.len

unfoldable pub step_of : Extent → Tour → List ℕ → Step
step_of log t s = cond (nat_eq t.read 0) (cond (fits (opened t s)) (passed log (opened t s) s) (Break None)) (passed log t s)

-- ---- what a tour keeps to, whatever is fed

pub record Standing (t : Tour) : Type 0 where
  pub on : t.pos.at < t.pos.len
  pub few : t.pos.len < 1048576
  pub some : 0 < t.left
  pub bounded : t.left ≤ t.pos.len

-- in an entry
pub record Opened (t : Tour) : Type 0 where
  pub standing : Standing t
  pub small : t.count < 4294967296
  pub seen : t.seen ≤ t.count
  pub starts : 64 + 32 * t.seen ≡ t.read * 4096 + from_of t.read
  pub front : descriptor_sectors t.count ≤ t.size
  pub size : t.size ≤ t.pos.len

-- the sector was used up
abbrev pub Full : Tour → ℕ → Type 0
Full t m = m ≡ here t

pub record Sane (t : Tour) : Type 0 where
  pub standing : Standing t
  pub inside : 0 < t.read → Opened t × (t.seen < t.count)
  pub short : t.read < t.pos.len

abbrev pub Onward : ℕ → Step → Type 0
Onward n (Continue t) = Sane t × (t.pos.len ≡ n)
Onward n (Break o) = Unit {0}

-- ---- how many sectors it still asks for, at most

-- of the entry it is in, and as many as the log has of each entry after it
abbrev pub left_of : Step → ℕ
left_of (Continue t) = (t.left - 1) * t.pos.len + (t.pos.len - t.read)
left_of (Break o) = 0

-- ---- the theorems

-- whatever is fed, it may be fed again, and asks for less
abbrev pub SurveyAdvances : Type 0
SurveyAdvances =
    (e : Extent) (t : Tour) (p : List ℕ) → Sane t
    → Onward t.pos.len (step_of e t p) × (left_of (step_of e t p) < left_of (Continue t))

-- at the start
abbrev pub SurveyStarts : Type 0
SurveyStarts =
    (pos : RingPos) (more : ℕ) → pos.at < pos.len → pos.len < 1048576 → more < pos.len
    → Onward pos.len (started pos more) × (left_of (started pos more) ≤ pos.len * pos.len)

-- fed the sectors of a log that it wants, it ends with this report
pub data Surveys (log : List ℕ) (e : Extent) : Step → Report → Type 0 where
  stop : {r : Report} → Surveys log e (Break (Some r)) r
  next : {t : Tour} {r : Report} → wanted_of t < sector_count log → Surveys log e (step_of e t (sector_at log (wanted_of t))) r → Surveys log e (Continue t) r

-- of the entry at sector s and the k after it
abbrev pub report_of : List ℕ → Extent → ℕ → ℕ → Report
report_of log e s k =
    record {
      flushed = (head (entries_from log s k)).flushed;
      last = (head (entries_from log s k)).last;
      found = survey_of e (all_descriptors (entries_from log s k));
    }

abbrev pub SurveysAll : Type 0
SurveysAll =
    (log : List ℕ) (e : Extent) (s k : ℕ) → Walkable log s k
    → Surveys log e (started (record { at = s; len = sector_count log }) k) (report_of log e s k)
