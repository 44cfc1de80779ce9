-- What a sequence's descriptors say together, as 64-bit numbers: a number above the greatest of them stands as that one.
-- Assumes nothing.
use Rattle.std.specs.Prelude.{cond, ◌||◌, List, ℕ, ◌+◌, ◌/◌, min, max, nat_eq, length}
use Rattle.extent.specs.declared.Extent.{Extent}
use Rattle.vhdx_entry.specs.Ring.{log_sector_size}
use Rattle.vhdx_walk.specs.Entries.{Descriptor, sectors, furthest}
use Rattle.vhdx_log.specs.declared.survey.Survey.{Survey}
use Rattle.vhdx_log.specs.Work.{lies, some_lies}

abbrev pub capped : ℕ → ℕ
capped n = min n 18446744073709551615

-- of all descriptors
abbrev pub survey_of : Extent → List Descriptor → Survey
survey_of log ds = record { lies = some_lies log (sectors ds); end = capped (furthest ds); count = capped (length (sectors ds)) }

-- a survey with the n bytes at an offset that are whole sectors
abbrev pub added : Extent → Survey → ℕ → ℕ → Survey
added log s offset n =
    record {
      lies = s.lies || lies log offset n;
      end = max s.end (cond (nat_eq n 0) 0 (capped (offset + n)));
      count = capped (s.count + n / log_sector_size);
    }
