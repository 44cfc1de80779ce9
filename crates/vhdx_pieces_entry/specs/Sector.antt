-- The descriptors that stand in one sector of an entry.
-- Assumes nothing.
use Rattle.std.specs.Prelude.{Bool, cond, List, ℕ, zero, suc, ◌+◌, ◌*◌, take, drop}
use Rattle.decision.specs.Bounded.{every}
use Rattle.vhdx_entry.specs.Entry.{descriptor_rule, is_data_descriptor, zero_length}

-- descriptor i of those that begin at byte `from` of a sector
unfoldable pub descriptor_in : List ℕ → ℕ → ℕ → List ℕ
descriptor_in s from i = take 32 (drop (from + 32 * i) s)

-- the first m of them keep their rule
unfoldable pub passes : ℕ → List ℕ → ℕ → ℕ → Bool
passes number s from m = every m (λ i. descriptor_rule number (descriptor_in s from i))

-- how many of the first m are data descriptors
unfoldable pub data_in : List ℕ → ℕ → ℕ → ℕ
data_in s from zero = 0
data_in s from (suc m) = data_in s from m + cond (is_data_descriptor (descriptor_in s from m)) 1 0

-- how many bytes a descriptor names
abbrev pub length_in : List ℕ → ℕ
length_in d = cond (is_data_descriptor d) 4096 (zero_length d)
