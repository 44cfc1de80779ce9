-- The entries of a log sequence, taken one by one from its first on.
-- Assumes nothing.
use Rattle.std.specs.Prelude.{true, List, ◌≡◌, ℕ, zero, suc, ◌+◌}
use Rattle.field.specs.declared.Guid.{Guid}
use Rattle.vhdx_entry.specs.Ring.{ring}
use Rattle.vhdx_entry.specs.Entry.{valid_entry, size, behind}

-- k + 1 valid entries from sector s on, each starting where the one before ended
unfoldable pub Linked : List ℕ → Guid → ℕ → ℕ → Type 0
Linked log guid s zero = valid_entry guid (ring log s) ≡ true
Linked log guid s (suc k) = (valid_entry guid (ring log s) ≡ true) × Linked log guid (behind log s) k

-- how many sectors they take
unfoldable pub total : List ℕ → ℕ → ℕ → ℕ
total log s zero = size (ring log s)
total log s (suc k) = size (ring log s) + total log (behind log s) k
