-- The entries of a table: identified, counted and found.
-- Assumes nothing.
use mathlib.Core.Path.{◌≡◌, ap, ◌∙◌}
use mathlib.Core.Bool.{Bool, true, and-eq-true_iff}
use mathlib.Core.List.{List}
use Rattle.std.specs.Prelude.{Some}
use Prim.Native.Nat.{ℕ, ◌≤◌, ◌<◌}
use native.Mathlib.Omega.{arith}
use lib.Dec.{eqb}
use lib.ListN.{length}
use borrow.Author.Tests.{eqb-true, leb-true}
use Rattle.decision.proofs.Laws.{first_holds}
use Rattle.field.specs.declared.Guid.{Guid}
use Rattle.field.specs.Fields.{starts, guid_at, number}
use Rattle.field.proofs.Laws.{number_at}
use Rattle.crc32c.specs.Crc.{crc, zeroed}
use Rattle.guid.specs.Stored.{identifier_in}
use Rattle.vhdx_region.specs.Region.{regi, checksum, entry_count, valid_table, entry, identifier, known_regions, entry_of}

-- the identifier of an entry, read in two halves
pub identified : (e : List ℕ) {g : Guid} → length e ≡ 32 → g ≡ guid_at e 0 → number g ≡ identifier e
identified e h p = ap number p ∙ number_at e 0 (omega arith)

-- a valid table has at most 2,047 entries
pub few : (t : List ℕ) → valid_table t ≡ true → entry_count t ≤ 2047
unfolding valid_table
few t h =
    let p = (and-eq-true_iff (starts t regi) _).0 h in
    let q = (and-eq-true_iff (eqb (checksum t) (crc (zeroed t 4))) _).0 p.1 in
    leb-true (entry_count t) 2047 q.1

-- ---- an entry that is found

-- entry i of a table has the identifier of a known region's row
abbrev pub is_of : List ℕ → ℕ → ℕ → Bool
is_of t row i = eqb (identifier_in known_regions row) (identifier (entry t i))

module _ (t : List ℕ) (row : ℕ) {i : ℕ} (e : entry_of t row ≡ Some i) where
  pub found-entry : (i < entry_count t) × (identifier_in known_regions row ≡ identifier (entry t i))
  unfolding entry_of
  found-entry =
      let h = first_holds (is_of t row) (entry_count t) e in
      (h.0, eqb-true (identifier_in known_regions row) (identifier (entry t i)) h.1)

  pub found_below : valid_table t ≡ true → i < 2047
  found_below v = omega (arith, found-entry.0, few t v)
