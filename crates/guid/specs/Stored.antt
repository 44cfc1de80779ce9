-- Identifiers as they are written, and as they are stored; tables of them.
-- An identifier is compared as the number of its 16 stored bytes.
-- Assumes nothing.
use Rattle.std.specs.Prelude.{List, [], ◌∷◌, ◌++◌, reverse, ℕ, zero, suc, ◌/◌, ◌%◌, nat_eq, length, get_or, Option}
use Rattle.decision.specs.Bounded.{first}
use Rattle.field.specs.Fields.{field}

-- a number in n bytes, lowest byte first
unfoldable pub lowest_first : ℕ → ℕ → List ℕ
lowest_first zero x = []
lowest_first (suc n) x = x % 256 ∷ lowest_first n (x / 256)

-- as it is written: highest byte first
unfoldable pub highest_first : ℕ → ℕ → List ℕ
highest_first n x = reverse (lowest_first n x)

-- the 16 bytes of an identifier that is written in five groups. Document 01: "The first three groups are stored reversed"
unfoldable pub stored : ℕ → ℕ → ℕ → ℕ → ℕ → List ℕ
stored a b c d e = lowest_first 4 a ++ (lowest_first 2 b ++ (lowest_first 2 c ++ (highest_first 2 d ++ highest_first 6 e)))

-- the identifier in a row of a table
unfoldable pub identifier_in : List (List ℕ) → ℕ → ℕ
identifier_in table k = field (get_or table k []) 0 16

-- the first row that holds an identifier
unfoldable pub row_of : List (List ℕ) → ℕ → Option ℕ
row_of table id = first (length table) (λ k. nat_eq (identifier_in table k) id)
