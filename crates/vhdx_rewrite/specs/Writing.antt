-- The write of that header into a buffer.
-- Assumes nothing.
use Rattle.std.specs.Prelude.{List, ◌⊎◌, ◌≡◌, ℕ, ◌≤◌, ◌<◌, length}
use Rattle.extent.specs.Extent.{mib}
use Rattle.vhdx_header.specs.Header.{sequence_number_of}
use Rattle.vhdx_header.specs.Current.{slot1, slot2, header_at, first_mib, other_slot}
use Rattle.vhdx_steps.specs.Buffer.{put}
use Rattle.vhdx_rewrite.specs.Rewrite.{greatest, closed_header}

-- a header that stands in one of the slots of a buffer, whose sequence number can be raised
pub record Closable (buffer : List ℕ) (slot : ℕ) : Type 0 where
  pub large : mib ≤ length buffer
  pub placed : (slot ≡ slot1) ⊎ (slot ≡ slot2)
  pub below : sequence_number_of (header_at (first_mib buffer) slot) < greatest

-- the buffer with the header in the other slot rewritten
unfoldable pub header_written : List ℕ → ℕ → List ℕ → List ℕ
header_written buffer slot identifier = put buffer (other_slot slot) (closed_header (header_at (first_mib buffer) slot) identifier)
