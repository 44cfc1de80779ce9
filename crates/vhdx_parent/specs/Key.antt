-- Where the value of a parent locator's key lies in the image (document 01, "What the gate does": "Parent key"). A key is its bytes,
-- compared byte for byte. The image is the first n bytes of the buffer.
-- Assumes nothing.
use Rattle.std.specs.Prelude.{false, cond, ◌&&◌, List, ◌⊎◌, ◌↔◌, ◌≡◌, ℕ, ◌+◌, nat_lt, length, take, None}
use Rattle.extent.specs.declared.Extent.{Extent}
use Rattle.extent.specs.Extent.{nowhere, part}
use Rattle.vhdx_facts.specs.declared.Facts.{Facts}
use Rattle.vhdx_locator.specs.Locator.{locator_rule, entry_of, value_of}
use Rattle.vhdx_fit.specs.Fit.{fits}

-- a part e of what starts at an offset, told from the image's start. Nothing, of length 0, is nowhere: every value has a byte
abbrev pub within : ℕ → Extent → Extent
within offset e = cond (nat_lt 0 e.length) (record { offset = offset + e.offset; length = e.length }) nowhere

-- "an empty part exactly when .. the locator found there breaks its rule, or no entry has that key"
unfoldable pub in_locator : Facts → List ℕ → List ℕ → Extent
in_locator f image key = within f.locator.offset (value_of (part image f.locator) key)

-- ".. exactly when refusal 16 applies, there is no parent, ..". The empty part is the empty beginning of the image
unfoldable pub key_extent : Facts → List ℕ → ℕ → List ℕ → Extent
key_extent f buffer n key = cond (fits (length buffer) n f && f.has_parent) (in_locator f (take n buffer) key) nowhere

-- "an empty part exactly when refusal 16 applies, there is no parent, the locator found there breaks its rule, or no entry has that
-- key"
abbrev pub NoValue : Facts → List ℕ → ℕ → List ℕ → Type 0
NoValue f buffer n key =
    let item = part (take n buffer) f.locator in
    (fits (length buffer) n f ≡ false) ⊎ ((f.has_parent ≡ false) ⊎ ((locator_rule item ≡ false) ⊎ (entry_of item key ≡ None)))

-- the theorem, proved in proofs/Empty.antt
abbrev pub EmptyExactlyThen : Type 0
EmptyExactlyThen = (f : Facts) (buffer : List ℕ) (n : ℕ) (key : List ℕ) → ((key_extent f buffer n key).length ≡ 0) ↔ NoValue f buffer n key
