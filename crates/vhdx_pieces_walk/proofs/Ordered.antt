-- a ≤ b ≤ c, tested one after the other.
-- Assumes nothing.
use mathlib.Core.Path.{◌≡◌}
use mathlib.Core.Bool.{true, false, ◌&&◌, and-false}
use Prim.Native.Nat.{ℕ, ◌≤◌, ◌<◌}
use lib.Dec.{leb}
use borrow.Author.Tests.{le-leb, lt-leb}

pub both_le : (a b c : ℕ) → a ≤ b → b ≤ c → (leb a b && leb b c) ≡ true
both_le a b c h k = rw (le-leb a b h, le-leb b c k)

pub first_above : (a b c : ℕ) → b < a → (leb a b && leb b c) ≡ false
first_above a b c h = rw (lt-leb a b h)

pub second_above : (a b c : ℕ) → c < b → (leb a b && leb b c) ≡ false
second_above a b c h = rw (lt-leb b c h) (and-false (leb a b))
