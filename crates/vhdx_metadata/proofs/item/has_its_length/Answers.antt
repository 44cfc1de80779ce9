-- `vhdx_metadata::item::has_its_length` meets its contract.
use Rattle.std.proofs.Common.{rules, ◌≡◌, ℕ, Bool, nat_eq, Option, None, Some, MatchOption, IsTrue}
use Rattle.vhdx_metadata.specs.Items.{is_length}
use Rattle.vhdx_metadata.proofs.item.has_its_length.Goals as goal

at : {P : ℕ → Type 0} (l : Option ℕ) (n : ℕ) (t : Bool) → MatchOption l (IsTrue t) P → ((m : ℕ) → P m → t ≡ nat_eq n m) → t ≡ is_length l n
at None n t m f = m
at (Some k) n t m f = f k m

pub returns : goal.returns
returns c =
    at _ c.args.length c.is_none_or.result (rw c.length.ensures at c.is_none_or.ensures) (λ m p. search rules)
