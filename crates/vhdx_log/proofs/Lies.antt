-- Of sectors one behind the other, one lies in the first MiB or in the log exactly when the whole range does.
-- Assumes nothing.
use mathlib.Core.Path.{◌≡◌, refl, sym, ap, ◌∙◌}
use mathlib.Core.Bool.{Bool, true, false, ◌||◌, or_assoc}
use mathlib.Core.List.{List, [], ◌∷◌, ◌++◌}
use Prim.Native.Nat.{ℕ, zero, suc, ◌+◌, ◌*◌}
use native.Mathlib.Omega.{arith}
use Rattle.extent.specs.declared.Extent.{Extent}
use Rattle.extent.specs.Extent.{mib, shares}
use Rattle.extent.proofs.Laws.{shares-split}
use Rattle.vhdx_walk.specs.Entries.{Sector, sectors_at}
use Rattle.vhdx_log.specs.Work.{lies, some_lies}

mixed : (a b c d : Bool) → ((a || b) || (c || d)) ≡ ((a || c) || (b || d))
mixed true b c d = refl
mixed false true true d = refl
mixed false true false d = refl
mixed false false c d = refl

lies-split : (log : Extent) (a m k : ℕ) → (lies log a m || lies log (a + m) k) ≡ lies log a (m + k)
lies-split log a m k =
    mixed (shares a m 0 mib) (shares a m log.offset log.length) (shares (a + m) k 0 mib) (shares (a + m) k log.offset log.length)
    ∙ rw (shares-split a m k 0 mib, shares-split a m k log.offset log.length)

pub lies_whole : (log : Extent) (k offset : ℕ) (bytes : List ℕ) → some_lies log (sectors_at k offset bytes) ≡ lies log offset (k * 4096)
unfolding sectors_at
lies_whole log zero offset bytes = refl
lies_whole log (suc k) offset bytes =
    ap (λ (t : Bool). lies log offset 4096 || t) (lies_whole log k (offset + 4096) bytes)
    ∙ lies-split log offset 4096 (k * 4096)
    ∙ ap (lies log offset) {x = 4096 + k * 4096} {y = suc k * 4096} (omega arith)

pub lies-append : (log : Extent) (a b : List Sector) → some_lies log (a ++ b) ≡ (some_lies log a || some_lies log b)
lies-append log [] b = refl
lies-append log (s ∷ a) b = ap (λ (t : Bool). lies log s.offset 4096 || t) (lies-append log a b) ∙ sym (or_assoc (lies log s.offset 4096) (some_lies log a) (some_lies log b))
