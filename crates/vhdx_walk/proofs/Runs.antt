-- A proper run is a descriptor: its sectors stand one behind the other, and end where the run does.
-- Assumes nothing.
use mathlib.Core.Path.{◌≡◌, refl, sym, ap}
use mathlib.Core.Bool.{cond}
use mathlib.Core.List.{List}
use Prim.Native.Nat.{ℕ, zero, suc, ◌+◌, ◌/◌, ◌%◌}
use native.Mathlib.Omega.{arith}
use lib.Dec.{eqb}
use lib.ListN.{length}
use Rattle.vhdx_walk.specs.declared.run.Source.{Source}
use Rattle.vhdx_walk.specs.declared.run.Source.TheVariants.{Zeros, Data}
use Rattle.vhdx_walk.specs.declared.run.Run.{Run}
use Rattle.vhdx_walk.specs.Entries.{sectors_at, sectors_of, end}
use Rattle.vhdx_walk.specs.Cursor.{bytes_of, descriptor_by, descriptor_in, ProperBy, Proper}

sectors-by : (log : List ℕ) (source : Source) (offset n : ℕ) → ProperBy log source n → sectors_of (descriptor_by log source offset n) ≡ sectors_at (n / 4096) offset (bytes_of log source)
sectors-by log Zeros offset n p = refl
sectors-by log (Data d s) offset n p = ap (λ (k : ℕ). sectors_at k offset (bytes_of log (Data d s))) {x = 1} {y = n / 4096} (omega arith)

end_by : (log : List ℕ) (source : Source) (offset n : ℕ) → ProperBy log source n → end (descriptor_by log source offset n) ≡ cond (eqb n 0) 0 (offset + n)
end_by log Zeros offset n p = refl
end_by log (Data d s) offset n p = sym (ap (λ (k : ℕ). cond (eqb k 0) 0 (offset + k)) p.0)

-- whole sectors, whatever their bytes
whole_by : (log : List ℕ) (source : Source) (n : ℕ) → ProperBy log source n → n % 4096 ≡ 0
whole_by log Zeros n p = p
whole_by log (Data d s) n p = omega arith

module _ (log : List ℕ) (run : Run) (proper : Proper log run) where
  pub run-sectors : sectors_of (descriptor_in log run) ≡ sectors_at (run.length / 4096) run.offset (bytes_of log run.source)
  run-sectors = sectors-by log run.source run.offset run.length proper

  pub run_end : end (descriptor_in log run) ≡ cond (eqb run.length 0) 0 (run.offset + run.length)
  run_end = end_by log run.source run.offset run.length proper

  pub run-whole : run.length % 4096 ≡ 0
  run-whole = whole_by log run.source run.length proper

-- ---- sectors one behind the other

pub length-sectors : (k offset : ℕ) (bytes : List ℕ) → length (sectors_at k offset bytes) ≡ k
unfolding sectors_at
length-sectors zero offset bytes = refl
length-sectors (suc k) offset bytes = ap suc (length-sectors k (offset + 4096) bytes)
