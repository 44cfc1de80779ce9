-- Histories of closing: what every event keeps of a file, the whole history keeps, of the file as it was flushed last too; and a list of
-- calls is a history.
-- Assumes nothing.
use mathlib.Core.List.{List}
use Prim.Native.Nat.{ℕ, zero}
use Rattle.vhdx_steps.specs.Steps.{File}
use Rattle.vhdx_steps.specs.Failures.{Reopened}
use Rattle.vhdx_close_steps.specs.Calls.{Call, Calls, none, then}
use Rattle.vhdx_close_steps.specs.Failures.{Failed, History, original, called, lost, reopened, flushed, failed}

-- kept n f: of the file f, where step n is next in order
module _ (identifier : List ℕ) (o : File) (kept : ℕ → File → Type 0)
    (by_call : (n n' : ℕ) (f g : File) → kept n f → Call identifier n f n' g → kept n' g)
    (by-loss : (n : ℕ) (f g : File) → kept n f → Failed identifier f g → kept zero g)
    (by-reopening : (n : ℕ) (f g : File) → kept n f → Reopened f g → kept n g)
    (from-the-start : (n : ℕ) (f : File) → kept n f → kept zero f)
    (first : kept zero o) where
  pub throughout : {n : ℕ} {d f : File} → History identifier o d n f → kept zero d × kept n f
  throughout original = (first, first)
  throughout (called {f = f} {g = g} {e = n} {e' = n'} x y) = let k = throughout x in (k.0, by_call n n' f g k.1 y)
  throughout (lost {f = f} {g = g} {e = n} x y) = let k = throughout x in (k.0, by-loss n f g k.1 y)
  throughout (reopened {f = f} {g = g} {e = n} x y) = let k = throughout x in (k.0, by-reopening n f g k.1 y)
  throughout {n} {f = f} (flushed x) = let k = throughout x in (from-the-start n f k.1, k.1)
  throughout (failed {d = d} {g = g} x y) = let k = by-loss zero d g (throughout x).0 y in (k, k)

pub as-history : {identifier : List ℕ} {n : ℕ} {o d f g : File} → History identifier o d n f → Calls identifier n f g → (n' : ℕ) × History identifier o d n' g
as-history {n = n} x none = (n, x)
as-history x (then c cs) = as-history (called x c) cs
