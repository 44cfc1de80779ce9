-- The write of one sector, by where its bytes are.
-- Assumes nothing.
use mathlib.Core.Path.{◌≡◌, sym, ap, subst, ◌∙◌}
use mathlib.Core.List.{List}
use Prim.Native.Nat.{ℕ, ◌+◌, ◌-◌, ◌≤◌}
use native.Mathlib.Omega.{arith}
use lib.ListN.{length, take, drop, replicate}
use Rattle.vhdx_walk.specs.Entries.{zero_sector}
use Rattle.vhdx_walk.specs.Bytes.{sector_bytes}
use Rattle.vhdx_walk.specs.Cursor.{bytes_of, Held}
use Rattle.vhdx_walk.specs.declared.run.Source.{Source}
use Rattle.vhdx_walk.specs.declared.run.Source.TheVariants.{Zeros, Data}
use Rattle.vhdx_steps.specs.Buffer.{put, zeroed}

pub zeros-written : (b log : List ℕ) (at : ℕ) (source : Source) → source ≡ Zeros → zeroed b at (at + 4096) ≡ put b at (bytes_of log source)
unfolding zero_sector
zeros-written b log at source e =
    ap (λ (n : ℕ). put b at (replicate n 0)) {x = at + 4096 - at} {y = 4096} (omega arith) ∙ ap (λ (x : Source). put b at (bytes_of log x)) (sym e)

pub data-held : (l log : List ℕ) (source : Source) (d s : ℕ) → Held log source → source ≡ Data d s → l ≡ log → (d + 32 ≤ length l) × (s + 4096 ≤ length l)
data-held l log source d s h e p =
    let k : Held log (Data d s) = subst (λ (x : Source). Held log x) e h in
    subst (λ (x : List ℕ). (d + 32 ≤ length x) × (s + 4096 ≤ length x)) (sym p) k

pub data-written : (b l log bytes : List ℕ) (at : ℕ) (source : Source) (d s : ℕ) → source ≡ Data d s → l ≡ log
    → bytes ≡ sector_bytes (take 32 (drop d l)) (take 4096 (drop s l)) → put b at bytes ≡ put b at (bytes_of log source)
data-written b l log bytes at source d s e p q =
    ap (put b at) (q ∙ ap (λ (x : List ℕ). bytes_of x (Data d s)) p ∙ ap (bytes_of log) (sym e))
