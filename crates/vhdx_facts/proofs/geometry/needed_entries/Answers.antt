-- `vhdx_facts::geometry::needed_entries` meets its contract: the bounds of both factors bound the product.
use Prim.Native.Nat.{◌≤◌, ◌^◌}
use native.Mathlib.Omega.{arith}
use Rattle.vhdx_facts.specs.Geometry.{needed_entries}
use Rattle.vhdx_facts.proofs.Laws.{counts, chunk-entries}
use Rattle.vhdx_facts.proofs.geometry.needed_entries.Goals as goal

pub overflow_add-result : goal.overflow_add-result
overflow_add-result c =
    record { fits = omega (arith, counts c.args.facts c.requires) }

pub overflow_mul-result : goal.overflow_mul-result
overflow_mul-result c =
    let n = counts c.args.facts c.requires in
    let chunks_most : c.chunks.result ≤ 2 ^ 26 = omega arith in
    let ratio_most : c.ratio.result ≤ 2 ^ 15 = omega arith in
    let e = chunk-entries chunks_most ratio_most in
    record { fits = omega arith }

pub returns : goal.returns
unfolding needed_entries
returns c = rw (c.ratio.ensures, c.chunks.ensures)
