-- `vhdx_map::sector::into_block` meets its contract: what the whole blocks before it leave.
use mathlib.Core.Path.{sym, ap, ◌∙◌}
use Prim.Native.Nat.{ℕ, ◌-◌, ◌*◌}
use native.Mathlib.Nat.{div-mul-le_self, mod-eq-sub-div-mul}
use native.Mathlib.Omega.{arith}
use Rattle.vhdx_map.specs.Lookup.{block_of, into_block}
use Rattle.vhdx_map.proofs.Laws.{start_small}
use Rattle.vhdx_map.proofs.sector.into_block.Goals as goal

pub overflow_mul-result : goal.overflow_mul-result
overflow_mul-result c = record { fits = start_small c.args.facts c.args.sector c.requires.0 c.requires.1 }

pub overflow_mul-result-2 : goal.overflow_mul-result-2
unfolding block_of
overflow_mul-result-2 c =
    let f = c.args.facts in
    let at = c.args.sector * f.logical_sector_size in
    let product = ap (λ (b : ℕ). b * f.block_size) c.block.ensures in
    record { fits = omega (arith, product, div-mul-le_self at f.block_size, start_small f c.args.sector c.requires.0 c.requires.1) }

pub overflow_sub-result : goal.overflow_sub-result
unfolding block_of
overflow_sub-result c =
    let f = c.args.facts in
    let product = ap (λ (b : ℕ). b * f.block_size) c.block.ensures in
    omega (arith, product, div-mul-le_self (c.args.sector * f.logical_sector_size) f.block_size)

pub returns : goal.returns
unfolding block_of into_block
returns c =
    let a = c.args in
    let at = a.sector * a.facts.logical_sector_size in
    ap (λ (b : ℕ). at - b * a.facts.block_size) c.block.ensures ∙ sym (mod-eq-sub-div-mul at a.facts.block_size)
