-- `vhdx_facts::geometry::chunks` meets its contract: rounded up once from sectors is rounded up twice, to blocks and to chunks.
use mathlib.Core.Path.{◌≡◌, sym, ap, ◌∙◌}
use Prim.Native.Nat.{ℕ, ◌^◌}
use native.Mathlib.Omega.{arith}
use Rattle.vhdx_facts.specs.Geometry.{rounded_up}
use Rattle.vhdx_facts.proofs.Chunks.{chunks-of-sectors}
use Rattle.vhdx_facts.proofs.geometry.chunks.Goals as goal

pub returns : goal.returns
returns c =
    let once : c.div_ceil.result ≡ rounded_up c.sectors.result (2 ^ 23) = omega (arith, c.div_ceil.ensures) in
    once ∙ ap (λ (q : ℕ). rounded_up q (2 ^ 23)) c.sectors.ensures ∙ sym (chunks-of-sectors c.args.facts c.requires)
