-- `vhdx_facts::geometry::sectors` meets its contract: a sector has 512 or 4,096 bytes.
use mathlib.Core.Path.{sym, ap}
use Prim.Native.Nat.{ℕ, ◌/◌}
use Rattle.vhdx_facts.proofs.Laws.{sizes, sector-size-else}
use Rattle.vhdx_facts.proofs.geometry.sectors.Goals as goal

pub returns-else-facts-eq512 : goal.returns-else-facts-eq512
returns-else-facts-eq512 c =
    let f = c.args.facts in
    ap (λ (l : ℕ). f.disk_size / l) (sym (sector-size-else f.logical_sector_size (sizes f c.requires).sector_kept c.if-facts-eq512.false))
