-- `vhdx_walk::run::of_data` meets its contract: descriptor and data sector are read off the log where they stand.
use mathlib.Core.Path.{◌≡◌, refl, ap, ◌∙◌}
use Prim.Native.Nat.{ℕ, ◌+◌, ◌*◌}
use native.Mathlib.Omega.{arith}
use lib.ListN.{take, drop}
use Rattle.vhdx_entry.specs.Ring.{ring, sector_at, offset_in}
use Rattle.vhdx_entry.specs.Entry.{descriptor, descriptor_sectors, descriptor_count, file_offset, data_sector}
use Rattle.vhdx_entry.proofs.Laws.{ring-bytes}
use Rattle.vhdx_walk.proofs.Parts.{writes-same}
use Rattle.vhdx_walk.proofs.run.of_data.Goals as goal

pub returns : goal.returns
unfolding descriptor sector_at
returns c = let a = c.args in
    let log = a.log.now in
    let k = descriptor_sectors (descriptor_count (ring log a.pos.at)) + a.rank in
    let front : c.sectors.result ≡ descriptor_sectors (descriptor_count (ring log a.pos.at)) = c.sectors.ensures ∙ ap descriptor_sectors c.requires.1 in
    let d : take 32 (drop c.offset-place.result log) ≡ descriptor (ring log a.pos.at) a.index =
    ap (λ (n : ℕ). take 32 (drop n log)) c.offset-place.ensures.value ∙ ring-bytes log a.pos (64 + 32 * a.index) 32 c.requires.0 (omega arith) (omega arith) in
    let e : take 4096 (drop c.offset-sector.result log) ≡ data_sector (ring log a.pos.at) a.rank =
    ap (λ (n : ℕ). take 4096 (drop n log)) (c.offset-sector.ensures.value ∙ ap (λ (n : ℕ). offset_in a.pos ((n + a.rank) * 4096)) front)
    ∙ ring-bytes log a.pos (k * 4096) 4096 c.requires.0 (omega (arith, ap descriptor_sectors c.requires.1)) (omega arith) in record { descriptor = writes-same (c.file_offset.ensures ∙ ap file_offset c.at.ensures) d e; proper = (refl, (omega (arith, c.offset-place.ensures.sector_fits), omega (arith, c.offset-sector.ensures.sector_fits))) }
