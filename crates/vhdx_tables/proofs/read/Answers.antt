-- `vhdx_tables::read` meets its contract: where the regions are placed serves the metadata, and the locator lies inside that region.
use Rattle.std.proofs.Common.{rules, ◌∙◌, sym, ap, ◌%◌, arith}
use Rattle.extent.specs.Extent.{mib}
use Rattle.vhdx_region.proofs.Laws.{placed}
use Rattle.vhdx_tables.proofs.Locator.{inside_region, facts_in_image}
use Rattle.vhdx_tables.specs.Tables.{with_regions, tables}
use Rattle.vhdx_tables.proofs.read.Goals as goal

pub returns-in_err-regions : goal.returns-in_err-regions
unfolding tables
returns-in_err-regions c = search rules

pub part-requires : goal.part-requires
part-requires c = (placed c.args.image.now c.args.log (sym c.in_ok-regions.ensures)).metadata_placed.inside

pub read-requires-2 : goal.read-requires-2
read-requires-2 c =
    ap (λ n. n % mib) c.part.ensures.len ∙ (placed c.args.image.now c.args.log (sym c.in_ok-regions.ensures)).metadata_placed.length_whole

pub returns-in_err-items : goal.returns-in_err-items
unfolding tables with_regions
returns-in_err-items c = search rules

pub facts-requires : goal.facts-requires
facts-requires c =
    let p = (placed c.args.image.now c.args.log (sym c.in_ok-regions.ensures)).metadata_placed.inside in
    let h = inside_region c.part.result.now _ c.part.ensures.len (sym c.in_ok-items.ensures) in
    omega (arith, p, h, c.well_formed)

pub judge-requires : goal.judge-requires
judge-requires c =
    let p = (placed c.args.image.now c.args.log (sym c.in_ok-regions.ensures)).metadata_placed.inside in
    let h = inside_region c.part.result.now _ c.part.ensures.len (sym c.in_ok-items.ensures) in
    facts_in_image c.in_ok-regions.regions c.in_ok-items.items c.facts.ensures h p

pub returns : goal.returns
unfolding tables with_regions
returns c = search rules
