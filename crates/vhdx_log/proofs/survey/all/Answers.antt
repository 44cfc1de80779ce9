-- `vhdx_log::survey::all` meets its contract. The loop's invariant: what was found, with what is left, is the whole.
use mathlib.Core.Path.{◌≡◌, refl, sym, ap, subst, ◌∙◌}
use mathlib.Core.List.{[]}
use native.Mathlib.Omega.{arith}
use lib.ListN.{length}
use Rattle.extent.specs.declared.Extent.{Extent}
use Rattle.vhdx_walk.specs.Cursor.{descriptors_left, Onward}
use Rattle.vhdx_log.proofs.Surveys.{survey_from, survey-onward, surveyed}
use Rattle.vhdx_log.proofs.survey.all.Goals as goal

pub loop-found-init : goal.loop-found-init
loop-found-init c = (c.requires, refl)

pub next-requires : goal.next-requires
next-requires c = c.loop-found.invariant.0

pub returns-in-Done : goal.returns-in-Done
unfolding survey_from
returns-in-Done c =
    let log = c.args.log.now in
    let done : descriptors_left log c.loop-found.rest ≡ [] = subst (Onward log c.loop-found.rest) c.in-Done.is c.next.ensures in
    let e : Extent = record { offset = c.args.log_offset; length = c.args.log_length } in
    ap (survey_from e c.loop-found.found) (sym done) ∙ c.loop-found.invariant.1 ∙ surveyed e (descriptors_left log c.args.cursor)

pub loop-found-smaller-in-Entry : goal.loop-found-smaller-in-Entry
loop-found-smaller-in-Entry c =
    let log = c.args.log.now in
    let o = subst (Onward log c.loop-found.rest) c.in-Entry.is c.next.ensures in
    omega (arith, o.2, ap length o.0)

pub loop-found-preserved-in-Entry : goal.loop-found-preserved-in-Entry
loop-found-preserved-in-Entry c =
    let log = c.args.log.now in
    let o = subst (Onward log c.loop-found.rest) c.in-Entry.is c.next.ensures in
    let e : Extent = record { offset = c.args.log_offset; length = c.args.log_length } in
    (o.1, ap (survey_from e c.loop-found.found) (sym o.0) ∙ c.loop-found.invariant.1)

pub loop-found-smaller : goal.loop-found-smaller
loop-found-smaller c =
    let log = c.args.log.now in
    let o = subst (Onward log c.loop-found.rest) c.in-Descriptor.is c.next.ensures in
    omega (arith, o.2, ap length o.0)

pub loop-found-preserved : goal.loop-found-preserved
loop-found-preserved c =
    let log = c.args.log.now in
    let o = subst (Onward log c.loop-found.rest) c.in-Descriptor.is c.next.ensures in
    let e : Extent = record { offset = c.args.log_offset; length = c.args.log_length } in (
      o.1,
      survey-onward log e c.loop-found.found c.add-found.result c.in-Descriptor.run' (descriptors_left log c.loop-found.rest) _ o.3 c.add-found.ensures o.0
          ∙ c.loop-found.invariant.1,
    )
