-- `vhdx_entry::body::size` meets its contract.
use mathlib.Core.Path.{ap, ◌∙◌}
use native.Mathlib.Omega.{arith}
use Rattle.vhdx_entry.specs.Ring.{ring}
use Rattle.vhdx_entry.specs.Entry.{descriptor_sectors}
use Rattle.vhdx_entry.proofs.Laws.{length-ring}
use Rattle.vhdx_entry.proofs.Clauses.{too_many, descriptor-broken, data-fit, data-too-long}
use Rattle.vhdx_entry.proofs.body.size.Goals as goal

pub returns-then-pos-front : goal.returns-then-pos-front
returns-then-pos-front c =
    let a = c.args in
    let pre = c.requires in
    let long = length-ring a.log.now a.pos.len a.pos.at pre.0.1 pre.0.0 ∙ pre.0.1 in
    too_many (ring a.log.now a.pos.at) long (omega (arith, c.sectors-front.ensures ∙ ap descriptor_sectors pre.2))

pub returns-in_err-data : goal.returns-in_err-data
returns-in_err-data c =
    c.from_residual.ensures ∙ descriptor-broken (ring c.args.log.now c.args.pos.at) c.requires.2 c.requires.1 c.data_descriptors.result c.data_descriptors.ensures c.in_err-data.was

pub returns-then-data-pos : goal.returns-then-data-pos
returns-then-data-pos c =
    let a = c.args in
    let on = c.requires.0 in
    let long = length-ring a.log.now a.pos.len a.pos.at on.1 on.0 ∙ on.1 in
    data-fit (ring a.log.now a.pos.at) c.requires.2 c.requires.1 c.data_descriptors.result c.data_descriptors.ensures c.in_ok-data.was long
    c.sectors-front.ensures (omega arith)

pub returns-else-data-pos : goal.returns-else-data-pos
returns-else-data-pos c =
    let a = c.args in
    let on = c.requires.0 in
    let long = length-ring a.log.now a.pos.len a.pos.at on.1 on.0 ∙ on.1 in
    data-too-long (ring a.log.now a.pos.at) c.requires.2 c.requires.1 c.data_descriptors.result c.data_descriptors.ensures c.in_ok-data.was long
    c.sectors-front.ensures (omega arith)
