-- `vhdx_log::plan` meets its contract.
use Rattle.std.proofs.Common.{◌≡◌, sym, ◌∙◌, Ok, Err, rules}
use Rattle.vhdx_log.proofs.Answering.{planned, refused_plan}
use Rattle.vhdx_log.proofs.plan.Goals as goal

pub with_header-requires : goal.with_header-requires
with_header-requires c = search rules

pub returns-in_err-header : goal.returns-in_err-header
returns-in_err-header c =
    let a = c.args in
    let same : c.from_residual.result ≡ Err c.in_err-header.field-0.0 = search rules in
    let was : c.read.result ≡ Err c.in_err-header.field-0.0 = search rules in
    let p = refused_plan a.buffer.now a.length _ (sym c.read.ensures ∙ was) c.from_residual.result same in
    record { planned = p.0; counted = p.1; ready = p.2 }

pub returns : goal.returns
returns c =
    let a = c.args in
    let was : c.read.result ≡ Ok c.in_ok-header.header = search rules in
    let p = planned a.buffer.now a.length _ (sym c.read.ensures ∙ was) c.with_header.result c.with_header.ensures in
    record { planned = p.0; counted = p.1; ready = p.2 }
