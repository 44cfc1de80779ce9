-- `vhdx_close::decide` meets its contract.
use Rattle.std.proofs.Common.{◌≡◌, refl, sym, subst, ◌∙◌, Err, rules}
use Rattle.vhdx_replay.proofs.Applying.{extent-is, plan-is}
use Rattle.vhdx_replay.proofs.Done.{plan-refused, work-planned}
use Rattle.vhdx_close.specs.Deciding.{Decided}
use Rattle.vhdx_close.proofs.Doing.{no_header, no-plan, too-great}
use Rattle.vhdx_close.proofs.decide.Goals as goal

pub returns-in_err-header : goal.returns-in_err-header
returns-in_err-header c =
    let a = c.args in
    let same : c.from_residual.result ≡ Err c.in_err-header.field-0.0 = search rules in
    subst (Decided a.buffer.now a.length) (sym same) (λ identifier. no_header identifier a.buffer.now a.length (sym c.in_err-header.was ∙ c.read.ensures))

pub returns-in_err-work : goal.returns-in_err-work
returns-in_err-work c =
    let a = c.args in
    let same : c.from_residual-in_err-work.result ≡ Err c.in_err-work.field-0.0 = search rules in
    let p = plan-refused a.buffer.now a.length c.plan.result (c.plan.ensures.planned, (c.plan.ensures.counted, c.plan.ensures.ready)) c.in_err-work.was in
    subst (Decided a.buffer.now a.length) (sym same) (λ identifier. no-plan identifier a.buffer.now a.length _ (sym c.read.ensures ∙ c.in_ok-header.was) p)

pub returns-in_err-rewrites : goal.returns-in_err-rewrites
returns-in_err-rewrites c =
    let a = c.args in
    let current = sym c.read.ensures ∙ c.in_ok-header.was in
    let same : c.from_residual-in_err-rewrites.result ≡ Err c.in_err-rewrites.field-0.0 = search rules in
    let p = work-planned a.buffer.now a.length c.plan.result (c.plan.ensures.planned, (c.plan.ensures.counted, c.plan.ensures.ready)) c.in_ok-work.was (sym (extent-is a.buffer.now a.length current)) in
    subst (Decided a.buffer.now a.length) (sym same)
    (λ identifier. too-great identifier a.buffer.now a.length _ current (plan-is a.buffer.now a.length _ _ p) (sym c.in_err-rewrites.was ∙ c.rewrites.ensures))

pub returns : goal.returns
returns c =
    let a = c.args in
    let current = sym c.read.ensures ∙ c.in_ok-header.was in
    record {
      header = c.in_ok-header.header;
      current = current;
      slot_is = refl;
      planned = work-planned a.buffer.now a.length c.plan.result (c.plan.ensures.planned, (c.plan.ensures.counted, c.plan.ensures.ready)) c.in_ok-work.was (sym (extent-is a.buffer.now a.length current));
      ends = sym c.rewrites.ensures ∙ c.in_ok-rewrites.was;
    }
