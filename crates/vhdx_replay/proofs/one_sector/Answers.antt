-- `vhdx_replay::one_sector` meets its contract: no such sector, one that ends past the given length, or one that is written.
use Rattle.std.proofs.Common.{◌≡◌, sym, ap, ◌∙◌, Result, Some, None, Err, rules}
use Rattle.decision.specs.declared.Refusal.{Refusal}
use Rattle.decision.specs.declared.Refusal.TheVariants.{NoSuchStep}
use Rattle.decision.specs.Refusal.{refusal_of, outcome}
use Rattle.vhdx_replay.proofs.Applying.{inside}
use Rattle.vhdx_replay.proofs.Chosen.{nth-ready, no-sector, past_the_end, written, fits, held}
use Rattle.vhdx_replay.proofs.one_sector.Goals as goal

pub part-requires : goal.part-requires
part-requires c =
    inside c.args.buffer.now c.args.length c.args.log c.args.work c.requires

pub nth-requires : goal.nth-requires
nth-requires c =
    nth-ready c.args.buffer.now c.args.length c.args.log c.args.work c.requires c.args.i
    c.part.result.now c.part.ensures.bytes c.from.result c.from.ensures

pub write-requires : goal.write-requires
write-requires c =
    let yes = sym c.if-is_inside.true ∙ c.is_inside.ensures in
    let here : c.nth.result ≡ Some c.in_ok-s.s = search rules in (
      inside c.args.buffer.now c.args.length c.args.log c.args.work c.requires,
      fits c.args.buffer.now c.args.length c.args.log c.args.work c.requires c.args.i c.part.result.now c.part.ensures.bytes
          c.from.result c.from.ensures c.nth.result c.nth.ensures.next _ here yes,
      held c.args.buffer.now c.args.length c.args.log c.args.work c.requires c.args.i c.part.result.now c.part.ensures.bytes
          c.from.result c.from.ensures c.nth.result c.nth.ensures.next _ here c.nth.ensures.held,
    )

pub returns-in_err-s : goal.returns-in_err-s
returns-in_err-s c =
    let none : c.nth.result ≡ None = search rules in
    let same : c.from_residual.result ≡ Err NoSuchStep = search rules in
    let parts = no-sector c.args.buffer.now c.args.length c.args.log c.args.work c.requires c.args.i c.part.result.now c.part.ensures.bytes
    c.from.result c.from.ensures c.nth.result c.nth.ensures.next none in
    record { value = ap (λ (r : Result (Unit {0}) Refusal). refusal_of (outcome r)) same ∙ parts.0; buffer_after = parts.1 }

pub returns-then-is_inside : goal.returns-then-is_inside
returns-then-is_inside c =
    let here : c.nth.result ≡ Some c.in_ok-s.s = search rules in
    let parts = written c.args.buffer.now c.args.length c.args.log c.args.work c.requires c.args.i c.part.result.now c.part.ensures.bytes
    c.from.result c.from.ensures c.nth.result c.nth.ensures.next _ here (sym c.if-is_inside.true ∙ c.is_inside.ensures)
    c.write.new.buffer c.write.ensures in
    record { value = parts.0; buffer_after = parts.1 }

pub returns-else-is_inside : goal.returns-else-is_inside
returns-else-is_inside c =
    let here : c.nth.result ≡ Some c.in_ok-s.s = search rules in
    let parts = past_the_end c.args.buffer.now c.args.length c.args.log c.args.work c.requires c.args.i c.part.result.now c.part.ensures.bytes
    c.from.result c.from.ensures c.nth.result c.nth.ensures.next _ here (sym c.if-is_inside.false ∙ c.is_inside.ensures) in
    record { value = parts.0; buffer_after = parts.1 }
