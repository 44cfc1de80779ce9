-- `vhdx_log::with_log` meets its contract: a found sequence can be walked.
use Rattle.std.proofs.Common.{◌≡◌, subst, ap, Option, None, Some, Err, length, arith, rules}
use Rattle.decision.specs.declared.Refusal.TheVariants.{NoLogSequence}
use Rattle.extent.specs.declared.Extent.{Extent}
use Rattle.vhdx_sequence.specs.declared.Sequence.{Sequence}
use Rattle.vhdx_sequence.specs.Sequence.{active_sequence}
use Rattle.vhdx_sequence.proofs.Laws.{found}
use Rattle.vhdx_walk.proofs.Chains.{walkable}
use Rattle.vhdx_log.specs.Plan.{plan_sequence}
use Rattle.vhdx_log.specs.Answers.{Stands}
use Rattle.vhdx_log.proofs.Answering.{refusal}
use Rattle.vhdx_log.proofs.with_log.Goals as goal

pub sequence-requires : goal.sequence-requires
sequence-requires c =
    let log = c.args.log.now in
    let q = c.in_ok-found.found in
    let is : active_sequence log c.args.guid ≡ Some q = search rules in
    let f = found log c.args.guid q (omega arith) is in
    walkable log c.args.guid q.start q.more (omega arith) c.requires.1 f.0 f.1 f.2

pub returns-in_err-found : goal.returns-in_err-found
unfolding plan_sequence
returns-in_err-found c =
    let log = c.args.log.now in
    let e : Extent = record { offset = c.args.log_offset; length = length log } in
    let none : None ≡ active_sequence log c.args.guid = search rules in
    let same : c.from_residual.result ≡ Err NoLogSequence = search rules in
    rw same (refusal log NoLogSequence (plan_sequence e log c.args.length c.args.capacity (active_sequence log c.args.guid))
    (ap (plan_sequence e log c.args.length c.args.capacity) none))

pub returns : goal.returns
unfolding plan_sequence
returns c =
    let log = c.args.log.now in
    let e : Extent = record { offset = c.args.log_offset; length = length log } in
    let is : Some c.in_ok-found.found ≡ active_sequence log c.args.guid = search rules in
    subst (λ (q : Option Sequence). Stands log c.sequence.result (plan_sequence e log c.args.length c.args.capacity q)) is c.sequence.ensures
