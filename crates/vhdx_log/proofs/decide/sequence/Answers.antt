-- `vhdx_log::decide::sequence` meets its contract: the survey and the head decide as the definition does.
use mathlib.Core.Path.{◌≡◌, sym, ◌∙◌}
use Prim.Native.Nat.{max}
use native.Mathlib.Omega.{arith}
use lib.ListN.{length}
use Rattle.decision.specs.declared.Refusal.TheVariants.{ShorterThanFlushed}
use Rattle.extent.specs.declared.Extent.{Extent}
use Rattle.vhdx_walk.specs.Bytes.{entries_from}
use Rattle.vhdx_walk.proofs.Chains.{head-says, on-first, more-readable, first-placed}
use Rattle.vhdx_log.specs.Work.{work}
use Rattle.vhdx_log.proofs.Decisions.{refused-6}
use Rattle.vhdx_log.proofs.Answering.{refusal, lies-inside, too_long, applies}
use Rattle.vhdx_log.proofs.decide.sequence.Goals as goal

pub head-requires : goal.head-requires
head-requires c =
    let a = c.args in (
      on-first a.log.now a.found.start a.found.more c.requires,
      more-readable a.log.now a.found.start a.found.more c.requires,
    )

pub returns-then-length-flushed_file_offset : goal.returns-then-length-flushed_file_offset
returns-then-length-flushed_file_offset c =
    let a = c.args in
    let log = a.log.now in
    let says = head-says log a.found.start a.found.more c.head.result c.sector-head.result.now c.head.ensures.0 c.head.ensures.1 c.sector-head.ensures in
    let flushed = c.flushed_file_offset.ensures ∙ says.0 in
    let e : Extent = record { offset = a.log_offset; length = length log } in
    refusal log ShorterThanFlushed (work e (entries_from log a.found.start a.found.more) a.length a.capacity)
    (refused-6 e (entries_from log a.found.start a.found.more) a.length a.capacity (omega arith))

pub all-all-requires : goal.all-all-requires
all-all-requires c =
    first-placed c.args.log.now c.args.found.start c.args.found.more c.requires

pub returns-then-all : goal.returns-then-all
returns-then-all c =
    let a = c.args in
    let log = a.log.now in
    let says = head-says log a.found.start a.found.more c.head.result c.sector-head.result.now c.head.ensures.0 c.head.ensures.1 c.sector-head.ensures in
    let flushed = c.flushed_file_offset.ensures ∙ says.0 in
    let e : Extent = record { offset = a.log_offset; length = length log } in
    lies-inside log a.found.start a.found.more c.requires e a.length a.capacity (omega arith) c.all-all.result c.all-all.ensures c.if-all.true

pub returns-then-is_within : goal.returns-then-is_within
returns-then-is_within c =
    let a = c.args in
    let log = a.log.now in
    let says = head-says log a.found.start a.found.more c.head.result c.sector-head.result.now c.head.ensures.0 c.head.ensures.1 c.sector-head.ensures in
    let flushed = c.flushed_file_offset.ensures ∙ says.0 in
    let e : Extent = record { offset = a.log_offset; length = length log } in
    let final : c.max-length.result ≡ max a.length (max c.last_file_offset-last.result c.all-all.result.end) = omega arith in
    applies log a.found.start a.found.more c.requires e a.length a.capacity (omega (arith, c.if-length-flushed_file_offset.false)) c.all-all.result c.all-all.ensures
    c.if-all.false
    c.last_file_offset-last.result
    c.max-length.result
    (c.last_file_offset-last.ensures ∙ says.1)
    final
    (sym c.is_within.ensures ∙ c.if-is_within.true)

pub returns-else-is_within : goal.returns-else-is_within
returns-else-is_within c =
    let a = c.args in
    let log = a.log.now in
    let says = head-says log a.found.start a.found.more c.head.result c.sector-head.result.now c.head.ensures.0 c.head.ensures.1 c.sector-head.ensures in
    let flushed = c.flushed_file_offset.ensures ∙ says.0 in
    let e : Extent = record { offset = a.log_offset; length = length log } in
    let final : c.max-length.result ≡ max a.length (max c.last_file_offset-last.result c.all-all.result.end) = omega arith in
    too_long log a.found.start a.found.more c.requires e a.length a.capacity (omega (arith, c.if-length-flushed_file_offset.false)) c.all-all.result c.all-all.ensures
    c.if-all.false
    c.last_file_offset-last.result
    c.max-length.result
    (c.last_file_offset-last.ensures ∙ says.1)
    final
    (sym c.is_within.ensures ∙ c.if-is_within.false)
