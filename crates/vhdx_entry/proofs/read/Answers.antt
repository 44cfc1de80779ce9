-- `vhdx_entry::read` meets its contract.
use mathlib.Core.Path.{ap, ◌∙◌}
use Prim.Native.Nat.{ℕ, ◌/◌}
use native.Mathlib.Omega.{arith}
use lib.ListN.{length}
use Rattle.vhdx_entry.specs.Entry.{header_rule}
use Rattle.vhdx_entry.proofs.Laws.{in-first}
use Rattle.vhdx_entry.proofs.Clauses.{header-in, bad-header, no_size, size_is, size_fits, valid-at}
use Rattle.vhdx_entry.proofs.read.Goals as goal

pub size-requires : goal.size-requires
size-requires c =
    let a = c.args in
    let h = c.sector-h.ensures in (
      c.requires,
      c.sequence_number-number.ensures ∙ in-first a.log.now a.pos.len a.pos.at c.requires h 16 8 (omega arith),
      c.descriptor_count-count.ensures.value ∙ in-first a.log.now a.pos.len a.pos.at c.requires h 24 4 (omega arith),
      c.descriptor_count-count.ensures.upper_bound,
    )

pub ends_well-requires : goal.ends_well-requires
ends_well-requires c =
    let a = c.args in
    let h = c.sector-h.ensures in
    let rule = c.keeps_rules.ensures ∙ ap (header_rule a.guid (length a.log.now)) h ∙ header-in a.guid a.log.now a.pos.len a.pos.at c.requires.1 c.requires.0 in
    let size = c.size in
    let is = c.in_ok-size.was in (
      c.requires,
      c.sequence_number-number.ensures ∙ in-first a.log.now a.pos.len a.pos.at c.requires h 16 8 (omega arith),
      c.descriptor_count-count.ensures.value ∙ in-first a.log.now a.pos.len a.pos.at c.requires h 24 4 (omega arith),
      c.descriptor_count-count.ensures.upper_bound,
      size_is a.guid a.log.now a.pos.at rule size.result size.ensures is,
      size_fits a.guid a.log.now a.pos.at rule size.result size.ensures is c.requires.1 c.requires.0,
    )

pub returns-in_err-size : goal.returns-in_err-size
returns-in_err-size c =
    let a = c.args in
    let h = c.sector-h.ensures in
    let rule = c.keeps_rules.ensures ∙ ap (header_rule a.guid (length a.log.now)) h ∙ header-in a.guid a.log.now a.pos.len a.pos.at c.requires.1 c.requires.0 in
    c.from_residual.ensures ∙ no_size a.guid a.log.now a.pos.at rule c.size.result c.size.ensures c.in_err-size.was

pub returns : goal.returns
returns c =
    let a = c.args in
    let h = c.sector-h.ensures in
    let rule = c.keeps_rules.ensures ∙ ap (header_rule a.guid (length a.log.now)) h ∙ header-in a.guid a.log.now a.pos.len a.pos.at c.requires.1 c.requires.0 in
    let size = c.size in
    c.then_some.ensures
    ∙ valid-at a.guid a.log.now a.pos.at rule size.result size.ensures c.in_ok-size.was c.if-not-keeps_rules.false
    c.ends_well.ensures
    (c.sequence_number-number.ensures ∙ in-first a.log.now a.pos.len a.pos.at c.requires h 16 8 (omega arith))
    (c.tail.ensures ∙ ap (λ (x : ℕ). x / 4096) (in-first a.log.now a.pos.len a.pos.at c.requires h 12 4 (omega arith)))

pub returns-then-not-keeps_rules : goal.returns-then-not-keeps_rules
returns-then-not-keeps_rules c =
    let a = c.args in
    let h = c.sector-h.ensures in
    let rule = c.keeps_rules.ensures ∙ ap (header_rule a.guid (length a.log.now)) h ∙ header-in a.guid a.log.now a.pos.len a.pos.at c.requires.1 c.requires.0 in
    bad-header a.guid a.log.now a.pos.at rule c.if-not-keeps_rules.true
