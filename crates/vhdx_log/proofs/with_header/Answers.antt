-- `vhdx_log::with_header` meets its contract.
use mathlib.Core.Path.{◌≡◌, sym, subst, ◌∙◌}
use mathlib.Core.List.{List}
use Prim.Native.Nat.{ℕ, ◌*◌, ◌%◌, ◌≤◌}
use lib.ListN.{length}
use Rattle.extent.specs.Extent.{mib}
use Rattle.vhdx_log.proofs.Answering.{zero_number, log-placed, without, within}
use Rattle.vhdx_log.proofs.with_header.Goals as goal

pub returns-then-eq : goal.returns-then-eq
returns-then-eq c =
    let a = c.args in
    without a.buffer.now a.length a.header c.requires c.without_log.result (length a.buffer.now) (sym (zero_number a.header.log_guid) ∙ (sym c.eq.ensures ∙ c.if-eq.true)) c.without_log.ensures

pub with_log-requires : goal.with_log-requires
with_log-requires c =
    let a = c.args in
    subst (λ (l : List ℕ). (length l % mib ≡ 0) × (length l ≤ 64 * mib)) (sym c.part.ensures) (log-placed a.buffer.now a.length a.header c.requires)

pub returns : goal.returns
returns c =
    let a = c.args in
    within a.buffer.now a.length a.header c.requires c.with_log.result (length a.buffer.now) c.part.result.now c.part.ensures (sym (zero_number a.header.log_guid) ∙ (sym c.eq.ensures ∙ c.if-eq.false)) c.with_log.ensures
