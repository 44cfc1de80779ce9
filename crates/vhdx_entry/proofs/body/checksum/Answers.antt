-- `vhdx_entry::body::checksum` meets its contract: the state is that of the first k sectors, the checksum field as zero.
use mathlib.Core.Path.{◌≡◌, sym, ap, ◌∙◌}
use mathlib.Core.List.{List}
use Prim.Native.Nat.{ℕ, ◌+◌, ◌*◌, ◌≤◌}
use native.Mathlib.Omega.{arith}
use lib.Bits.{bit_xor}
use lib.ListN.{length, take}
use lib.Seq.{length-take-le}
use Rattle.crc32c.specs.Crc.{ones, updates, crc, zeroed}
use Rattle.crc32c.proofs.Laws.{updates-append, zeroed-append}
use Rattle.vhdx_entry.specs.declared.ring.RingPos.{RingPos}
use Rattle.vhdx_entry.specs.Ring.{ring, sector_at}
use Rattle.vhdx_entry.proofs.Laws.{sector-on, sector-next, sector-first, length-ring}
use Rattle.vhdx_entry.proofs.body.checksum.Invariants.{over}
use Rattle.vhdx_entry.proofs.body.checksum.Goals as goal

next : (r : List ℕ) (k : ℕ) {state : ℕ} {s : List ℕ} → (1 ≤ k) × (k * 4096 ≤ length r) → state ≡ updates ones (zeroed (take (k * 4096) r) 4) → s ≡ sector_at r k
    → updates state s ≡ updates ones (zeroed (take ((k + 1) * 4096) r) 4)
next r k {state} {s} b e h =
    let long = length-take-le (k * 4096) r b.1 in
    ap (λ (x : ℕ). updates x s) e ∙ ap (updates (updates ones (zeroed (take (k * 4096) r) 4))) h
    ∙ sym (ap (λ (x : List ℕ). updates ones (zeroed x 4)) (sector-next r k)
    ∙ ap (updates ones) (zeroed-append (take (k * 4096) r) (sector_at r k) 4 (omega arith))
    ∙ updates-append ones (zeroed (take (k * 4096) r) 4) (sector_at r k))

pub loop-k-init : goal.loop-k-init
loop-k-init c =
    let a = c.args in
    let on = c.requires.0 in (
      on,
      omega arith,
      omega arith,
      c.start_zeroed-state.ensures ∙ ap (λ (s : List ℕ). updates ones (zeroed s 4)) (c.sector.ensures ∙ sym (sector-first a.log.now a.pos.len a.pos.at on.1 on.0)),
    )

pub loop-k-preserved : goal.loop-k-preserved
loop-k-preserved c =
    let inv = c.loop-k.invariant in
    let a = c.args in
    let k = c.loop-k.k in
    let on = inv.0 in
    let r = ring a.log.now a.pos.at in
    let long : length r ≡ a.pos.len * 4096 = length-ring a.log.now a.pos.len a.pos.at on.1 on.0 ∙ on.1 in
    let read : c.sector-in-loop-k.result.now ≡ sector_at r k =
    c.sector-in-loop-k.ensures ∙ ap (λ (p : RingPos). sector_at a.log.now p.at) c.advance.ensures.value
    ∙ sym (sector-on a.log.now a.pos.len a.pos.at on.1 on.0 k (omega arith)) in
    (on, omega arith, inv.2, c.update-state.ensures ∙ next r k (omega arith) inv.3 read)

pub returns : goal.returns
unfolding crc
returns c = let inv = c.loop-k.invariant in
    let a = c.args in
    c.finish.ensures
    ∙ ap (λ (x : ℕ). bit_xor x ones)
    (inv.3 ∙ ap (over a.log.now a.pos.at) {x = c.loop-k.k} {y = a.sectors} (omega arith))
