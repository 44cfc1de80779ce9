-- `vhdx_walk::entry::next` meets its contract: EntryLength is the entry's length in the ring.
use mathlib.Core.Path.{◌≡◌, sym, ap, ◌∙◌}
use Prim.Native.Nat.{ℕ, ◌+◌, ◌*◌, ◌/◌, ◌%◌}
use native.Mathlib.Omega.{arith}
use Rattle.vhdx_entry.specs.declared.ring.RingPos.{RingPos}
use Rattle.vhdx_entry.specs.Ring.{ring}
use Rattle.vhdx_entry.specs.Entry.{entry_length, size, behind}
use Rattle.vhdx_walk.proofs.Parts.{same_count, size-within, size-read}
use Rattle.vhdx_walk.proofs.entry.next.Goals as goal

pub advance-requires : goal.advance-requires
advance-requires c =
    let a = c.args in
    let log = a.log.now in
    let by : c.entry_length.result / 4096 ≡ size (ring log a.pos.at) =
    ap (λ (n : ℕ). n / 4096) (c.entry_length.ensures ∙ ap entry_length c.sector.ensures) ∙ size-read log a.pos c.requires.0 c.requires.1 in
    (c.requires.0.0, omega (arith, size-within log a.pos c.requires.0 c.requires.1))

pub returns : goal.returns
returns c =
    let a = c.args in
    let log = a.log.now in
    let by : c.entry_length.result / 4096 ≡ size (ring log a.pos.at) =
    ap (λ (n : ℕ). n / 4096) (c.entry_length.ensures ∙ ap entry_length c.sector.ensures)
    ∙ size-read log a.pos c.requires.0 c.requires.1 in
    let at : c.advance.result.at ≡ behind log a.pos.at =
    ap (λ (p : RingPos). p.at) c.advance.ensures.value
    ∙ ap (λ (k : ℕ). (a.pos.at + k) % a.pos.len) by
    ∙ ap (λ (n : ℕ). (a.pos.at + size (ring log a.pos.at)) % n) (sym (same_count log a.pos c.requires.0)) in
    ((omega (arith, c.advance.ensures.on_ring), c.requires.0.1 ∙ ap (λ (n : ℕ). n * 4096) (sym c.advance.ensures.on_ring.1)), at)
