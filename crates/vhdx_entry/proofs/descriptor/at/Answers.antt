-- `vhdx_entry::descriptor::at` meets its contract: a descriptor lies in one sector of the ring.
use mathlib.Core.Path.{ap, ◌∙◌}
use Prim.Native.Nat.{ℕ, ◌+◌, ◌*◌}
use native.Mathlib.Omega.{arith}
use lib.ListN.{take, drop}
use Rattle.vhdx_entry.specs.Entry.{descriptor}
use Rattle.vhdx_entry.proofs.Laws.{ring-bytes}
use Rattle.vhdx_entry.proofs.descriptor.at.Goals as goal

pub returns : goal.returns
unfolding descriptor
returns c =
    let a = c.args in
    c.array_at.ensures
    ∙ ap (λ (n : ℕ). take 32 (drop n a.log.now)) c.offset.ensures.value
    ∙ ring-bytes a.log.now a.pos (64 + 32 * a.i) 32 c.requires.0 (omega arith) (omega arith)
