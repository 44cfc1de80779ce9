-- `vhdx_replay::store::zeros` meets its contract.
use mathlib.Core.Path.{refl, sym, ap, ◌∙◌}
use Prim.Native.Nat.{ℕ, ◌<◌, ◌-◌}
use native.Mathlib.Omega.{arith}
use lib.ListN.{replicate, length-replicate, get_or-replicate, length-set}
use lib.Seq.{paste, paste-zero}
use Rattle.vhdx_replay.proofs.Storing.{paste_more, pasted}
use Rattle.vhdx_replay.proofs.store.zeros.Goals as goal

pub loop-at-init : goal.loop-at-init
loop-at-init c =
    let a = c.args in
    (refl, sym (ap (paste a.buffer.now a.from (replicate (a.to - a.from) 0)) {x = a.from - a.from} {y = 0} (omega arith) ∙ sym (paste-zero a.buffer.now a.from (replicate (a.to - a.from) 0))))

pub loop-at-preserved : goal.loop-at-preserved
loop-at-preserved c =
    let a = c.args in
    let n : ℕ = a.to - a.from in
    let here : c.loop-at.at - a.from < n = omega arith in (
      simp length-set (omega arith),
      paste_more a.buffer.now a.from (replicate n 0) c.loop-at.at 0 c.loop-at.invariant.1 (omega arith) (omega arith) (simp length-replicate (omega arith)) (get_or-replicate n (c.loop-at.at - a.from) 0 0 here),
    )

pub returns : goal.returns
returns c =
    let a = c.args in
    c.loop-at.invariant.1 ∙ pasted a.buffer.now a.from (replicate (a.to - a.from) 0) (c.loop-at.at - a.from) (length-replicate (a.to - a.from) 0 ∙ omega arith)
