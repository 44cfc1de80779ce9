-- `vhdx_walk::entry::head` meets its contract. The loop's invariant: the entries still before it have the same head.
use mathlib.Core.Path.{◌≡◌, sym, ap, subst, ◌∙◌}
use Prim.Native.Nat.{ℕ, ◌+◌, ◌-◌, ◌<◌}
use native.Mathlib.Omega.{arith}
use Rattle.vhdx_walk.specs.Entries.{head}
use Rattle.vhdx_walk.specs.Bytes.{entries_from}
use Rattle.vhdx_walk.specs.Cursor.{AllReadable}
use Rattle.vhdx_walk.proofs.Moves.{first-readable, rest-readable}
use Rattle.vhdx_walk.proofs.Chains.{head-onward, head-only}
use Rattle.vhdx_walk.proofs.entry.head.Goals as goal

pub loop-init : goal.loop-init
loop-init c =
    let log = c.args.log.now in
    let s = c.args.first.at in
    let all : c.args.more ≡ c.args.more - 0 = omega arith in
    (c.requires.0, subst (AllReadable log s) all c.requires.1, ap (λ (k : ℕ). head (entries_from log s k)) (sym all))

pub next-pos-requires : goal.next-pos-requires
next-pos-requires c =
    let inv = c.loop.invariant in
    (inv.0, first-readable c.args.log.now c.loop.pos.at (c.args.more - c.loop.counter) (omega arith) inv.1)

pub loop-preserved : goal.loop-preserved
loop-preserved c =
    let log = c.args.log.now in
    let inv = c.loop.invariant in
    let left = c.args.more - c.loop.counter in
    let more : 0 < left = omega arith in
    let fewer : left - 1 ≡ c.args.more - (c.loop.counter + 1) = omega arith in
    let s = c.next-pos.result.at in
    let at = c.next-pos.ensures.1 in (
      c.next-pos.ensures.0,
      subst (AllReadable log s) fewer (subst (λ (x : ℕ). AllReadable log x (left - 1)) (sym at) (rest-readable log c.loop.pos.at left more inv.1)),
      ap (λ (k : ℕ). head (entries_from log s k)) (sym fewer)
          ∙ ap (λ (x : ℕ). head (entries_from log x (left - 1))) at
          ∙ sym (head-onward log c.loop.pos.at left more)
          ∙ inv.2,
    )

pub returns : goal.returns
returns c =
    let inv = c.loop.invariant in
    (inv.0, sym inv.2 ∙ head-only c.args.log.now c.loop.pos.at (c.args.more - c.loop.counter) (omega arith))
