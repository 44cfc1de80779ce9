-- `vhdx_replay::write_next` meets its contract: the first of the sectors that are left, and the walk past it.
use mathlib.Core.Path.{◌≡◌, sym, subst, ◌∙◌}
use mathlib.Core.List.{List}
use Prim.Native.Nat.{ℕ}
use lib.ListN.{length, drop}
use Rattle.extent.specs.Extent.{part}
use Rattle.vhdx_walk.specs.Walk.{sectors_left, Ready, Settled}
use Rattle.vhdx_replay.proofs.Next.{fits, written, held, unchanged, past}
use Rattle.vhdx_replay.proofs.write_next.Goals as goal

pub current-requires : goal.current-requires
current-requires c =
    subst (λ (l : List ℕ). Ready l c.args.walk × Settled l c.args.walk) (sym c.part.ensures.bytes) (c.requires.1, c.requires.2)

pub forward-next-requires : goal.forward-next-requires
forward-next-requires c =
    subst (λ (l : List ℕ). Ready l c.args.walk) (sym c.part-in-Some.ensures.bytes) c.requires.1

pub write-requires : goal.write-requires
write-requires c =
    let b = c.args.buffer.now in
    let log = part b c.args.log in (
      c.requires.0,
      fits c.part.result.now log c.args.walk c.part.ensures.bytes c.current.result _ c.in-Some.is c.current.ensures.next (length b) c.requires.3,
      held c.part.result.now log c.args.walk c.part.ensures.bytes c.current.result _ c.in-Some.is c.current.ensures.next c.current.ensures.held,
    )

pub returns-in-None : goal.returns-in-None
returns-in-None c =
    let b = c.args.buffer.now in
    let log = part b c.args.log in record { buffer_after = unchanged c.part.result.now log c.args.walk c.part.ensures.bytes c.current.result c.in-None.is c.current.ensures.next b; ready = c.requires.1; rest = (past c.part.result.now log c.args.walk c.part.ensures.bytes c.current.result c.in-None.is c.current.ensures.next, c.requires.2) }

pub returns-in-Some : goal.returns-in-Some
returns-in-Some c =
    let b = c.args.buffer.now in
    let log = part b c.args.log in
    let same = c.part-in-Some.ensures.bytes in
    let e = subst (λ (l : List ℕ). (sectors_left l c.forward-next.result ≡ drop 1 (sectors_left l c.args.walk)) × Settled l c.forward-next.result) same c.forward-next.ensures.rest in record {
      buffer_after = c.write.ensures
          ∙ written c.part.result.now log c.args.walk c.part.ensures.bytes c.current.result _ c.in-Some.is c.current.ensures.next b;
      ready = subst (λ (l : List ℕ). Ready l c.forward-next.result) same c.forward-next.ensures.ready;
      rest = e;
    }
