-- Whatever a call leaves, a power failure may leave; and what a whole history leaves of a file, one power failure may leave of it.
-- Assumes nothing.
use mathlib.Core.Path.{◌≡◌, refl, sym, subst, ◌∙◌}
use mathlib.Core.List.{List, []}
use Prim.Native.Nat.{ℕ, ◌≤◌}
use native.Mathlib.Omega.{arith}
use lib.ListN.{length}
use Rattle.vhdx_walk.specs.Entries.{Sector}
use Rattle.vhdx_log.specs.Work.{Plan, refused, apply, sectors_planned}
use Rattle.vhdx_steps.specs.Steps.{File, length_after, Ran, stop}
use Rattle.vhdx_steps.specs.Calls.{plan_of, final_length_of, Call, attach, step, Calls, none, then}
use Rattle.vhdx_steps.specs.Failures.{Lost, Reopened, History, original, called as after, lost, reopened, flushed, failed, EveryCallIsALoss, OneFailure}
use Rattle.vhdx_steps.proofs.Restart.{nothing, both, Reads, planned, called}
use Rattle.vhdx_steps.proofs.Reading.{header_of, reads}

-- ---- one call

-- no steps leave the file
still : {f g : File} → Ran [] f g → (length g.buffer ≡ length f.buffer) × Lost f.size [] f g
still {f} stop = (refl, nothing f.size [] (omega arith))

leaves : {f g : File} → Call f g → (length g.buffer ≡ length f.buffer) × Lost (final_length_of f) (sectors_planned (plan_of f)) f g
leaves {f} {g} c = go (plan_of f) refl c
  where
    go : (p : Plan) → plan_of f ≡ p → Call f g → (length g.buffer ≡ length f.buffer) × Lost (length_after (plan_of f) f.size) (sectors_planned (plan_of f)) f g
    go (refused c) e (attach r) = rw e (still (rw e at r))
    go (refused c) e (step k r) = rw e (still (rw e at r))
    go (apply m ss) e c =
        let h = header_of f.buffer f.size e in
        rw e (called (reads f h.0 h.1 e) e c)

-- the same file in another buffer
pub reopened-lost : (m : ℕ) (ss : List Sector) {f g : File} → f.size ≤ m → m ≤ length g.buffer → Reopened f g → Lost m ss f g
reopened-lost m ss below fits x =
    record {
      from = omega (arith, x.same_size);
      to = omega (arith, x.same_size);
      given = λ i l n. x.same_bytes i l;
      zeros = λ i l h n. absurd (omega (arith, x.same_size));
      capacity = λ y. fits;
    }

-- ---- lists of calls, and histories

pub same-capacity : {f g : File} → Calls f g → length g.buffer ≡ length f.buffer
same-capacity none = refl
same-capacity (then c cs) = same-capacity cs ∙ (leaves c).0

-- a list of calls is a history without a flush
pub as-history : {o d f g : File} → History o d f → Calls f g → History o d g
as-history x none = x
as-history x (then c cs) = as-history (after x c) cs

module _ {kept : ℕ → Type 0} {o : File} {m : ℕ} {ss : List Sector} (R : Reads kept o m ss) where
  -- a file that is left of o has its plan: so what is lost of it is lost by that plan
  more : {f g : File} → Lost m ss o f → Lost (final_length_of f) (sectors_planned (plan_of f)) f g → Lost m ss o g
  more h x = both m ss h (rw (planned R h) at x)

  pub reopened-more : {f g : File} → Lost m ss o f → Reopened f g → Lost m ss o g
  reopened-more {f} {g} h x =
      both m ss h (reopened-lost m ss h.to (subst (λ (p : Plan). length_after p f.size ≤ length g.buffer) (planned R h) x.capacity) x)

  -- of the file as it was flushed last, and of the file as it is
  pub left : {d f : File} → History o d f → Lost m ss o d × Lost m ss o f
  left original = (nothing m ss R.grows, nothing m ss R.grows)
  left (after x c) = let l = left x in (l.0, more l.1 (leaves c).1)
  left (lost x y) = let l = left x in (l.0, more l.1 y)
  left (reopened x y) = let l = left x in (l.0, reopened-more l.1 y)
  left (flushed x) = let l = left x in (l.1, l.1)
  left (failed x y) = let g = more (left x).0 y in (g, g)

pub every-call-is-a-loss : EveryCallIsALoss
every-call-is-a-loss f g c = (leaves c).1

pub one-failure : OneFailure
one-failure o d f m ss e x =
    let h = header_of o.buffer o.size e in
    subst (λ (p : Plan). Lost (length_after p o.size) (sectors_planned p) o f) (sym e) (left (reads o h.0 h.1 e) x).1
