-- `vhdx_pieces_walk::wanted` meets its contract.
use mathlib.Core.Path.{◌≡◌, sym, ap, ◌∙◌, subst}
use mathlib.Core.Logic.{◌⊎◌, inl, inr}
use Prim.Native.Nat.{ℕ, ◌+◌, ◌<◌}
use native.Mathlib.Omega.{arith}
use Rattle.vhdx_entry.specs.declared.ring.RingPos.{RingPos}
use Rattle.vhdx_entry.specs.Ring.{advanced}
use Rattle.extent.specs.declared.Extent.{Extent}
use Rattle.vhdx_pieces_walk.specs.declared.Bounds.{Bounds}
use Rattle.vhdx_pieces_walk.specs.declared.Held.{Held}
use Rattle.vhdx_pieces_walk.specs.declared.Stage.TheVariants as stage
use Rattle.vhdx_pieces_walk.specs.declared.Walker.{Walker}
use Rattle.vhdx_pieces_walk.specs.Walking.{ReadingIn, wanted_in}
use Rattle.vhdx_pieces_walk.proofs.wanted.Goals as goal

pub overflow_mul-w : goal.overflow_mul-w
overflow_mul-w c = let s = subst (ReadingIn c.requires.0 c.args.w) c.in-Descriptors.is c.requires.1 in record { fits = omega (arith, s.1, s.0.small) }

pub overflow_add-w : goal.overflow_add-w
overflow_add-w c = let s = subst (ReadingIn c.requires.0 c.args.w) c.in-Descriptors.is c.requires.1 in record { fits = omega (arith, s.1, s.0.small) }

pub advance-requires : goal.advance-requires
advance-requires c = let s = subst (ReadingIn c.requires.0 c.args.w) c.in-Descriptors.is c.requires.1 in (s.0.standing.on, omega (arith, s.1, s.0.front, s.0.size))

pub sectors-requires : goal.sectors-requires
sectors-requires c = let s = subst (ReadingIn c.requires.0 c.args.w) c.in-Data.is c.requires.1 in s.0.small

pub overflow_add-sectors : goal.overflow_add-sectors
overflow_add-sectors c = let s = subst (ReadingIn c.requires.0 c.args.w) c.in-Data.is c.requires.1 in record { fits = omega (arith, s.1, s.0.size, s.0.standing.few, c.sectors.ensures) }

pub advance-requires-in-Data : goal.advance-requires-in-Data
advance-requires-in-Data c = let s = subst (ReadingIn c.requires.0 c.args.w) c.in-Data.is c.requires.1 in (s.0.standing.on, omega (arith, s.1, s.0.size, c.sectors.ensures))

pub returns-in-Descriptors : goal.returns-in-Descriptors
returns-in-Descriptors c = (ap (λ (p : RingPos). p.at) c.advance.ensures.value ∙ sym (ap (wanted_in c.args.w) c.in-Descriptors.is), c.advance.ensures.on_ring.0)

pub returns-in-Data : goal.returns-in-Data
returns-in-Data c =
    let w = c.args.w in
    (ap (λ (p : RingPos). p.at) c.advance-in-Data.ensures.value ∙ ap (λ (k : ℕ). (advanced w.pos (k + c.in-Data.d.rank)).at) c.sectors.ensures ∙ sym (ap (wanted_in w) c.in-Data.is), c.advance-in-Data.ensures.on_ring.0)

at_head : (b : Bounds) (w : Walker) → ReadingIn b w w.stage → (w.stage ≡ stage.Header) ⊎ (((d : Held) × (w.stage ≡ stage.Sector d)) ⊎ ((e : Extent) × (w.stage ≡ stage.Zeros e)))
    → (w.pos.at ≡ wanted_in w w.stage) × (w.pos.at < w.pos.len)
at_head b w h (inl e) = (sym (ap (wanted_in w) e), (subst (ReadingIn b w) e h).on)
at_head b w h (inr (inl p)) = absurd (subst (ReadingIn b w) p.1 h)
at_head b w h (inr (inr p)) = absurd (subst (ReadingIn b w) p.1 h)

pub returns-in-Header : goal.returns-in-Header
returns-in-Header c = at_head c.requires.0 c.args.w c.requires.1 c.in-Header.is
