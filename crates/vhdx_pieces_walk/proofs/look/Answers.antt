-- `vhdx_pieces_walk::look` meets its contract.
use mathlib.Core.Path.{refl, ◌∙◌}
use native.Mathlib.Omega.{arith}
use Rattle.vhdx_pieces_walk.proofs.Turns.{opened-past, looked-met, looked-past, here-fits}
use Rattle.vhdx_pieces_walk.proofs.look.Goals as goal

pub overflow_mul-from : goal.overflow_mul-from
overflow_mul-from c = record { fits = omega (arith, c.requires.index, c.requires.small) }

pub overflow_add-from : goal.overflow_add-from
overflow_add-from c = record { fits = omega (arith, c.requires.index, c.requires.small) }

pub idle-i-requires : goal.idle-i-requires
idle-i-requires c = let w = c.args.w in omega (arith, c.min-m.ensures, here-fits w.index w.count)

pub overflow_mul-i : goal.overflow_mul-i
overflow_mul-i c = record { fits = omega (arith, c.idle-i.ensures.1, c.min-m.ensures, c.requires.small) }

pub overflow_add-from-then-i-m : goal.overflow_add-from-then-i-m
overflow_add-from-then-i-m c = let w = c.args.w in record { fits = omega (arith, c.idle-i.ensures.1, c.min-m.ensures, here-fits w.index w.count) }

pub array_at-requires : goal.array_at-requires
array_at-requires c = let w = c.args.w in omega (arith, c.if-i-m.true, c.min-m.ensures, here-fits w.index w.count)

pub meet-requires : goal.meet-requires
meet-requires c =
    let w = c.args.w in (
      opened-past w c.idle-i.result c.requires (omega (arith, c.if-i-m.true, c.min-m.ensures, c.requires.index)),
      omega (arith, c.if-i-m.true, c.min-m.ensures),
    )

pub resume-requires : goal.resume-requires
resume-requires c = opened-past c.args.w c.idle-i.result c.requires (omega (arith, c.idle-i.ensures.1, c.min-m.ensures, c.requires.index))

pub returns-then-i-m : goal.returns-then-i-m
returns-then-i-m c =
    let a = c.args in
    c.meet.ensures ∙ looked-met a.b a.w a.sector.now c.min-m.ensures c.idle-i.ensures.0 (omega (arith, c.if-i-m.true)) refl c.array_at.ensures

pub returns-else-i-m : goal.returns-else-i-m
returns-else-i-m c =
    let a = c.args in
    c.resume.ensures ∙ looked-past a.b a.w a.sector.now c.min-m.ensures c.idle-i.ensures.0 (omega (arith, c.if-i-m.false)) refl
