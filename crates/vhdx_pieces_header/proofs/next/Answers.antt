-- `vhdx_pieces_header::next` meets its contract.
use mathlib.Core.Path.{◌∙◌, ap}
use native.Mathlib.Omega.{arith}
use Rattle.std.proofs.lemmas.List.{take_all}
use Rattle.vhdx_pieces_header.specs.Finding.{size_of, step_of}
use Rattle.vhdx_pieces_header.proofs.next.Goals as goal

pub identified-requires : goal.identified-requires
identified-requires c = c.requires ∙ ap size_of c.in-Identifier.is

pub array_at-requires : goal.array_at-requires
array_at-requires c = omega (arith, c.requires ∙ ap size_of c.in-First.is)

pub array_at-requires-in-Second : goal.array_at-requires-in-Second
array_at-requires-in-Second c = omega (arith, c.requires ∙ ap size_of c.in-Second.is)

pub returns-in-Identifier : goal.returns-in-Identifier
unfolding step_of
returns-in-Identifier c = simp (c.identified.ensures, c.in-Identifier.is)

pub returns-in-First : goal.returns-in-First
unfolding step_of
returns-in-First c =
    simp (
      c.read_one-first.ensures,
      c.array_at.ensures,
      take_all 4096 c.args.piece.now (omega (arith, c.requires ∙ ap size_of c.in-First.is)),
      c.in-First.is,
    )

pub returns-in-Second : goal.returns-in-Second
unfolding step_of
returns-in-Second c =
    simp (
      c.within_image.ensures,
      c.chosen.ensures,
      c.read_one-second.ensures,
      c.array_at-in-Second.ensures,
      take_all 4096 c.args.piece.now (omega (arith, c.requires ∙ ap size_of c.in-Second.is)),
      c.in-Second.is,
    )
