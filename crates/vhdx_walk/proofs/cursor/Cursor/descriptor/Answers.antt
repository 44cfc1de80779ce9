-- `vhdx_walk::cursor::Cursor::descriptor` meets its contract: a data or a zero descriptor, and the cursor behind it.
use mathlib.Core.Path.{◌≡◌, sym, ap, ◌∙◌}
use mathlib.Core.Bool.{true, false}
use Prim.Native.Nat.{◌<◌}
use native.Mathlib.Omega.{arith}
use Rattle.vhdx_entry.specs.Ring.{ring}
use Rattle.vhdx_entry.specs.Entry.{descriptor, descriptor_sectors, descriptor_count, is_data_descriptor, zero_length, file_offset}
use Rattle.vhdx_walk.proofs.Moves.{stands, descriptor-fits, rank-fits, past-data, past-zeros}
use Rattle.vhdx_walk.proofs.cursor.Cursor.descriptor.Goals as goal

pub at-d-requires : goal.at-d-requires
at-d-requires c =
    let a = c.args in
    let log = a.log.now in (
      (stands log a.self c.requires.0 c.requires.1).on,
      descriptor-fits log a.self c.requires.0 c.requires.1 (omega (arith, c.requires.2, c.requires.4)),
    )

pub of_data-requires : goal.of_data-requires
of_data-requires c =
    let a = c.args in
    let log = a.log.now in
    let inside : a.self.index < descriptor_count (ring log a.self.pos.at) = omega (arith, c.requires.2, c.requires.4) in
    let is-data : is_data_descriptor (descriptor (ring log a.self.pos.at) a.self.index) ≡ true =
    ap is_data_descriptor (sym c.at-d.ensures) ∙ sym c.is_data.ensures ∙ c.if-is_data.true in (
      (stands log a.self c.requires.0 c.requires.1).on,
      c.requires.2,
      c.requires.3,
      descriptor-fits log a.self c.requires.0 c.requires.1 inside,
      omega (arith, ap descriptor_sectors c.requires.2, rank-fits log a.self c.requires.0 c.requires.1 inside is-data),
    )

pub overflow_add-result : goal.overflow_add-result
overflow_add-result c =
    let a = c.args in
    let log = a.log.now in
    let inside : a.self.index < descriptor_count (ring log a.self.pos.at) = omega (arith, c.requires.2, c.requires.4) in
    let is-data : is_data_descriptor (descriptor (ring log a.self.pos.at) a.self.index) ≡ true =
    ap is_data_descriptor (sym c.at-d.ensures) ∙ sym c.is_data.ensures ∙ c.if-is_data.true in
    omega (arith, (stands log a.self c.requires.0 c.requires.1).on, rank-fits log a.self c.requires.0 c.requires.1 inside is-data)

pub returns-then-is_data : goal.returns-then-is_data
returns-then-is_data c =
    let a = c.args in
    let log = a.log.now in
    let inside : a.self.index < descriptor_count (ring log a.self.pos.at) = omega (arith, c.requires.2, c.requires.4) in
    let is-data : is_data_descriptor (descriptor (ring log a.self.pos.at) a.self.index) ≡ true =
    ap is_data_descriptor (sym c.at-d.ensures) ∙ sym c.is_data.ensures ∙ c.if-is_data.true in
    past-data log a.self c.requires.0 c.requires.1 inside c.of_data.result is-data c.of_data.ensures.descriptor c.of_data.ensures.proper

pub returns : goal.returns
returns c =
    let a = c.args in
    let log = a.log.now in
    let d = c.at-d.ensures in
    let inside : a.self.index < descriptor_count (ring log a.self.pos.at) = omega (arith, c.requires.2, c.requires.4) in
    let no-data : is_data_descriptor (descriptor (ring log a.self.pos.at) a.self.index) ≡ false =
    ap is_data_descriptor (sym d) ∙ sym c.is_data.ensures ∙ c.if-is_data.false in
    past-zeros log a.self c.requires.0 c.requires.1 inside c.file_offset.result c.zero_length.result no-data
    (c.file_offset.ensures ∙ ap file_offset d)
    (c.zero_length.ensures ∙ ap zero_length d)
