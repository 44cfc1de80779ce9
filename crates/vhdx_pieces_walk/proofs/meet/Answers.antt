-- `vhdx_pieces_walk::meet` meets its contract.
use mathlib.Core.Path.{sym, ap₂, ◌∙◌}
use Prim.Native.Nat.{ℕ, ◌+◌, ◌<◌}
use native.Mathlib.Omega.{arith}
use borrow.Author.Tests.{lt-ltb, le-ltb}
use Rattle.vhdx_entry.specs.Entry.{descriptor_sectors}
use Rattle.vhdx_pieces_walk.specs.Walking.{allowed}
use Rattle.vhdx_pieces_walk.proofs.Turns.{met-nothing, met-zeros, met-data, met-short}
use Rattle.vhdx_pieces_walk.proofs.meet.Goals as goal

pub overflow_add-sectors : goal.overflow_add-sectors
overflow_add-sectors c = let w = c.args.w in record { fits = omega (arith, c.sectors.ensures, c.requires.0.front, c.requires.0.size, c.requires.0.standing.few, c.requires.0.rank, c.requires.0.index, c.requires.0.small) }

pub returns-then-not-is_allowed : goal.returns-then-not-is_allowed
returns-then-not-is_allowed c =
    let a = c.args in
    let no = ap₂ (λ (x y : ℕ). allowed a.b x y) (sym c.file_offset-offset.ensures) (sym c.run_length-n.ensures) ∙ sym c.is_allowed.ensures ∙ c.if-not-is_allowed.true in
    met-nothing a.b a.w a.d.now no

pub returns-then-not-is_data : goal.returns-then-not-is_data
returns-then-not-is_data c =
    let a = c.args in
    let ok = ap₂ (λ (x y : ℕ). allowed a.b x y) (sym c.file_offset-offset.ensures) (sym c.run_length-n.ensures) ∙ sym c.is_allowed.ensures ∙ c.if-not-is_allowed.false in
    simp (c.file_offset-offset.ensures, c.run_length-n.ensures) (met-zeros a.b a.w a.d.now ok (sym c.is_data.ensures ∙ c.if-not-is_data.true))

pub returns-then-w-sectors : goal.returns-then-w-sectors
returns-then-w-sectors c =
    let a = c.args in
    let ok = ap₂ (λ (x y : ℕ). allowed a.b x y) (sym c.file_offset-offset.ensures) (sym c.run_length-n.ensures) ∙ sym c.is_allowed.ensures ∙ c.if-not-is_allowed.false in
    met-short a.b a.w a.d.now ok (sym c.is_data.ensures ∙ c.if-not-is_data.false) (le-ltb (descriptor_sectors a.w.count + a.w.data) a.w.size (omega (arith, c.sectors.ensures, c.if-w-sectors.true)))

pub returns : goal.returns
returns c =
    let a = c.args in
    let ok = ap₂ (λ (x y : ℕ). allowed a.b x y) (sym c.file_offset-offset.ensures) (sym c.run_length-n.ensures) ∙ sym c.is_allowed.ensures ∙ c.if-not-is_allowed.false in
    let short : descriptor_sectors a.w.count + a.w.data < a.w.size = omega (arith, c.sectors.ensures, c.if-w-sectors.false) in
    simp (c.u32_at.ensures, c.u64_at.ensures, c.file_offset-offset.ensures) (met-data a.b a.w a.d.now ok (sym c.is_data.ensures ∙ c.if-not-is_data.false) (lt-ltb _ _ short))
