-- `vhdx_metadata::entry::has_id` meets its contract: the halves agree exactly where the numbers do.
use Rattle.std.proofs.Common.{rules, arith, ◌≡◌, refl, sym, ap, ◌∙◌, Bool, true, false, ◌&&◌, List, ℕ, ◌^◌, ◌≤◌, ◌<◌, length}
use lib.Dec.{eqb}
use borrow.Author.Tests.{eq-eqb, ne_eqb}
use Rattle.field.specs.declared.Guid.{Guid}
use Rattle.field.specs.Fields.{field, number, guid_at}
use Rattle.field.proofs.Laws.{halves_same}
use Rattle.vhdx_metadata.specs.Table.{identifier}
use Rattle.vhdx_metadata.proofs.entry.has_id.Goals as goal

-- once it is known whether the first halves agree
decided : (e : List ℕ) (g : Guid) (t : Bool) → eqb (field e 0 8) g.low ≡ t → 8 ≤ length e → field e 0 8 < 2 ^ 64 → g.low < 2 ^ 64 → (t && eqb (field e 8 8) g.high) ≡ eqb (identifier e) (number g)
decided e g t q l b c =
    ap (λ (x : Bool). x && eqb (field e 8 8) g.high) (sym q) ∙ halves_same e 0 g (guid_at e 0) l refl b c

pub returns-then-u64_at-id : goal.returns-then-u64_at-id
returns-then-u64_at-id c =
    ap (λ (n : ℕ). eqb n c.args.id.high) c.u64_at-then-u64_at-id.ensures
    ∙ decided c.args.e.now c.args.id true (eq-eqb _ _ (sym c.u64_at.ensures ∙ c.if-u64_at-id.true)) (omega arith) (search rules) (search rules)

pub returns-else-u64_at-id : goal.returns-else-u64_at-id
returns-else-u64_at-id c =
    ne_eqb _ _ c.if-u64_at-id.false
    ∙ decided c.args.e.now c.args.id false (ne_eqb _ _ (λ h. c.if-u64_at-id.false (c.u64_at.ensures ∙ h))) (omega arith) (search rules) (search rules)
