-- What a found sequence is made of: valid entries, each starting where the one before ended, that take at most the log's sectors.
-- Assumes nothing.
use mathlib.Core.Path.{◌≡◌, refl, ap, ◌∙◌}
use mathlib.Core.Bool.{true}
use mathlib.Core.List.{List}
use Rattle.std.specs.Prelude.{Option, Some}
use Prim.Native.Nat.{ℕ, zero, suc, ◌+◌, ◌%◌, ◌≤◌, ◌<◌}
use native.Mathlib.Omega.{arith}
use lib.ListN.{length}
use Rattle.field.specs.declared.Guid.{Guid}
use Rattle.vhdx_entry.specs.declared.Entry.{Entry}
use Rattle.vhdx_entry.specs.Ring.{sector_count, ring}
use Rattle.vhdx_entry.specs.Entry.{valid_entry, size, entry_at}
use Rattle.vhdx_sequence.specs.Sequence.{Link, upto, chain, active_sequence}
use Rattle.vhdx_sequence.specs.Scan.{mark_at, number_at}
use Rattle.vhdx_sequence.specs.Linked.{Linked, total}
use Rattle.vhdx_sequence.specs.declared.Sequence.{Sequence}
use Rattle.vhdx_sequence.proofs.Chain.{Ended, mod-on, chain_first, chain-one, chain_more, chain-ended, chain_fits}
use Rattle.vhdx_sequence.proofs.Greatest.{active-is}
use Rattle.vhdx_sequence.proofs.Apart.{apart, valid-here}

-- a chain of more than one entry: its first, and the chain of the others, from where the first ends
record Rest (n : ℕ) (entry : ℕ → Option Entry) (s k : ℕ) (l : Link) : Type 0 where
  first : Entry
  starts : entry s ≡ Some first
  to : Link
  there : chain n entry ((s + first.size) % n) k ≡ Some to
  reach : first.size + to.before ≡ l.before
  last : to.entry ≡ l.entry

chain-tail : (n : ℕ) (entry : ℕ → Option Entry) (s k : ℕ) (l : Link) → chain n entry s (suc k) ≡ Some l → Rest n entry s k l
chain-tail n entry s zero l h =
    let d = chain-ended n entry s zero l h in
    let f = chain_first n entry s d.prior d.there in
    let e : s + d.prior.entry.size ≡ s + upto d.prior = omega (arith, f.1) in
    record {
      first = d.prior.entry;
      starts = f.0;
      to = record { before = 0; entry = l.entry };
      there = chain-one n entry ((s + d.prior.entry.size) % n) l.entry (ap (λ (x : ℕ). entry (x % n)) e ∙ d.found);
      reach = omega (arith, f.1, d.from);
      last = refl;
    }
chain-tail n entry s (suc k) l h =
    let d = chain-ended n entry s (suc k) l h in
    go d (chain-tail n entry s k d.prior d.there)
  where
    go : (d : Ended n entry s (suc k) l) → Rest n entry s k d.prior → Rest n entry s (suc k) l
    go d r =
        let z : r.to.entry.size ≡ d.prior.entry.size = ap (λ (x : Entry). x.size) r.last in
        let m : r.to.entry.number ≡ d.prior.entry.number = ap (λ (x : Entry). x.number) r.last in
        record {
          first = r.first;
          starts = r.starts;
          to = record { before = upto r.to; entry = l.entry };
          there =
              chain_more n entry ((s + r.first.size) % n) k r.to l.entry r.there
              (ap entry (mod-on n (s + r.first.size) (upto r.to) (s + upto d.prior) (omega (arith, r.reach))) ∙ d.found)
              (omega (arith, d.rises));
          reach = omega (arith, r.reach, d.from);
          last = refl;
        }

module _ (log : List ℕ) (guid : Guid) where
  linked : (s k : ℕ) (l : Link) → chain (sector_count log) (entry_at log guid) s k ≡ Some l → Linked log guid s k × (total log s k ≡ upto l)
  unfolding Linked total
  linked s zero l h =
      let f = chain_first (sector_count log) (entry_at log guid) s l h in
      let v = valid-here log guid s l.entry f.0 in
      (v.0, omega (arith, v.1, f.1))
  linked s (suc k) l h = go (λ t to. linked t k to) (chain-tail (sector_count log) (entry_at log guid) s k l h)
    where
      go : ((t : ℕ) (to : Link) → chain (sector_count log) (entry_at log guid) t k ≡ Some to → Linked log guid t k × (total log t k ≡ upto to)) → Rest (sector_count log) (entry_at log guid) s k l → ((valid_entry guid (ring log s) ≡ true) × Linked log guid ((s + size (ring log s)) % sector_count log) k) × (size (ring log s) + total log ((s + size (ring log s)) % sector_count log) k ≡ upto l)
      go others r =
          let v = valid-here log guid s r.first r.starts in
          let e : chain (sector_count log) (entry_at log guid) ((s + size (ring log s)) % sector_count log) k ≡ Some r.to = ap (λ (x : ℕ). chain (sector_count log) (entry_at log guid) ((s + x) % sector_count log) k) v.1 ∙ r.there in
          let i = others ((s + size (ring log s)) % sector_count log) r.to e in
          ((v.0, i.0), omega (arith, v.1, i.1, r.reach, ap (λ (x : Entry). x.size) r.last))

  pub found : (q : Sequence) → length log % 4096 ≡ 0 → active_sequence log guid ≡ Some q → (q.start < sector_count log) × Linked log guid q.start q.more × (total log q.start q.more ≤ sector_count log)
  unfolding active_sequence
  found q whole h =
      let a = apart log guid whole in
      let i = active-is (sector_count log) (entry_at log guid) (mark_at log) (number_at log) a q h in
      let p = linked q.start q.more i.link i.there in
      let f = chain_fits (sector_count log) (entry_at log guid) (mark_at log) (number_at log) a q.start q.more i.link i.starts i.there in
      (i.starts, p.0, omega (arith, p.1))
