-- Where a run may be written, so may each of its sectors; what is written lies apart.
-- Assumes nothing.
use mathlib.Core.Path.{◌≡◌, refl, sym, ap, ◌∙◌, subst}
use mathlib.Core.Bool.{Bool, true, false, not, ◌&&◌, ◌||◌, and-eq-true_iff}
use mathlib.Core.List.{List, [], ◌++◌}
use Prim.Native.Nat.{ℕ, suc, ◌+◌, ◌-◌, ◌*◌, ◌/◌, ◌%◌, ◌≤◌, ◌<◌}
use native.Mathlib.Decide.{dec_lt}
use native.Mathlib.Omega.{arith}
use lib.Dec.{T, eqb}
use lib.ListN.{length, take, drop, length-append, length-drop, length-replicate}
use lib.Seq.{length-take-le}
use borrow.Author.Tests.{leb-true, eqb-true, le-leb, eq-eqb, not-true}
use Rattle.field.specs.Fields.{le_bytes}
use Rattle.field.proofs.Bytes.{le-bytes-long}
use Rattle.extent.specs.Extent.{mib, inside, shares}
use Rattle.extent.proofs.Laws.{share}
use Rattle.vhdx_walk.specs.Entries.{sectors_at, zero_sector}
use Rattle.vhdx_log.specs.Work.{lies, some_lies}
use Rattle.vhdx_log.proofs.Lies.{lies_whole}
use Rattle.vhdx_pieces_walk.specs.declared.Bounds.{Bounds}
use Rattle.vhdx_pieces_walk.specs.declared.Stage.{Stage}
use Rattle.vhdx_pieces_walk.specs.declared.Stage.TheVariants as stage
use Rattle.vhdx_pieces_walk.specs.Walking.{allowed, written_in, WritingIn, Apart, WritesApart}

pub none_of : (x y : Bool) → (x || y) ≡ false → (x ≡ false) × (y ≡ false)
none_of true y h = absurd (subst T h tt)
none_of false y h = (refl, h)

pub allowed-is : (b : Bounds) (offset n : ℕ) → allowed b offset n ≡ true → (offset + n ≤ b.limit) × (n % 4096 ≡ 0) × (lies b.log offset n ≡ false)
allowed-is b offset n h =
    let x = (and-eq-true_iff (inside offset n b.limit) (eqb (n % 4096) 0 && not (lies b.log offset n))).0 h in
    let y = (and-eq-true_iff (eqb (n % 4096) 0) (not (lies b.log offset n))).0 x.1 in
    (leb-true _ _ x.0, eqb-true _ _ y.0, not-true _ y.1)

-- a run of sectors none of which lies in the first MiB or in the log
pub allowed-run : (b : Bounds) (offset k : ℕ) (bytes : List ℕ) → offset + k * 4096 ≤ b.limit → some_lies b.log (sectors_at k offset bytes) ≡ false → allowed b offset (k * 4096) ≡ true
allowed-run b offset k bytes h a =
    let l = sym (lies_whole b.log k offset bytes) ∙ a in
    let z : k * 4096 % 4096 ≡ 0 = omega arith in
    rw (le-leb (offset + k * 4096) b.limit h, eq-eqb (k * 4096 % 4096) 0 z, l)

behind-first : (offset : ℕ) → shares offset 4096 0 mib ≡ false → mib ≤ offset
behind-first offset e = go (dec_lt offset mib)
  where
    go : Dec (offset < mib) → mib ≤ offset
    go (yes l) = absurd (subst T (sym (share offset 4096 0 mib (omega arith) (omega arith) (omega arith) (omega arith)) ∙ e) tt)
    go (no l) = omega arith

module _ (b : Bounds) (offset n : ℕ) (some : 0 < n) (h : allowed b offset n ≡ true) where
  -- its first sector, and the sectors behind that
  parts : (lies b.log offset 4096 ≡ false) × (some_lies b.log (sectors_at (n / 4096 - 1) (offset + 4096) []) ≡ false)
  unfolding sectors_at
  parts =
      let i = allowed-is b offset n h in
      let is : n ≡ suc (n / 4096 - 1) * 4096 = omega (arith, i.1) in
      none_of (lies b.log offset 4096) (some_lies b.log (sectors_at (n / 4096 - 1) (offset + 4096) []))
      (lies_whole b.log (suc (n / 4096 - 1)) offset [] ∙ ap (lies b.log offset) (sym is) ∙ i.2)

  pub allowed-behind : 4096 < n → allowed b (offset + 4096) (n - 4096) ≡ true
  allowed-behind l =
      let i = allowed-is b offset n h in
      let is : (n / 4096 - 1) * 4096 ≡ n - 4096 = omega (arith, i.1) in
      ap (allowed b (offset + 4096)) (sym is) ∙ allowed-run b (offset + 4096) (n / 4096 - 1) [] (omega (arith, i.0)) parts.1

  sector-apart : (bytes : List ℕ) → Apart b (record { offset = offset; bytes = bytes })
  sector-apart bytes =
      let i = allowed-is b offset n h in
      let no = none_of (shares offset 4096 0 mib) (shares offset 4096 b.log.offset b.log.length) parts.0 in
      record { behind = behind-first offset no.0; within = omega (arith, i.0, i.1); outside = no.1 }

length-held : (x y : ℕ) (p : List ℕ) → length p ≡ 4096 → length (le_bytes 8 x ++ (take 4084 (drop 8 p) ++ le_bytes 4 y)) ≡ 4096
length-held x y p e =
    let m : length (take 4084 (drop 8 p)) ≡ 4084 = length-take-le 4084 (drop 8 p) (simp length-drop (omega arith)) in
    simp length-append (omega (arith, m, le-bytes-long 8 x, le-bytes-long 4 y))

length-zeros : length zero_sector ≡ 4096
unfolding zero_sector
length-zeros = length-replicate {A = ℕ} 4096 0

pub writes_apart : WritesApart
writes_apart b w p = go w.stage
  where
    go : (s : Stage) → WritingIn b w s → Apart b (written_in s p) × (length p ≡ 4096 → length (written_in s p).bytes ≡ 4096)
    go (stage.Sector d) h = (sector-apart b d.offset 4096 (omega arith) h.1 _, length-held d.leading d.trailing p)
    go (stage.Zeros e) h = (sector-apart b e.offset e.length h.1 h.2 _, λ _. length-zeros)
    go stage.Header h = absurd h
    go stage.Descriptors h = absurd h
    go (stage.Data d) h = absurd h
