-- Whatever is fed, a reading stays within the log and its counts stay small.
-- Assumes nothing.
use mathlib.Core.Path.{◌≡◌, refl, sym, ap, ap₂, ◌∙◌, subst}
use mathlib.Core.Bool.{Bool, true, false, cond, ◌&&◌, and-eq-true_iff, and-false}
use mathlib.Core.List.{List}
use Prim.Native.Nat.{ℕ, zero, suc, ◌+◌, ◌-◌, ◌*◌, ◌/◌, ◌≤◌, ◌<◌, min}
use native.Mathlib.Omega.{arith}
use lib.Bits.{bit_xor}
use lib.Dec.{eqb, leb, ltb}
use Rattle.std.specs.Prelude.{Option, None, Some}
use borrow.Author.Tests.{ltb-true, leb-true, le-leb, lt-leb}
use Rattle.decision.specs.Bounded.{only_if}
use Rattle.decision.proofs.Laws.{only_if-none, only_if-some}
use Rattle.field.specs.declared.Guid.{Guid}
use Rattle.crc32c.specs.Crc.{ones}
use Rattle.vhdx_entry.specs.Entry.{signature_rule, guid_rule, tail_rule, number_rule, whole_sectors, tail, descriptor_count, descriptor_sectors, header_rule, data_sector_rule, is_data_descriptor}
use Rattle.vhdx_pieces_entry.specs.declared.Reading.{Reading}
use Rattle.std.specs.declared.ops.ControlFlow.TheVariants.{Continue, Break}
use Rattle.vhdx_pieces_entry.specs.Sector.{descriptor_in, passes, data_in}
use Rattle.vhdx_pieces_entry.specs.Pass.{Progress, front, size_of, closed, settled, from_of, here, past, on_front, on_data, further, beginning, first, Sized, Sane, Kept}
use Rattle.vhdx_pieces_entry.proofs.Laws.{chosen}

pub few-data : (s : List ℕ) (from m : ℕ) → data_in s from m ≤ m
unfolding data_in
few-data s from zero = omega arith
few-data s from (suc m) = go (is_data_descriptor (descriptor_in s from m)) (few-data s from m)
  where
    go : (b : Bool) → data_in s from m ≤ m → data_in s from m + cond b 1 0 ≤ suc m
    go true h = omega arith
    go false h = omega arith

kept-closed : (n : ℕ) (x : Reading) (size : ℕ) → 0 < size → size ≤ n → x.tail < n → Kept n (closed x size)
unfolding closed
kept-closed n x size a b d = go (eqb x.sum (bit_xor x.state ones))
  where
    go : (t : Bool) → Kept n (Break (only_if t (record { size = size; number = x.number; tail = x.tail })))
    go true = (a, b, d)
    go false = tt

pub kept-settled : (n : ℕ) (x : Reading) → Sized n x → Kept n (settled n x)
unfolding settled
kept-settled n x s =
    chosen (Kept n) (ltb x.read (front x)) _ _
    (λ e. let l : x.read < front x = ltb-true _ _ e in record { sized = s; short = omega (arith, s.fits) })
    (λ _. chosen (Kept n) (leb (size_of x) n && eqb x.bytes (size_of x * 4096)) _ _
    (λ t.
    let fits : size_of x ≤ n = leb-true _ _ ((and-eq-true_iff (leb (size_of x) n) (eqb x.bytes (size_of x * 4096))).0 t).0 in
    chosen (Kept n) (ltb x.read (size_of x)) _ _
    (λ e. let l : x.read < size_of x = ltb-true _ _ e in record { sized = s; short = omega arith })
    (λ _. kept-closed n x (size_of x) (omega arith) fits s.tail))
    (λ _. tt))

-- past a sector with m descriptors, d of them data descriptors
pub past-sized : (n : ℕ) (x : Reading) (m d : ℕ) (s : List ℕ) → Sized n x → m ≤ x.count - x.seen → d ≤ m → Sized n (past x m d s)
past-sized n x m d s z a b =
    record { few = z.few; seen = omega (arith, z.seen); found = omega (arith, z.found); fits = z.fits; tail = z.tail }

kept-front : (n : ℕ) (x : Reading) (s : List ℕ) → Sized n x → Kept n (on_front n x s)
unfolding on_front
kept-front n x s z =
    chosen (Kept n) (passes x.number s (from_of x.read) (here x)) _ _
    (λ _. kept-settled n _ (past-sized n x (here x) (data_in s (from_of x.read) (here x)) s z (omega arith) (few-data s (from_of x.read) (here x))))
    (λ _. tt)

kept-data : (n : ℕ) (x : Reading) (s : List ℕ) → Sized n x → Kept n (on_data n x s)
unfolding on_data
kept-data n x s z = chosen (Kept n) (data_sector_rule x.number s) _ _ (λ _. kept-settled n _ (past-sized n x 0 0 s z (omega arith) (omega arith))) (λ _. tt)

pub kept-further : (n : ℕ) (x : Reading) (s : List ℕ) → Sane n x → Kept n (further n x s)
unfolding further
kept-further n x s z = chosen (Kept n) (ltb x.read (front x)) _ _ (λ _. kept-front n x s z.sized) (λ _. kept-data n x s z.sized)

-- the Tail lies in the log
tail-below : (guid : Guid) (n : ℕ) (s : List ℕ) → header_rule guid (n * 4096) s ≡ true → tail s / 4096 < n
unfolding header_rule
tail-below guid n s h =
    let a = (and-eq-true_iff (signature_rule s) _).0 h in
    let b = (and-eq-true_iff (guid_rule guid s) _).0 a.1 in
    let d = (and-eq-true_iff (tail_rule (n * 4096) s) (number_rule s)).0 b.1 in
    let e = (and-eq-true_iff (whole_sectors (tail s)) (ltb (tail s) (n * 4096))).0 d.0 in
    let f : tail s < n * 4096 = ltb-true _ _ e.1 in
    omega arith

pub sane-first : (n : ℕ) (s : List ℕ) → n < 33554432 → descriptor_sectors (descriptor_count s) ≤ n → tail s / 4096 < n → Sane n (beginning s)
sane-first n s h f g = record { sized = record { few = omega arith; seen = omega arith; found = omega arith; fits = f; tail = g }; short = omega arith }

pub kept-first : (guid : Guid) (n : ℕ) (s : List ℕ) → n < 33554432 → Kept n (first guid n s)
unfolding first
kept-first guid n s h =
    chosen (Kept n) (header_rule guid (n * 4096) s && leb (descriptor_sectors (descriptor_count s)) n) _ _
    (λ t.
    let both = (and-eq-true_iff (header_rule guid (n * 4096) s) (leb (descriptor_sectors (descriptor_count s)) n)).0 t in
    let fits : descriptor_sectors (descriptor_count s) ≤ n = leb-true _ _ both.1 in
    kept-front n (beginning s) s (sane-first n s h fits (tail-below guid n s both.0)).sized)
    (λ _. tt)

-- ---- each sector counts as read

-- k sectors are read where a further one is wanted
abbrev pub Read : ℕ → Progress → Type 0
Read k (Continue x) = x.read ≡ k
Read k (Break o) = Unit {0}

read-settled : (n : ℕ) (x : Reading) → Read x.read (settled n x)
unfolding settled closed
read-settled n x =
    let P = Read x.read in
    chosen P (ltb x.read (front x)) _ _ (λ _. refl)
    (λ _. chosen P (leb (size_of x) n && eqb x.bytes (size_of x * 4096)) _ _
    (λ _. chosen P (ltb x.read (size_of x)) _ _ (λ _. refl) (λ _. tt))
    (λ _. tt))

read-front : (n : ℕ) (x : Reading) (s : List ℕ) → Read (x.read + 1) (on_front n x s)
unfolding on_front
read-front n x s =
    chosen (Read (x.read + 1)) (passes x.number s (from_of x.read) (here x)) _ _
    (λ _. read-settled n (past x (here x) (data_in s (from_of x.read) (here x)) s)) (λ _. tt)

pub read-further : (n : ℕ) (x : Reading) (s : List ℕ) → Read (x.read + 1) (further n x s)
unfolding further on_data
read-further n x s =
    let P = Read (x.read + 1) in
    chosen P (ltb x.read (front x)) _ _ (λ _. read-front n x s) (λ _. chosen P (data_sector_rule x.number s) _ _ (λ _. read-settled n (past x 0 0 s)) (λ _. tt))

pub read_first : (guid : Guid) (n : ℕ) (s : List ℕ) → Read (0 + 1) (first guid n s)
unfolding first
read_first guid n s =
    chosen (Read (0 + 1)) (header_rule guid (n * 4096) s && leb (descriptor_sectors (descriptor_count s)) n) _ _ (λ _. read-front n (beginning s) s) (λ _. tt)

-- ---- what the code's tests decide

-- the descriptors of a sector lie in it
pub fits-here : (x : Reading) {from m : ℕ} → from ≡ from_of x.read → m ≡ here x → from + 32 * m ≤ 4096
fits-here x {from} {m} p q = go (eqb x.read 0) p q
  where
    go : (b : Bool) → from ≡ cond b 64 0 → m ≡ min (x.count - x.seen) (cond b 126 128) → from + 32 * m ≤ 4096
    go true p q = omega arith
    go false p q = omega arith

module _ (x : Reading) (s : List ℕ) {from m : ℕ} (t : Option ℕ) (p : from ≡ from_of x.read) (q : m ≡ here x)
    (e : t ≡ only_if (passes x.number s from m) (data_in s from m)) where
  same : only_if (passes x.number s from m) (data_in s from m) ≡ only_if (passes x.number s (from_of x.read) (here x)) (data_in s (from_of x.read) (here x))
  same = ap₂ (λ (f k : ℕ). only_if (passes x.number s f k) (data_in s f k)) p q

  pub told : {d : ℕ} → t ≡ Some d → (d ≡ data_in s (from_of x.read) (here x)) × (d ≤ m)
  told {d} h =
      let is = (only_if-some (passes x.number s from m) (data_in s from m) (sym h ∙ e)).1 in
      (is ∙ ap₂ (λ (f k : ℕ). data_in s f k) p q, omega (arith, is, few-data s from m))

  pub broken : (n : ℕ) → t ≡ None → Break None ≡ on_front n x s
  unfolding on_front
  broken n h =
      let no = only_if-none (passes x.number s (from_of x.read) (here x)) _ (sym h ∙ e ∙ same) in
      sym (ap (λ (b : Bool). cond b (settled n (past x (here x) (data_in s (from_of x.read) (here x)) s)) (Break None)) no)

  pub whole : (n : ℕ) {d : ℕ} → t ≡ Some d → {y : Reading} → y ≡ past x m d s → settled n y ≡ on_front n x s
  unfolding on_front
  whole n {d} h {y} r =
      let yes = (only_if-some (passes x.number s (from_of x.read) (here x)) _ (sym h ∙ e ∙ same)).0 in
      ap (settled n) (r ∙ ap₂ (λ (k j : ℕ). past x k j s) q (told h).0)
      ∙ sym (ap (λ (b : Bool). cond b (settled n (past x (here x) (data_in s (from_of x.read) (here x)) s)) (Break None)) yes)

module _ (guid : Guid) (n : ℕ) (s : List ℕ) {c f : ℕ} {k : Bool} (p : c ≡ descriptor_count s) (q : f ≡ descriptor_sectors c) (r : k ≡ header_rule guid (n * 4096) s) where
  tests : (b : Bool) → (k && leb f n) ≡ b → header_rule guid (n * 4096) s && leb (descriptor_sectors (descriptor_count s)) n ≡ b
  tests b h = sym (ap₂ (λ (x : Bool) (y : ℕ). x && leb y n) r (q ∙ ap descriptor_sectors p)) ∙ h

  taken : k ≡ true → f ≤ n → header_rule guid (n * 4096) s && leb (descriptor_sectors (descriptor_count s)) n ≡ true
  taken h l = tests true (ap (λ (b : Bool). b && leb f n) h ∙ le-leb f n l)

  pub first_taken : k ≡ true → f ≤ n → {x : Reading} → x ≡ beginning s → on_front n x s ≡ first guid n s
  unfolding first
  first_taken h l e = ap (λ (x : Reading). on_front n x s) e ∙ sym (ap (λ (b : Bool). cond b (on_front n (beginning s) s) (Break None)) (taken h l))

  left : (k && leb f n) ≡ false → Break None ≡ first guid n s
  unfolding first
  left h = sym (ap (λ (b : Bool). cond b (on_front n (beginning s) s) (Break None)) (tests false h))

  pub bad-header : k ≡ false → Break None ≡ first guid n s
  bad-header h = left (ap (λ (b : Bool). b && leb f n) h)

  pub too-long : n < f → Break None ≡ first guid n s
  too-long l = left (ap (λ (b : Bool). k && b) (lt-leb f n l) ∙ and-false k)

  pub first-sane : n < 33554432 → k ≡ true → f ≤ n → {x : Reading} → x ≡ beginning s → Sane n x
  first-sane l h m e =
      let both = (and-eq-true_iff (header_rule guid (n * 4096) s) (leb (descriptor_sectors (descriptor_count s)) n)).0 (taken h m) in
      let fits : descriptor_sectors (descriptor_count s) ≤ n = leb-true _ _ both.1 in
      subst (Sane n) (sym e) (sane-first n s l fits (tail-below guid n s both.0))

module _ (n : ℕ) (x : Reading) (s : List ℕ) {f : ℕ} (q : f ≡ descriptor_sectors x.count) where
  pub on-front-further : ltb x.read f ≡ true → on_front n x s ≡ further n x s
  unfolding further
  on-front-further h = sym (ap (λ (b : Bool). cond b (on_front n x s) (on_data n x s)) (sym (ap (ltb x.read) q) ∙ h))

  pub on-data-further : ltb x.read f ≡ false → on_data n x s ≡ further n x s
  unfolding further
  on-data-further h = sym (ap (λ (b : Bool). cond b (on_front n x s) (on_data n x s)) (sym (ap (ltb x.read) q) ∙ h))
