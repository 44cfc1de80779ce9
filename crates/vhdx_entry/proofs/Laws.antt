-- What stands in the ring read from a sector on: sector k of it is sector (s + k) % n of the log, and what lies in one
-- sector is that sector's. And laws of loops over descriptors and sectors.
-- Assumes nothing.
use mathlib.Core.Path.{◌≡◌, refl, sym, ap, ◌∙◌}
use mathlib.Core.Bool.{Bool, cond}
use mathlib.Core.List.{List, [], ◌∷◌, ◌++◌}
use Prim.Native.Nat.{ℕ, zero, suc, ◌+◌, ◌-◌, ◌*◌, ◌/◌, ◌%◌, ◌≤◌, ◌<◌}
use native.Mathlib.Decide.{dec_lt}
use native.Mathlib.Nat.{mod-eq_of_lt, add-mod_right}
use native.Mathlib.Numerals.{add-one}
use native.Mathlib.Omega.{arith}
use lib.ListN.{length, take, drop, length-drop, length-append}
use lib.Seq.{length-take-le, take-take, drop-drop, take-append-le, drop-append-le, drop-append-add, take-add}
use Rattle.decision.specs.Bounded.{every}
use Rattle.field.specs.Fields.{le, field}
use Rattle.vhdx_entry.specs.Ring.{ring, sector_at, offset_in, On}
use Rattle.vhdx_entry.specs.declared.ring.RingPos.{RingPos}
use Rattle.vhdx_entry.specs.Entry.{data_before, is_data_descriptor, descriptor}

-- once round: a sector of the second lap is the same sector of the first
pub mod-round : (n s c : ℕ) → s < n → c ≡ s + n → c % n ≡ s
mod-round n s c b h = ap (λ (x : ℕ). x % n) h ∙ add-mod_right s n ∙ mod-eq_of_lt b

-- what lies in the first a bytes is read off them
pub within-take : (w m a : ℕ) (l : List ℕ) → m + w ≤ a → take w (drop m (take a l)) ≡ take w (drop m l)
within-take w zero a l h = take-take w a l (omega arith)
within-take w (suc m) zero l h = absurd (omega arith)
within-take w (suc m) (suc a) [] h = refl
within-take w (suc m) (suc a) (x ∷ l) h = within-take w m a l (omega arith)

pub field_in : (s : List ℕ) (at m j w : ℕ) → j + w ≤ m → field (take m (drop at s)) j w ≡ field s (at + j) w
unfolding field
field_in s at m j w h =
    ap le (within-take w j m (drop at s) h ∙ ap (take w) (drop-drop j at s))

pub field-of-sector : (s : List ℕ) (k j w : ℕ) → j + w ≤ 4096 → field (sector_at s k) j w ≡ field s (k * 4096 + j) w
unfolding sector_at
field-of-sector s k j w h = field_in s (k * 4096) 4096 j w h

-- the first sectors and the next
pub sector-next : (r : List ℕ) (k : ℕ) → take ((k + 1) * 4096) r ≡ take (k * 4096) r ++ sector_at r k
unfolding sector_at
sector-next r k = ap (λ (n : ℕ). take n r) {x = (k + 1) * 4096} {y = k * 4096 + 4096} (omega arith) ∙ take-add (k * 4096) 4096 r

pub data-more : (r : List ℕ) (i : ℕ) → data_before r (i + 1) ≡ data_before r i + cond (is_data_descriptor (descriptor r i)) 1 0
unfolding data_before
data-more r i = rw (add-one i)

-- tests that agree below a bound
pub every-same : (f g : ℕ → Bool) (m : ℕ) → ((k : ℕ) → k < m → f k ≡ g k) → every m f ≡ every m g
unfolding every
every-same f g zero h = refl
every-same f g (suc m) h = rw (every-same f g m (λ k b. h k (omega arith)), h m (omega arith))

module _ (log : List ℕ) (n s : ℕ) (whole : length log ≡ n * 4096) (here : s < n) where
  length_rest : length (drop (s * 4096) log) ≡ (n - s) * 4096
  length_rest = length-drop (s * 4096) log ∙ omega arith

  pub length-ring : length (ring log s) ≡ length log
  unfolding ring
  length-ring =
      length-append (drop (s * 4096) log) (take (s * 4096) log)
      ∙ omega (arith, length_rest, length-take-le (s * 4096) log (omega arith))

  before-end : (k : ℕ) → s + k < n → sector_at (ring log s) k ≡ sector_at log (s + k)
  unfolding ring sector_at
  before-end k b =
      let e = length_rest in
      let f : length (drop (k * 4096) (drop (s * 4096) log)) ≡ length (drop (s * 4096) log) - k * 4096 = length-drop (k * 4096) (drop (s * 4096) log) in
      let p : 4096 ≤ length (drop (k * 4096) (drop (s * 4096) log)) = omega arith in
      let q : s * 4096 + k * 4096 ≡ (s + k) * 4096 = omega arith in
      ap (take 4096) (drop-append-le (k * 4096) (drop (s * 4096) log) (take (s * 4096) log) (omega arith))
      ∙ take-append-le 4096 (drop (k * 4096) (drop (s * 4096) log)) (take (s * 4096) log) p
      ∙ ap (take 4096) (drop-drop (k * 4096) (s * 4096) log ∙ ap (λ (x : ℕ). drop x log) q)

  after-end : (k : ℕ) → k < n → n ≤ s + k → sector_at (ring log s) k ≡ sector_at log (s + k - n)
  unfolding ring sector_at
  after-end k b c =
      let e = length_rest in
      let q : k * 4096 ≡ length (drop (s * 4096) log) + (s + k - n) * 4096 = omega arith in
      ap (take 4096)
      (ap (λ (x : ℕ). drop x (drop (s * 4096) log ++ take (s * 4096) log)) q
      ∙ drop-append-add (drop (s * 4096) log) (take (s * 4096) log) ((s + k - n) * 4096))
      ∙ within-take 4096 ((s + k - n) * 4096) (s * 4096) log (omega arith)

  pub sector-on : (k : ℕ) → k < n → sector_at (ring log s) k ≡ sector_at log ((s + k) % n)
  sector-on k b = go (dec_lt (s + k) n)
    where
      go : Dec (s + k < n) → sector_at (ring log s) k ≡ sector_at log ((s + k) % n)
      go (yes c) = before-end k c ∙ ap (sector_at log) (sym (mod-eq_of_lt c))
      go (no c) = after-end k b (omega arith) ∙ ap (sector_at log) (sym (mod-round n (s + k - n) (s + k) (omega arith) (omega arith)))

  pub sector-first : take (1 * 4096) (ring log s) ≡ sector_at log s
  unfolding sector_at
  sector-first =
      sector-on 0 (omega arith) ∙ ap (sector_at log) (ap (λ (x : ℕ). x % n) {x = s + 0} (omega arith) ∙ mod-eq_of_lt here)

  -- a field of the entry's sector k
  pub ring-field : (k j w : ℕ) → k < n → j + w ≤ 4096 → field (ring log s) (k * 4096 + j) w ≡ field (sector_at log ((s + k) % n)) j w
  ring-field k j w b h =
      sym (field-of-sector (ring log s) k j w h) ∙ ap (λ (x : List ℕ). field x j w) (sector-on k b)

  -- a field of the entry's header
  pub first_field : (j w : ℕ) → j + w ≤ 4096 → field (ring log s) j w ≡ field (sector_at log s) j w
  first_field j w h =
      ap (λ (x : ℕ). field (ring log s) x w) {x = j} {y = 0 * 4096 + j} (omega arith)
      ∙ ring-field 0 j w (omega arith) h
      ∙ ap (λ (x : ℕ). field (sector_at log x) j w) (ap (λ (x : ℕ). x % n) {x = s + 0} (omega arith) ∙ mod-eq_of_lt here)

  -- a run of bytes that lies in one sector of the entry, as a descriptor does
  ring-part : (k j w : ℕ) → k < n → j + w ≤ 4096 → take w (drop (k * 4096 + j) (ring log s)) ≡ take w (drop j (sector_at log ((s + k) % n)))
  unfolding sector_at
  ring-part k j w b h =
      sym (within-take w j 4096 (drop (k * 4096) (ring log s)) h ∙ ap (take w) (drop-drop j (k * 4096) (ring log s)))
      ∙ ap (λ (x : List ℕ). take w (drop j x)) (sector-on k b)

-- bytes of the ring that lie in one sector, read off the log where they stand
pub ring-bytes : (log : List ℕ) (p : RingPos) (m w : ℕ) → On log p → m < length log → m % 4096 + w ≤ 4096
    → take w (drop (offset_in p m) log) ≡ take w (drop m (ring log p.at))
unfolding sector_at
ring-bytes log p m w on b h =
    let k = m / 4096 in
    let j = m % 4096 in
    let t = (p.at + k) % p.len in
    let same : k * 4096 + j ≡ m = omega arith in
    sym (within-take w j 4096 (drop (t * 4096) log) h ∙ ap (take w) (drop-drop j (t * 4096) log))
    ∙ sym (ring-part log p.len p.at on.1 on.0 k j w (omega arith) h)
    ∙ ap (λ (n : ℕ). take w (drop n (ring log p.at))) same

-- a field of a sector that was read at the entry's start
pub in-first : (log : List ℕ) (n s : ℕ) {h : List ℕ} → (s < n) × (length log ≡ n * 4096) → h ≡ sector_at log s → (j w : ℕ) → j + w ≤ 4096 → field h j w ≡ field (ring log s) j w
in-first log n s on e j w b = ap (λ (x : List ℕ). field x j w) e ∙ sym (first_field log n s on.1 on.0 j w b)
