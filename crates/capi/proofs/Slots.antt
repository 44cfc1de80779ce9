-- Numbers in an array's slots: zeros one after the other, and all slots of an answer to attach.
-- Assumes nothing.
use mathlib.Core.Path.{◌≡◌, refl, sym, ap, ◌∙◌}
use mathlib.Core.List.{List, [], ◌∷◌, ◌++◌}
use Prim.Native.Nat.{ℕ, suc, ◌+◌}
use native.Mathlib.Omega.{arith}
use native.Mathlib.Numerals.{add-one}
use lib.ListN.{length, take, drop, get_or, replicate, set, get_or-append, length-drop}
use lib.Seq.{sets, length-take-le, drop-drop}
use borrow.Rule.Slice.PartMut.{mid_of, put_mid}
use Rattle.std.proofs.lemmas.List.{append_assoc}
use Rattle.std.proofs.lemmas.List.Edits.{sets-eq}
use Rattle.vhdx.specs.Attach.{Attached}
use Rattle.vhdx_slots.specs.Slots.{in_slots, numbers, facts_in}
use Rattle.vhdx_slots.proofs.Laws.{written, facts-read}
use Rattle.capi.specs.Answers.{rest_cleared, attached_in, HoldsTheFacts}

in_slots-sets : (i : ℕ) (xs s : List ℕ) → in_slots i xs s ≡ sets s i xs
unfolding in_slots
in_slots-sets i [] s = refl
in_slots-sets i (x ∷ xs) s = in_slots-sets (i + 1) xs (set s i x) ∙ ap (λ (j : ℕ). sets (set s i x) j xs) (add-one i)

-- what `fill` leaves
pub filled : (s ys : List ℕ) → length s ≡ 32 → ys ≡ replicate (length (mid_of 16 16 s)) 0 → put_mid 16 16 s ys ≡ rest_cleared s
unfolding rest_cleared
filled s ys long e =
    let short : length (mid_of 16 16 s) ≡ 16 = length-take-le 16 (drop 16 s) (omega (arith, long, length-drop 16 s)) in
    ap (put_mid 16 16 s) (e ∙ ap (λ (n : ℕ). replicate n 0) short)
    ∙ ap (λ (l : List ℕ). take 16 s ++ (replicate 16 0 ++ l)) (drop-drop 16 16 s)
    ∙ sym (append_assoc (take 16 s) (replicate 16 0) (drop 32 s))
    ∙ sym (in_slots-sets 16 (replicate 16 0) s ∙ sets-eq (replicate 16 0) s 16 (omega (arith, long)))

pub all_slots : (a : Attached) (s : List ℕ) → rest_cleared (facts_in a.facts (set (set (set s 0 a.refusal) 1 a.length) 2 a.count)) ≡ attached_in a s
unfolding rest_cleared attached_in in_slots numbers
all_slots a s = refl

pub holds-the-facts : HoldsTheFacts
unfolding attached_in numbers
holds-the-facts a answer long =
    let all : List ℕ = a.refusal ∷ a.length ∷ a.count ∷ (numbers a.facts ++ replicate 16 0) in
    facts-read a.facts (attached_in a answer)
    (λ k b.
    let e : 3 + k ≡ suc (suc (suc k)) = omega arith in
    ap (λ (j : ℕ). get_or (attached_in a answer) j 0) {x = 3 + k} {y = 0 + (3 + k)} (omega arith)
    ∙ written 0 all answer (3 + k) (omega arith) (omega arith)
    ∙ ap (λ (j : ℕ). get_or all j 0) e
    ∙ get_or-append (numbers a.facts) (replicate 16 0) 0 k (omega arith))
