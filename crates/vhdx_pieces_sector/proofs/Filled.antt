-- A sector's two ends put over the one that was read.
-- Assumes nothing.
use mathlib.Core.Path.{◌≡◌, refl, sym, ap, ap₂, ◌∙◌}
use mathlib.Core.List.{List, ◌++◌, append-nil}
use Prim.Native.Nat.{ℕ, ◌+◌}
use native.Mathlib.Omega.{arith}
use lib.ListN.{length, take, drop, replicate, length-replicate, drop_of_length-le}
use Rattle.std.specs.Int.{w32, w64, to_le_bytes}
use Rattle.field.specs.Fields.{le_bytes}
use Rattle.field.proofs.Laws.{bytes_of}
use Rattle.field.proofs.Bytes.{le-bytes-long}
use Rattle.vhdx_walk.specs.Entries.{zero_sector}
use Rattle.vhdx_steps.specs.Buffer.{put, zeroed}
use Rattle.vhdx_replay.proofs.Assembled.{assembled}
use Rattle.vhdx_pieces_walk.specs.declared.Held.{Held}
use Rattle.vhdx_pieces_walk.specs.Walking.{data_sector}

-- all of a list put over another of its length
pub put_all : (s d : List ℕ) → length d ≡ length s → put s 0 d ≡ d
unfolding put
put_all s d e = ap (λ (r : List ℕ). d ++ r) (drop_of_length-le s {i = 0 + length d} (omega (arith, e))) ∙ append-nil d

pub completed : (h : Held) (s : List ℕ) → length s ≡ 4096 → put (put s 0 (to_le_bytes w64 h.leading)) 4092 (to_le_bytes w32 h.trailing) ≡ data_sector h s
completed h s e =
    let l = le_bytes 8 h.leading in
    let t = le_bytes 4 h.trailing in
    let ll : length l ≡ 8 = le-bytes-long 8 h.leading in
    let lt : length t ≡ 4 = le-bytes-long 4 h.trailing in
    ap₂ (λ (x y : List ℕ). put (put s 0 x) 4092 y) (bytes_of w64 h.leading) (bytes_of w32 h.trailing)
    ∙ ap (λ (z : List ℕ). put (put z 0 l) 4092 t) (sym (put_all s s refl))
    ∙ ap (λ (k : ℕ). put (put (put s 0 s) 0 l) k t) {x = 4092} {y = length l + 4084} (omega (arith, ll))
    ∙ assembled s s l t 4084 refl (omega (arith, ll, lt, e))
    ∙ ap (λ (k : ℕ). l ++ (take 4084 (drop k s) ++ t)) ll

pub zeros_filled : (s : List ℕ) → length s ≡ 4096 → zeroed s 0 4096 ≡ zero_sector
unfolding zero_sector
zeros_filled s e = put_all s (replicate 4096 0) (length-replicate {A = ℕ} 4096 0 ∙ sym e)
