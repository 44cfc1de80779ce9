-- `vhdx_rewrite::closed` meets its contract: the checksum over the rewritten header.
use mathlib.Core.Path.{ap, ◌∙◌}
use native.Mathlib.Omega.{arith}
use mathlib.Core.List.{List}
use Prim.Native.Nat.{ℕ}
use lib.ListN.{length}
use Rattle.vhdx_steps.specs.Buffer.{put}
use Rattle.field.specs.Fields.{le_bytes}
use Rattle.std.specs.Int.{w32}
use Rattle.field.proofs.Laws.{bytes_of}
use Rattle.field.proofs.Bytes.{le-bytes-long}
use Rattle.vhdx_rewrite.specs.Rewrite.{new_checksum, closed_header}
use Rattle.vhdx_steps.proofs.Bytes.{put-length}
use Rattle.vhdx_rewrite.proofs.closed.Goals as goal

pub returns : goal.returns
unfolding closed_header
returns c =
    let u = c.rewrite-out.result in
    let is = c.bytes.ensures ∙ ap (put u 4) (c.to_le_bytes-sum.ensures ∙ bytes_of w32 _ ∙ ap (le_bytes 4) c.checksum_zeroed.ensures) ∙ ap (λ (x : List ℕ). put x 4 (le_bytes 4 (new_checksum x))) c.rewrite-out.ensures.value in
    record { value = is; len = ap length c.bytes.ensures ∙ put-length u 4 c.to_le_bytes-sum.result (omega (arith, c.rewrite-out.ensures.len, ap length (c.to_le_bytes-sum.ensures ∙ bytes_of w32 _), le-bytes-long 4 c.checksum_zeroed.result)) ∙ c.rewrite-out.ensures.len }
