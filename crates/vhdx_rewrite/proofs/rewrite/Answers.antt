-- `vhdx_rewrite::rewrite` meets its contract: a copy, and three fields over it.
use mathlib.Core.Path.{refl, ap, ◌∙◌}
use native.Mathlib.Omega.{arith}
use lib.ListN.{length, replicate}
use Rattle.std.specs.Int.{w64}
use Rattle.field.proofs.Laws.{bytes_of}
use Rattle.vhdx_rewrite.proofs.Rewriting.{rewritten-long, rewrite-is}
use Rattle.vhdx_rewrite.proofs.rewrite.Goals as goal

pub returns : goal.returns
returns c =
    let is = rewrite-is c.args.h.now c.args.identifier.now
    c.bytes.new.buffer c.bytes-2.new.buffer c.zeros.new.buffer c.to_le_bytes-next.result (replicate 16 0) c.sequence_number.result
    c.sequence_number.ensures (c.to_le_bytes-next.ensures ∙ bytes_of w64 _) c.bytes.ensures c.bytes-2.ensures refl c.zeros.ensures in
    record { value = is; len = ap length is ∙ rewritten-long c.args.h.now c.args.identifier.now (omega arith) (omega arith) }
