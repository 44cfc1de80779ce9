use Rattle.std.proofs.Common.{rules}
use Rattle.std.proofs.lemmas.Fmt.{length-decimal-le}
use Rattle.list_writes.proofs.lines.Lines.push.Goals as goal

-- a number below 2 ^ 64 has at most 20 digits
pub write_digits-start-requires : goal.write_digits-start-requires
write_digits-start-requires g c = search (rules, length-decimal-le 20)
