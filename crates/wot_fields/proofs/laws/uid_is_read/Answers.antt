use Rattle.std.proofs.Common.{arith}
use Rattle.wot_fields.proofs.Escapes.{unescaped-escaped}
use Rattle.wot_fields.proofs.laws.uid_is_read.Goals as goal

pub returns : goal.returns
returns c = unescaped-escaped c.args.octets.now (λ i. omega (arith, c.type_inv.octets i))
