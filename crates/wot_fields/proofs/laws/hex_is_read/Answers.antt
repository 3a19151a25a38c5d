use Rattle.std.proofs.Common.{ap, arith}
use Rattle.std.specs.Result.{result_ok}
use Rattle.hex.proofs.HexLemmas.{decode_of-encode_lower}
use Rattle.wot_fields.proofs.laws.hex_is_read.Goals as goal

pub returns : goal.returns
returns c = ap result_ok (decode_of-encode_lower c.args.octets.now (λ i. omega (arith, c.type_inv.octets i)))
