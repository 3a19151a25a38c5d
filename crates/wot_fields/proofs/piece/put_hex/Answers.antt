use Rattle.std.proofs.Common.{rules, ◌∷◌, [], vec_capacity}
use Rattle.hex.specs.Hex.{encode_lower}
use Rattle.wot_fields.proofs.Pieced.{all_put, encode_lower_by_octets, none_put}
use Rattle.wot_fields.proofs.piece.put_hex.Goals as goal

pub returns-in-Err : goal.returns-in-Err
returns-in-Err c =
    rw (encode_lower_by_octets c.args.octets.now)
    (none_put (λ octet. encode_lower (octet ∷ [])) c.args.octets.now c.loop-octet.octet-index 0 c.args.out.now
    c.loop-octet.out c.put_octet_digits.new.out c.truncate.new.self c.len-start.result c.in-Err.fault c.in-Err.fault
    c.loop-octet-test.true c.loop-octet.invariant c.args.out.now.ok.0 c.loop-octet.out.ok.0 c.in-Err.ensures
    c.len-start.ensures c.truncate.ensures.items c.truncate.ensures.capacity)

pub returns : goal.returns
returns c = record {
  appended = rw (encode_lower_by_octets c.args.octets.now)
      (all_put (λ octet. encode_lower (octet ∷ [])) c.args.octets.now c.loop-octet.octet-index c.args.out.now.items
      c.loop-octet.out.items (vec_capacity c.args.out.now) (vec_capacity c.loop-octet.out) c.loop-octet-test.false
      c.loop-octet.invariant);
  kept = tt;
  full = tt;
  grows = search rules;
}
