use Rattle.std.proofs.Common.{◌≡◌, ◌++◌, drop}
use Rattle.std.specs.Option.{option_map}
use Rattle.wot_fields.specs.Uid.{unescaped, unescaped_from}
use Rattle.wot_fields.proofs.uid.read_octets.Given as goal

abbrev pub invariant-loop-octet : goal.invariant-loop-octet
invariant-loop-octet l =
    option_map (λ others. l.octets.items ++ others) (unescaped_from (drop l.octet-index l.text) l.place) ≡ unescaped
    l.text
