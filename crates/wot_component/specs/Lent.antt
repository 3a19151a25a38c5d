-- What was found, without where it lies in memory.
use Rattle.std.specs.Prelude.{List, Option}
use Rattle.std.specs.Option.{option_map}
use Rattle.std.specs.Borrow.{Bor}
use Rattle.wot_component.specs.Certificate.{Signature, Component}

abbrev pub met_seen : Option (Bor Signature × Bor (List Signature)) → Option (Signature × List Signature)
met_seen found = option_map (λ f. (f.0.now, f.1.now)) found

abbrev pub met_part_seen : Option (Bor Component × Bor (List Component)) → Option (Component × List Component)
met_part_seen found = option_map (λ f. (f.0.now, f.1.now)) found
