use Rattle.std.proofs.Common.{◌≡◌, ℕ, List, Option, Some, None}
use Rattle.std.specs.Option.{option_map, option_or}
use Rattle.wot_types.specs.Digits.{array_of_digits}
use Rattle.wot_types.specs.declared.fpr.Fpr.TheVariants.{V4, V6}
use Rattle.wot_types.proofs.laws.forty_digits_are_of_version_4.Goals as goal

of_version_4 : (o p : Option (List ℕ)) (octets : List ℕ)
    → option_or (option_map V4 o) (option_map V6 p) ≡ Some (V4 octets) → o ≡ Some octets
of_version_4 (Some a) p octets e = cc
of_version_4 None None octets e = absurd cc
of_version_4 None (Some a) octets e = absurd cc

pub returns-clause-only : goal.returns-clause-only
returns-clause-only c = λ digits octets e. of_version_4 (array_of_digits 20 digits) (array_of_digits 32 digits) octets e
