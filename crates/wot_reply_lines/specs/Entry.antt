-- The name of an entry of the certificate directory, in a line.
use Rattle.std.specs.Prelude.{ℕ, if◌then◌else◌, List, Option, Some, None, codes}
use Rattle.std.specs.Str.{bytes_eq}
use Rattle.std.specs.Option.{option_map, option_or}
use Rattle.wot_types.specs.Fpr.{digits_of, fpr_of_digits}
use Rattle.wot_types.specs.declared.name.Name.{Name}
use Rattle.wot_types.specs.declared.name.Name.TheVariants.{Cert, TrustRoot}

-- NAME: FPR or `trust-root`
abbrev pub entry_of : List ℕ → Option Name
entry_of text =
    option_or (option_map Cert (fpr_of_digits text))
    (if bytes_eq text (codes "trust-root") then Some TrustRoot else None)

-- the name of an entry of the certificate directory
abbrev pub entry_text : Name → List ℕ
entry_text (Cert fpr) = digits_of fpr
entry_text TrustRoot = codes "trust-root"
