-- Whether the scope of a signature holds for a user ID: it has no regular expression, or the user ID is UTF-8 and a
-- well-formed one matches it.
use Rattle.std.specs.Prelude.{ℕ, ◌⊎◌, List, [], ◌∷◌}
use Rattle.std.specs.Str.{IsUtf8, chars}
use Rattle.wot_pattern.specs.Reading.{Reading}
use Rattle.wot_pattern.specs.Grammar.{Says}
use Rattle.wot_pattern.specs.Meaning.{Matches}

-- the octets are UTF-8 and a well-formed regular expression that matches this text
abbrev pub TextMatches : List ℕ → List ℕ → Type 0
TextMatches octets text =
    IsUtf8 octets × ((pattern : Reading) × Says (chars octets) pattern × Matches (chars text) pattern)

abbrev pub OneMatches : List (List ℕ) → List ℕ → Type 0
OneMatches [] text = ⊥
OneMatches (octets ∷ more) text = TextMatches octets text ⊎ OneMatches more text

-- the scope of these regular expressions holds for the user ID
abbrev pub ScopeHolds : List (List ℕ) → List ℕ → Type 0
ScopeHolds [] uid = Unit {0}
ScopeHolds (octets ∷ more) uid = IsUtf8 uid × OneMatches (octets ∷ more) uid
