-- Whether a scope holds, as a function. By the law in `laws` it agrees with `ScopeHolds`, so that code can decide it.
use Rattle.std.specs.Prelude.{ℕ, Bool, true, false, ◌&&◌, List, [], ◌∷◌}
use Rattle.std.specs.List.{list_any}
use Rattle.std.specs.Option.{option_map_or}
use Rattle.std.specs.Str.{is_utf8, chars}
use Rattle.wot_pattern.specs.Deciding.{pattern_of}
use Rattle.wot_pattern.specs.MeaningTest.{matches_in}
use Rattle.wot_pattern.specs.Reading.{Reading}

-- whether the octets are UTF-8 and a well-formed regular expression that matches this text
unfoldable pub text_matches : List ℕ → List ℕ → Bool
text_matches text octets =
    is_utf8 octets && option_map_or (λ (pattern : Reading). matches_in pattern (chars text))
    (pattern_of (chars octets)) false

-- whether the scope of these regular expressions holds for the user ID
unfoldable pub scope_holds : List (List ℕ) → List ℕ → Bool
scope_holds [] uid = true
scope_holds (octets ∷ more) uid = is_utf8 uid && list_any (text_matches uid) (octets ∷ more)
