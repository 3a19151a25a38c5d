use Rattle.std.proofs.Common.{◌≡◌, ◌≤◌, ◌++◌, length}
use Rattle.std.specs.Str.{IsUtf8, chars}
use Rattle.std.specs.Str.Iter.{chars_rest}
use Rattle.wot_pattern.proofs.parser.characters_of.Given as goal

abbrev pub invariant-characters : goal.invariant-characters
invariant-characters l =
    IsUtf8 (chars_rest l.rest) × (chars l.text ≡ l.characters.items ++ chars (chars_rest l.rest))
    × (length l.characters.items ≤ 1024)

abbrev pub decreases-characters : goal.decreases-characters
decreases-characters l = length (chars_rest l.rest)
