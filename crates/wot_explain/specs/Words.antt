-- Tables of words by their numbers: the first word that applies counts.
use Rattle.std.specs.Prelude.{ℕ, Bool, false, if◌then◌else◌, List, [], ◌∷◌, Option}
use Rattle.std.specs.Option.{option_map_or}

-- a word, and whether it applies
abbrev pub Word : Type 0
Word = ℕ × Bool

-- the first word that applies, or 0 if none does
abbrev pub first_word : List Word → ℕ
first_word [] = 0
first_word (word ∷ words) = if word.1 then word.0 else first_word words

-- whether there is something for which this holds
abbrev pub is_so : {A : Type 0} → (A → Bool) → Option A → Bool
is_so test found = option_map_or test found false
