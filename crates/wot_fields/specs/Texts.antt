-- Texts that are made from parts.
use Rattle.std.specs.Prelude.{ℕ, List, [], ◌∷◌, ◌++◌}

-- these texts, one after another
abbrev pub joined : List (List ℕ) → List ℕ
joined [] = []
joined (text ∷ texts) = text ++ joined texts

-- a line of these texts, with its line feed
abbrev pub joined_line : List (List ℕ) → List ℕ
joined_line [] = 10 ∷ []
joined_line (text ∷ texts) = text ++ joined_line texts
