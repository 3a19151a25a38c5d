-- The words of explanations, each at its number.
use Rattle.std.specs.Prelude.{ℕ, ◌<◌, List, [], ◌∷◌, codes, length, get_or}

-- for the target: why it isn't valid for the user ID
abbrev pub target_words : List (List ℕ)
target_words =
    codes "ok"
    ∷ codes "standing"
    ∷ codes "young"
    ∷ codes "ended"
    ∷ codes "hard"
    ∷ codes "soft"
    ∷ codes "uid"
    ∷ []

-- for a certification: why it isn't a usable edge
abbrev pub reason_words : List (List ℕ)
reason_words =
    codes "edge"
    ∷ codes "unsound"
    ∷ codes "unjudged"
    ∷ codes "bad"
    ∷ codes "foreign"
    ∷ codes "policy"
    ∷ codes "early"
    ∷ codes "expired"
    ∷ codes "revoked"
    ∷ codes "older"
    ∷ codes "issuer-absent"
    ∷ codes "issuer-standing"
    ∷ codes "issuer-young"
    ∷ codes "issuer-ended"
    ∷ codes "issuer-hard"
    ∷ codes "issuer-soft"
    ∷ []

-- the word with this number in a table; no octets if the table has no such number
abbrev pub word_at : List (List ℕ) → ℕ → List ℕ
word_at words number = get_or words number []

-- the table has this number
abbrev pub IsWordOf : List (List ℕ) → ℕ → Type 0
IsWordOf words number = number < length words
