-- Why a certificate isn't in order for a user ID at t.
use Rattle.std.specs.Prelude.{◌≡◌, ◌↔◌, ◌&&◌, ℕ, Bool, true, not, nat_lt, List, [], ◌∷◌, is_some}
use Rattle.wot_standing.specs.declared.status.Standing.{Standing}
use Rattle.wot_standing.specs.Usable.{is_after, is_key_in_order}
use Rattle.wot_explain.specs.Words.{Word, first_word}

-- from the certificate's standing at t, and from whether its own key revoked the user ID
abbrev pub target_words : Standing → ℕ → Bool → List Word
target_words target t revoked =
    -- it has no standing
    (1, not target.has)
    -- it was created after t
    ∷ (2, nat_lt t target.created)
    -- it expired at or before t
    ∷ (3, not (is_after t target.end))
    -- it is hard revoked
    ∷ (4, target.hard)
    -- it is soft revoked
    ∷ (5, is_some target.soft)
    -- the user ID is revoked
    ∷ (6, revoked)
    ∷ []

abbrev pub target_word : Standing → ℕ → Bool → ℕ
target_word target t revoked = first_word (target_words target t revoked)

-- The word is 0 if and only if the key is in order at t and the user ID isn't revoked.
abbrev pub IsZeroInOrder : Standing → ℕ → Bool → Type 0
IsZeroInOrder target t revoked = (target_word target t revoked ≡ 0) ↔ ((is_key_in_order target t && not revoked) ≡ true)
