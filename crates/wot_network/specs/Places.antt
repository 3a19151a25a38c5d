-- Sorted places, walked over together with what is at them.
use Rattle.std.specs.Prelude.{◌≡◌, ℕ, Bool, false, not, ◌&&◌, ◌==◌, if◌then◌else◌, List, [], ◌∷◌}
use Rattle.std.specs.List.{list_any}
use Rattle.wot_verdict.specs.Verdicts.{Entries}
use Rattle.wot_component.specs.Certificate.{Certificate, Component}
use Rattle.wot_standing.specs.declared.status.Standing.{Standing}
use Rattle.wot_standing.specs.Standing.{standing_of}
use Rattle.wot_standing.specs.Usable.{is_in_order}
use Rattle.wot_live.specs.Rows.{places_where, revoked_of}
use Rattle.wot_network.specs.Records.{is_user_id}

abbrev pub is_first : ℕ → List ℕ → Bool
is_first place [] = false
is_first place (p ∷ places) = p == place

abbrev pub behind_first : ℕ → List ℕ → List ℕ
behind_first place [] = []
behind_first place (p ∷ places) = if p == place then places else p ∷ places

-- This is U, and isn't revoked.
abbrev pub is_unrevoked : List ℕ → (Component → Bool) → Component → Bool
is_unrevoked u is_revoked uid = is_user_id u uid && not (is_revoked uid)

-- If the revoked ones are at these places, this is whether some user ID is U and isn't revoked.
abbrev pub TellsUnrevoked : List ℕ → List Component → List ℕ → Bool → Type 0
TellsUnrevoked u user_ids revoked answer =
    (is_revoked : Component → Bool) → revoked ≡ places_where is_revoked 0 user_ids
    → answer ≡ list_any (is_unrevoked u is_revoked) user_ids

-- For each certificate with this standing, these revoked places and these user IDs at t, this is whether it is in order
-- for U.
abbrev pub TellsInOrder : ℕ → List ℕ → List Component → Standing → List ℕ → Bool → Type 0
TellsInOrder t u user_ids standing revoked answer =
    (verdicts : Entries) (c : Certificate) → standing ≡ standing_of verdicts c t → revoked ≡ revoked_of verdicts c t
    → user_ids ≡ c.user_ids → answer ≡ is_in_order verdicts c t (is_user_id u)
