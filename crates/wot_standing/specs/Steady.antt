-- What is live at one time if and only if it is at another.
use Rattle.std.specs.Prelude.{◌≡◌, ℕ}
use Rattle.std.specs.List.{AllByRecursion}
use Rattle.wot_component.specs.Certificate.{Signature, Component, Certificate}
use Rattle.wot_cert.specs.Time.{is_live}
use Rattle.wot_types.specs.declared.fpr.Fpr.{Fpr}
use Rattle.wot_verdict.specs.Verdicts.{Entries}
use Rattle.wot_standing.specs.Own.{is_own_revoked}
use Rattle.wot_standing.specs.Standing.{newest_certification}

-- live at both times or at neither
abbrev pub Same : ℕ → ℕ → Signature → Type 0
Same t u s = is_live t s ≡ is_live u s

abbrev pub SameOn : ℕ → ℕ → Component → Type 0
SameOn t u p = AllByRecursion (Same t u) p.sigs

-- Each signature on the key and on the user IDs is live at both times or at neither.
pub record IsSteady (c : Certificate) (t u : ℕ) : Type 0 where
  pub direct : AllByRecursion (Same t u) c.direct
  pub user_ids : AllByRecursion (SameOn t u) c.user_ids

-- The newest certification by this key on a user ID is the same at both times, and so is whether it revoked the user
-- ID.
pub record SameBy (verdicts : Entries) (issuer : Fpr) (t u : ℕ) (uid : Component) : Type 0 where
  pub certification : newest_certification verdicts issuer t uid ≡ newest_certification verdicts issuer u uid
  pub revoked : is_own_revoked verdicts issuer t uid ≡ is_own_revoked verdicts issuer u uid

abbrev pub AreSameBy : Entries → Fpr → ℕ → ℕ → Certificate → Type 0
AreSameBy verdicts issuer t u c = AllByRecursion (SameBy verdicts issuer t u) c.user_ids
