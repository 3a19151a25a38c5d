-- What verdicts give one certificate.
use Rattle.std.specs.Prelude.{◌≡◌, ℕ}
use Rattle.std.specs.List.{AllByRecursion}
use Rattle.wot_types.specs.declared.fpr.Fpr.{Fpr}
use Rattle.wot_verdict.specs.Verdicts.{Entries}
use Rattle.wot_component.specs.Certificate.{Certificate, Component, Signature}
use Rattle.wot_component.specs.Counts.{all_sigs}
use Rattle.wot_cert.specs.Revoked.{is_unrevoked}
use Rattle.wot_standing.specs.Own.{is_own_revoked}
use Rattle.wot_standing.specs.Standing.{newest_certification, standing_of}
use Rattle.wot_keyring_spec.specs.Later.{SaysSame}

-- By both, of an issuer's certifications on the user ID the same is the newest, the same signatures are unrevoked, and
-- the user ID is revoked or isn't.
pub record GiveSame (verdicts other : Entries) (issuer : Fpr) (t : ℕ) (uid : Component) : Type 0 where
  pub newest : newest_certification verdicts issuer t uid ≡ newest_certification other issuer t uid
  pub unrevoked : (s : Signature) → is_unrevoked verdicts issuer t uid.sigs s ≡ is_unrevoked other issuer t uid.sigs s
  pub revoked : is_own_revoked verdicts issuer t uid ≡ is_own_revoked other issuer t uid

-- Verdicts that say the same of a user ID's signatures give the same there.
abbrev pub DecideUserIds : Type 0
DecideUserIds =
    (verdicts other : Entries) (issuer : Fpr) (t : ℕ) (uid : Component)
    → AllByRecursion (SaysSame verdicts other) uid.sigs → GiveSame verdicts other issuer t uid

-- Verdicts that say the same of all its signatures give a key the same standing.
abbrev pub DecideStandings : Type 0
DecideStandings =
    (verdicts other : Entries) (c : Certificate) (t : ℕ)
    → AllByRecursion (SaysSame verdicts other) (all_sigs c) → standing_of verdicts c t ≡ standing_of other c t
