-- User IDs that are revoked by their own key.
use Rattle.std.specs.Prelude.{ℕ, Bool, not, ◌&&◌, is_some}
use Rattle.std.specs.List.{list_any}
use Rattle.wot_types.specs.declared.fpr.Fpr.{Fpr}
use Rattle.wot_verdict.specs.Verdicts.{Entries}
use Rattle.wot_component.specs.Certificate.{Component}
use Rattle.wot_cert.specs.Revoked.{revokes_by}
use Rattle.wot_standing.specs.Standing.{newest_certification}

-- The user ID has a live revocation by this key, and no live self-certification that isn't revoked.
abbrev pub is_own_revoked : Entries → Fpr → ℕ → Component → Bool
is_own_revoked verdicts fpr t uid =
    list_any (revokes_by verdicts fpr t) uid.sigs && not (is_some (newest_certification verdicts fpr t uid))
