-- Usable edges and valid targets, by the standing of a key.
use Rattle.std.specs.Prelude.{ℕ, Bool, true, not, ◌&&◌, nat_le, nat_lt, Option, is_some}
use Rattle.std.specs.List.{list_any}
use Rattle.std.specs.Option.{option_map_or}
use Rattle.wot_verdict.specs.Verdicts.{Entries}
use Rattle.wot_component.specs.Certificate.{Component, Certificate}
use Rattle.wot_standing.specs.declared.status.Standing.{Standing}
use Rattle.wot_standing.specs.Own.{is_own_revoked}
use Rattle.wot_standing.specs.Standing.{own, standing_of}

-- nothing then, or something after t
abbrev pub is_after : ℕ → Option ℕ → Bool
is_after t moment = option_map_or (nat_lt t) moment true

-- An edge created then is usable at the time of its issuer's standing: the issuer stands, already existed when the edge
-- was created, hadn't expired, isn't hard revoked, and wasn't soft revoked by then.
abbrev pub is_usable : Standing → ℕ → Bool
is_usable issuer made =
    issuer.has && (nat_le issuer.created made
    && (is_after made issuer.end && (not issuer.hard && is_after made issuer.soft)))

-- A key is a valid target at t if it stands, already exists, hasn't expired and isn't revoked.
abbrev pub is_key_in_order : Standing → ℕ → Bool
is_key_in_order target t =
    target.has && (nat_le target.created t && (is_after t target.end && (not target.hard && not (is_some target.soft))))

-- A certificate is a valid target for a user ID at t if its key is one, and the user ID is there and not revoked by its
-- key.
abbrev pub is_in_order : Entries → Certificate → ℕ → (Component → Bool) → Bool
is_in_order verdicts c t is_wanted =
    is_key_in_order (standing_of verdicts c t) t
    && list_any (λ uid. is_wanted uid && not (is_own_revoked verdicts (own c) t uid)) c.user_ids
