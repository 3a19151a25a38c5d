-- Whether a key stands at a time, and what ends it.
use Rattle.std.specs.Prelude.{◌≡◌, ℕ, ◌+◌, ◌==◌, Bool, false, not, ◌&&◌, if◌then◌else◌}
use Rattle.std.specs.Prelude.{List, [], ◌∷◌, map, filter, Option, Some, None, is_some, min}
use Rattle.std.specs.declared.cmp.Ordering.{Ordering}
use Rattle.std.specs.Ordering.{ordering_then, bool_cmp}
use Rattle.std.specs.List.{list_any, filter_map}
use Rattle.std.specs.Option.{option_map_or, option_or}
use Rattle.wot_types.specs.declared.fpr.Fpr.{Fpr}
use Rattle.wot_key.specs.Key.{fpr_of}
use Rattle.wot_verdict.specs.Verdicts.{Entries}
use Rattle.wot_component.specs.Certificate.{Signature, Component, Certificate, said_by}
use Rattle.wot_cert.specs.Issuer.{counts_by}
use Rattle.wot_component.specs.Ranked.{greatest}
use Rattle.wot_cert.specs.Revoked.{has_kind}
use Rattle.wot_cert.specs.Span.{created_of}
use Rattle.wot_cert.specs.Time.{made_of, is_live, newness}
use Rattle.wot_standing.specs.declared.kinds.Binding.TheVariants.{DirectKey, Certification}
use Rattle.wot_standing.specs.declared.status.Standing.{Standing}
use Rattle.wot_standing.specs.Kinds.{is_soft, is_primary}
use Rattle.wot_standing.specs.Valid.{newest_valid}

-- the certificate's own fingerprint
abbrev pub own : Certificate → Fpr
own c = fpr_of c.key

-- ---- the governing signature

-- by the primary mark, then newness
abbrev pub primacy : Signature → Signature → Ordering
primacy a b = ordering_then (bool_cmp (is_primary a) (is_primary b)) (newness a b)

-- the newest certification of a user ID by this key; if it is the user ID's own key, its self-certification
abbrev pub newest_certification : Entries → Fpr → ℕ → Component → Option Signature
newest_certification verdicts fpr t uid = newest_valid verdicts fpr t Certification uid.sigs

-- an issuer with no counting signature on a user ID has no certification there
abbrev pub OnlyCounted : Entries → ℕ → Type 0
OnlyCounted verdicts t =
    (issuer : Fpr) (uid : Component) → list_any (counts_by verdicts issuer) uid.sigs ≡ false
    → newest_certification verdicts issuer t uid ≡ None

-- the governing one among the user IDs: the greatest of their newest self-certifications
abbrev pub primary_among : Entries → Fpr → ℕ → List Component → Option Signature
primary_among verdicts fpr t uids = greatest primacy (filter_map (newest_certification verdicts fpr t) uids)

-- The newest direct key signature governs, or if there is none, the greatest of the self-certifications.
abbrev pub governing : Entries → Certificate → ℕ → Option Signature
governing verdicts c t =
    option_or (newest_valid verdicts (own c) t DirectKey c.direct) (primary_among verdicts (own c) t c.user_ids)

-- ---- end

-- when the key expires by its governing signature, if it ever does
abbrev pub end_by : ℕ → Option Signature → Option ℕ
end_by created None = None
end_by created (Some s) =
    option_map_or (λ f. if f.key_lasts == 0 then None else Some (created + f.key_lasts)) (said_by s) None

-- ---- revoked

-- a revocation of the key (type 0x20) that counts as this key's
abbrev pub revokes_key : Entries → Fpr → Signature → Bool
revokes_key verdicts fpr s = has_kind 32 s && counts_by verdicts fpr s

abbrev pub is_hard_revocation : Entries → Fpr → Signature → Bool
is_hard_revocation verdicts fpr s = revokes_key verdicts fpr s && not (is_soft s)

-- A hard one counts at every time, even before it was created.
abbrev pub is_hard_revoked : Entries → Certificate → Bool
is_hard_revoked verdicts c = list_any (is_hard_revocation verdicts (own c)) c.direct

abbrev pub is_soft_revocation : Entries → Fpr → ℕ → Signature → Bool
is_soft_revocation verdicts fpr t s = revokes_key verdicts fpr s && (is_soft s && is_live t s)

abbrev pub least_of : List ℕ → Option ℕ
least_of [] = None
least_of (m ∷ ms) = Some (option_map_or (min m) (least_of ms) m)

-- when the first of the live soft ones was created
abbrev pub soft_moment : Entries → Fpr → ℕ → List Signature → Option ℕ
soft_moment verdicts fpr t direct = least_of (map made_of (filter (is_soft_revocation verdicts fpr t) direct))

-- ---- standing

-- the standing of a certificate at t
abbrev pub standing_of : Entries → Certificate → ℕ → Standing
standing_of verdicts c t = record {
  has = is_some (governing verdicts c t);
  created = created_of c;
  end = end_by (created_of c) (governing verdicts c t);
  hard = is_hard_revoked verdicts c;
  soft = soft_moment verdicts (own c) t c.direct;
}
