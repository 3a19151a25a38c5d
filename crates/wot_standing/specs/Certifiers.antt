-- The newest certification of each issuer on each user ID, known by its place there.
use Rattle.std.specs.Prelude.{◌≡◌, ℕ, ◌==◌, max, false, cond, if◌then◌else◌, ◌&&◌, List, Option, Some, None}
use Rattle.std.specs.declared.cmp.Ordering.{Ordering}
use Rattle.std.specs.BTreeMap.{is_at}
use Rattle.std.specs.List.{slice_get}
use Rattle.std.specs.Map.{lookup}
use Rattle.std.specs.Option.{option_map_or, option_and_then}
use Rattle.std.specs.Ordering.{nat_cmp, on, then_cmp}
use Rattle.wot_types.specs.declared.fpr.Fpr.{Fpr}
use Rattle.wot_types.specs.Fpr.{fpr_cmp, same_fpr}
use Rattle.wot_verdict.specs.Verdicts.{Entries}
use Rattle.wot_component.specs.Certificate.{Signature, Component}
use Rattle.wot_cert.specs.Issuer.{issuer_of}
use Rattle.wot_component.specs.Ranked.{higher_of}
use Rattle.wot_cert.specs.Revoked.{has_kind, revokes_by}
use Rattle.wot_cert.specs.Time.{made_of, is_live, newness}
use Rattle.wot_standing.specs.declared.certifiers.Validity.{Validity}
use Rattle.wot_standing.specs.declared.kinds.Binding.TheVariants.{Certification}
use Rattle.wot_standing.specs.declared.places.Certified.{Certified}
use Rattle.wot_standing.specs.Kinds.{is_certification}
use Rattle.wot_standing.specs.Latest.{revoked_at, is_valid_after}
use Rattle.wot_standing.specs.Standing.{newest_certification}
use Rattle.wot_standing.specs.Valid.{newest_valid}

-- ---- numbers by issuer

-- a number for each issuer that has one
abbrev pub ByIssuer : Type 0
ByIssuer = Fpr → Option ℕ

-- the number that is kept for an issuer, if one is
abbrev pub number_for : List (Fpr × ℕ) → ByIssuer
number_for numbers issuer = lookup (is_at (fpr_cmp issuer)) numbers

-- by issuer and user ID
abbrev pub certified_cmp : Certified → Certified → Ordering
certified_cmp = then_cmp (on (λ certified. certified.issuer) fpr_cmp) (on (λ certified. certified.uid) nat_cmp)

-- the place that is kept for an issuer on this user ID, if one is
abbrev pub place_for : List (Certified × ℕ) → ℕ → ByIssuer
place_for places uid issuer = lookup (is_at (certified_cmp (record { issuer = issuer; uid = uid }))) places

-- no issuer has a place on this user ID yet
abbrev pub HasNone : ℕ → List (Certified × ℕ) → Type 0
HasNone uid places = (issuer : Fpr) → place_for places uid issuer ≡ None

-- the places on all other user IDs are unchanged
abbrev pub StaysElsewhere : ℕ → List (Certified × ℕ) → List (Certified × ℕ) → Type 0
StaysElsewhere uid old new =
    (at : ℕ) (issuer : Fpr) → (uid == at) ≡ false → place_for new at issuer ≡ place_for old at issuer

-- this is now the number for this issuer; all others are unchanged
abbrev pub KeepsNumber : ByIssuer → ByIssuer → Fpr → ℕ → Type 0
KeepsNumber old new issuer number = (q : Fpr) → new q ≡ cond (same_fpr issuer q) (Some number) (old q)

-- the signature at the place that is kept for an issuer
abbrev pub kept_for : ByIssuer → List Signature → Fpr → Option Signature
kept_for places sigs issuer = option_and_then (slice_get sigs) (places issuer)

-- The places are those of the newest certification of each issuer that is live and unrevoked.
abbrev pub KeepsNewest : Entries → ℕ → Component → ByIssuer → Type 0
KeepsNewest verdicts t uid places =
    (issuer : Fpr) → kept_for places uid.sigs issuer ≡ newest_certification verdicts issuer t uid

-- The places on the user ID are those of the newest valid certification of each issuer among these signatures.
abbrev pub ArePlaced : Validity → List Signature → List (Certified × ℕ) → Type 0
ArePlaced by sigs places =
    (issuer : Fpr) → kept_for (place_for places by.uid) sigs issuer
    ≡ newest_valid by.verdicts.now.entries issuer by.t Certification sigs

-- ---- whose a signature is

-- by whom it is a live revocation of certifications
abbrev pub revoker_of : Entries → ℕ → Signature → Option Fpr
revoker_of verdicts t s = if has_kind 48 s && is_live t s then issuer_of verdicts s else None

-- by whom it is a live certification
abbrev pub certifier_of : Entries → ℕ → Signature → Option Fpr
certifier_of verdicts t s = if is_certification s && is_live t s then issuer_of verdicts s else None

-- ---- one more signature, in front

-- The numbers are those of the latest live revocation of each issuer.
abbrev pub KeepsLatest : Entries → ℕ → List Signature → ByIssuer → Type 0
KeepsLatest verdicts t sigs numbers = (issuer : Fpr) → numbers issuer ≡ revoked_at verdicts issuer t sigs

-- what the latest revocation by an issuer becomes with this signature
abbrev pub later_by : Entries → Fpr → ℕ → Signature → Option ℕ → Option ℕ
later_by verdicts issuer t s best =
    if revokes_by verdicts issuer t s then Some (option_map_or (max (made_of s)) best (made_of s)) else best

-- what the newest valid certification by an issuer becomes with this signature
abbrev pub newer_by : Entries → Fpr → ℕ → List Signature → Signature → Option Signature → Option Signature
newer_by verdicts issuer t sigs s best =
    if is_valid_after verdicts issuer t Certification (revoked_at verdicts issuer t sigs) s
    then higher_of newness s best else best

-- the numbers have the signature in them, and so have the places
abbrev pub TakesLatest : Entries → ℕ → Signature → ByIssuer → ByIssuer → Type 0
TakesLatest verdicts t s old new = (q : Fpr) → new q ≡ later_by verdicts q t s (old q)

abbrev pub TakesNewest : Entries → ℕ → List Signature → Signature → ByIssuer → ByIssuer → Type 0
TakesNewest verdicts t sigs s old new =
    (q : Fpr) → kept_for new sigs q ≡ newer_by verdicts q t sigs s (kept_for old sigs q)

-- The signature is taken into account, by what decides whether it is valid.
abbrev pub TakesValid : Validity → List Signature → Signature → List (Certified × ℕ) → List (Certified × ℕ) → Type 0
TakesValid by sigs s old new =
    TakesNewest by.verdicts.now.entries by.t sigs s (place_for old by.uid) (place_for new by.uid)
