-- What holds for every keyring, and what callers have to know.
use Rattle.std.specs.Prelude.{◌≡◌, ◌≤◌, ◌<◌, ℕ, length}
use Rattle.std.specs.List.{AllByRecursion}
use Rattle.std.specs.List.Sorted.{IsStrictlySortedBy}
use Rattle.std.specs.Map.{keys_of}
use Rattle.wot_types.specs.declared.fpr.Fpr.{Fpr}
use Rattle.wot_types.specs.declared.limits.Limits.{Limits}
use Rattle.wot_types.specs.Fpr.{fpr_cmp}
use Rattle.wot_types.specs.Limits.{standard_limits}
use Rattle.wot_key.specs.Key.{fpr_of}
use Rattle.wot_policy.specs.declared.rows.PolicyRows.{PolicyRows}
use Rattle.wot_component.specs.Counts.{signatures_of}
use Rattle.wot_component.specs.Judged.{IsJudged}
use Rattle.wot_component.specs.Text.{size_of}
use Rattle.wot_component.specs.Whole.{IsCertificate}
use Rattle.wot_keyring_spec.specs.declared.kept.Kept.{Kept}
use Rattle.wot_keyring_spec.specs.Keyring.{Entries, Keyring, certificates_in}
use Rattle.wot_keyring_spec.specs.Import.{weigh}

-- No limit exceeds the program's own.
pub record AreSmall (l : Limits) : Type 0 where
  pub certificate : l.certificate ≤ standard_limits.certificate
  pub certificates : l.certificates ≤ standard_limits.certificates
  pub octets : l.octets ≤ standard_limits.octets
  pub signatures : l.signatures ≤ standard_limits.signatures
  pub verdicts : l.verdicts ≤ standard_limits.verdicts
  pub views : l.views ≤ standard_limits.views
  pub roots : l.roots ≤ standard_limits.roots

-- Each stamp is the count of a change that was made.
abbrev pub IsStamped : ℕ → Fpr × Kept → Type 0
IsStamped changes e = (0 < e.1.stamp) × (e.1.stamp ≤ changes)

abbrev pub AreStamped : ℕ → Entries → Type 0
AreStamped changes entries = AllByRecursion (IsStamped changes) entries

-- A certificate stands under the fingerprint of its key.
abbrev pub IsNamed : Fpr × Kept → Type 0
IsNamed e = e.0 ≡ fpr_of e.1.cert.key

abbrev pub AreNamed : Entries → Type 0
AreNamed entries = AllByRecursion IsNamed entries

abbrev pub AreWhole : Entries → Type 0
AreWhole entries = AllByRecursion (λ (e : Fpr × Kept). IsCertificate e.1.cert) entries

-- The fingerprints rise, so none occurs twice.
abbrev pub AreSortedByFpr : Entries → Type 0
AreSortedByFpr entries = IsStrictlySortedBy fpr_cmp (keys_of entries)

-- None of the certificates is longer than this.
abbrev pub AreSized : ℕ → Entries → Type 0
AreSized limit entries = AllByRecursion (λ (e : Fpr × Kept). size_of e.1.cert ≤ limit) entries

-- What is held exceeds no limit.
pub record IsWithinLimits (k : Keyring) : Type 0 where
  pub certificate : AreSized k.limits.certificate k.certs
  pub certificates : length k.certs ≤ k.limits.certificates
  pub octets : weigh size_of (certificates_in k) ≤ k.limits.octets
  pub signatures : weigh signatures_of (certificates_in k) ≤ k.limits.signatures
  pub verdicts : length k.verdicts ≤ k.limits.verdicts

-- What holds for every keyring.
pub record IsKeyring (k : Keyring) : Type 0 where
  pub small : AreSmall k.limits
  pub named : AreNamed k.certs
  pub whole : AreWhole k.certs
  pub sorted : AreSortedByFpr k.certs
  pub within : IsWithinLimits k
  pub stamped : AreStamped k.changes k.certs

-- These are the sum of the sizes and the number of the signatures of all certificates.
pub record AreTotals (k : Keyring) (octets_in signatures_in : ℕ) : Type 0 where
  pub octets : octets_in ≡ weigh size_of (certificates_in k)
  pub signatures : signatures_in ≡ weigh signatures_of (certificates_in k)

-- Each of the certificates is marked by these policy rows.
abbrev pub AreJudged : PolicyRows → Entries → Type 0
AreJudged rows entries = AllByRecursion (λ (e : Fpr × Kept). IsJudged rows e.1.cert) entries

-- The keyring is marked by these policy rows.
abbrev pub IsJudgedBy : PolicyRows → Keyring → Type 0
IsJudgedBy rows k = AreJudged rows k.certs

-- If the one is marked by some policy rows, so is the other.
abbrev pub StaysJudged : Keyring → Keyring → Type 0
StaysJudged old new = (rows : PolicyRows) → IsJudgedBy rows old → IsJudgedBy rows new
