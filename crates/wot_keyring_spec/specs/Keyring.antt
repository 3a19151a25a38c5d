-- What a keyring holds: certificates by fingerprint, and verdicts by the numbers of signatures.
use Rattle.std.specs.Prelude.{ℕ, Bool, List, [], map, Option, Some, None, Result, Ok, Err}
use Rattle.std.specs.Option.{option_map, option_map_or}
use Rattle.std.specs.BTreeMap.{is_at}
use Rattle.std.specs.Map.{lookup}
use Rattle.wot_types.specs.declared.fpr.Fpr.{Fpr}
use Rattle.wot_types.specs.declared.limits.Limits.{Limits}
use Rattle.wot_types.specs.declared.number.SigNumber.{SigNumber}
use Rattle.wot_types.specs.Fpr.{fpr_cmp}
use Rattle.wot_verdict.specs.Verdicts as verdicts
use Rattle.wot_verdict.specs.declared.verdict.Verdict.{Verdict}
use Rattle.wot_component.specs.Certificate.{Certificate}
use Rattle.wot_keyring_spec.specs.declared.refusal.ExportFault.{ExportFault}
use Rattle.wot_keyring_spec.specs.declared.refusal.ExportFault.TheVariants.{Absent, Memory}
use Rattle.wot_keyring_spec.specs.declared.kept.Kept.{Kept}

-- The certificates with their stamps, in the order of their fingerprints.
abbrev pub Entries : Type 0
Entries = List (Fpr × Kept)

pub record Keyring : Type 0 where
  pub limits : Limits
  pub certs : Entries
  pub verdicts : verdicts.Entries
  pub changes : ℕ

-- the keyring of these
abbrev pub of_parts : Limits → Entries → verdicts.Entries → ℕ → Keyring
of_parts limits certs verdicts changes =
    record { limits = limits; certs = certs; verdicts = verdicts; changes = changes }

-- the keyring before the first change
abbrev pub empty : Limits → Keyring
empty limits = record { limits = limits; certs = []; verdicts = []; changes = 0 }

-- whether this is the fingerprint
abbrev pub is_fpr : Fpr → Fpr → Bool
is_fpr fpr = is_at (fpr_cmp fpr)

-- what is kept under a fingerprint
abbrev pub kept_at : Keyring → Fpr → Option Kept
kept_at k fpr = lookup (is_fpr fpr) k.certs

-- the certificate that is kept under a fingerprint
abbrev pub cert_at : Keyring → Fpr → Option Certificate
cert_at k fpr = option_map (λ (x : Kept). x.cert) (kept_at k fpr)

-- the count of changes at which it was last altered; 0 if it isn't kept
abbrev pub stamp_at : Keyring → Fpr → ℕ
stamp_at k fpr = option_map_or (λ (x : Kept). x.stamp) (kept_at k fpr) 0

-- the verdict on the signatures of a number
abbrev pub verdict_on : Keyring → SigNumber → Option Verdict
verdict_on k number = verdicts.verdict_at k.verdicts number

-- Certificates by fingerprint, in order.
abbrev pub Certificates : Type 0
Certificates = List (Fpr × Certificate)

-- entries without their stamps
abbrev pub stripped : Entries → Certificates
stripped entries = map (λ (e : Fpr × Kept). (e.0, e.1.cert)) entries

-- the kept certificates without their stamps
abbrev pub certificates_in : Keyring → Certificates
certificates_in k = stripped k.certs

-- `Absent` is returned if and only if nothing is kept; the only other error is "out of memory".
abbrev pub TellsAbsent : {T : Type 0} → Result T ExportFault → Option Certificate → Type 0
TellsAbsent (Ok done) (Some c) = Unit {0}
TellsAbsent (Ok done) None = ⊥
TellsAbsent (Err Absent) (Some c) = ⊥
TellsAbsent (Err Absent) None = Unit {0}
TellsAbsent (Err Memory) (Some c) = Unit {0}
TellsAbsent (Err Memory) None = ⊥
