-- What is held: certificates by fingerprint, and verdicts by the numbers of signatures; and what changes it.
use Rattle.std.specs.Prelude.{Bool, true, false, if◌then◌else◌, [], Option}
use Rattle.std.specs.Option.{option_map_or}
use Rattle.std.specs.Map.{lookup, remove_entry}
use Rattle.wot_types.specs.declared.fpr.Fpr.{Fpr}
use Rattle.wot_types.specs.declared.number.SigNumber.{SigNumber}
use Rattle.wot_verdict.specs.Verdicts as verdicts
use Rattle.wot_verdict.specs.declared.verdict.Verdict.{Verdict}
use Rattle.wot_verdict.specs.declared.verdict.Verdict.TheVariants.{Good, Bad}
use Rattle.wot_component.specs.Certificate.{Certificate}
use Rattle.wot_keyring_spec.specs.Keyring.{Keyring, Certificates, certificates_in, is_fpr}

-- Each signature has its mark of admission. Limits, stamps and the count of changes are no part of it.
pub record Held : Type 0 where
  pub certs : Certificates
  pub verdicts : verdicts.Entries

-- what is held before the first change
abbrev pub nothing : Held
nothing = record { certs = []; verdicts = [] }

-- what a keyring holds
abbrev pub held_of : Keyring → Held
held_of k = record { certs = certificates_in k; verdicts = k.verdicts }

-- the certificate of a fingerprint
abbrev pub cert_in : Held → Fpr → Option Certificate
cert_in held fpr = lookup (is_fpr fpr) held.certs

-- ---- changes; the change by an import is with imports

-- without a certificate; the verdicts on its signatures stay
abbrev pub removing : Fpr → Held → Held
removing fpr held = record held { certs = remove_entry (is_fpr fpr) held.certs }

abbrev pub is_verdict : Verdict → Verdict → Bool
is_verdict (Good fpr) (Good other) = is_fpr fpr other
is_verdict Bad Bad = true
is_verdict _ _ = false

-- whether this is the verdict on a number
abbrev pub is_said : verdicts.Entries → SigNumber → Verdict → Bool
is_said entries number verdict = option_map_or (is_verdict verdict) (verdicts.verdict_at entries number) false

-- with this verdict on a number; setting the current verdict again changes nothing
abbrev pub verdict_set : SigNumber → Verdict → Held → Held
verdict_set number verdict held =
    if is_said held.verdicts number verdict then held
    else record held { verdicts = verdicts.with_verdict held.verdicts number verdict }

-- without a verdict on a number
abbrev pub verdict_cleared : SigNumber → Held → Held
verdict_cleared number held = record held { verdicts = verdicts.without_verdict held.verdicts number }
