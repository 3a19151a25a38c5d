-- The change of a verdict.
use Rattle.std.specs.Prelude.{◌≡◌, ◌≢◌, ℕ, ◌+◌, Bool, true, false, ◌&&◌, ◌||◌, nat_le, if◌then◌else◌}
use Rattle.std.specs.Prelude.{List, length, map, is_none, Some, Result, Ok, Err}
use Rattle.std.specs.List.{list_any}
use Rattle.wot_types.specs.declared.fpr.Fpr.{Fpr}
use Rattle.wot_types.specs.declared.number.SigNumber.{SigNumber}
use Rattle.wot_types.specs.declared.limits.Limits.{Limits}
use Rattle.wot_verdict.specs.Verdicts as verdicts
use Rattle.wot_verdict.specs.Verdicts.{is_number, with_verdict, without_verdict}
use Rattle.wot_verdict.specs.declared.verdict.Verdict.{Verdict}
use Rattle.wot_component.specs.Certificate.{Signature, Component, Certificate}
use Rattle.wot_component.specs.Counts.{sigs_on}
use Rattle.wot_keyring_spec.specs.declared.kept.Kept.{Kept}
use Rattle.wot_types.specs.declared.limits.Limit.TheVariants.{Verdicts}
use Rattle.wot_keyring_spec.specs.declared.refusal.Refusal.{Refusal}
use Rattle.wot_keyring_spec.specs.declared.refusal.Refusal.TheVariants.{Full, Memory}
use Rattle.wot_keyring_spec.specs.Keyring.{Entries, Keyring, verdict_on}

-- whether a signature of this number is among them
abbrev pub is_among : SigNumber → List Signature → Bool
is_among number sigs = list_any (λ (s : Signature). is_number number s.number) sigs

-- whether one of these components has a signature of this number
abbrev pub is_on : SigNumber → List Component → Bool
is_on number parts = is_among number (sigs_on parts)

-- whether the key, or a user ID, an attribute or a subkey, has a signature of this number
abbrev pub has_number : SigNumber → Certificate → Bool
has_number number c =
    is_among number c.direct || (is_on number c.user_ids || (is_on number c.attributes || is_on number c.subkeys))

-- with this stamp, if it has a signature of that number
abbrev pub restamped : SigNumber → ℕ → Kept → Kept
restamped number stamp kept = record {
  cert = kept.cert;
  stamp = if has_number number kept.cert then stamp else kept.stamp;
}

abbrev pub restamped_all : SigNumber → ℕ → Entries → Entries
restamped_all number stamp entries = map (λ (e : Fpr × Kept). (e.0, restamped number stamp e.1)) entries

-- the keyring after one more change, which altered the verdict on this number
abbrev pub counted_at : SigNumber → Keyring → Keyring
counted_at number k = record {
  limits = k.limits;
  certs = restamped_all number (k.changes + 1) k.certs;
  verdicts = k.verdicts;
  changes = k.changes + 1;
}

-- the keyring with this verdict on the number, which is new
abbrev pub with_verdict_on : SigNumber → Verdict → Keyring → Keyring
with_verdict_on number verdict k = counted_at number (record k { verdicts = with_verdict k.verdicts number verdict })

-- It is set, unless it already was the verdict on the number.
abbrev pub SetsVerdict : SigNumber → Verdict → Keyring → Keyring → Type 0
SetsVerdict number verdict old new = verdict_on old number ≢ Some verdict → new ≡ with_verdict_on number verdict old

-- the keyring without the verdict on the number, which it had
abbrev pub without_verdict_on : SigNumber → Keyring → Keyring
without_verdict_on number k = counted_at number (record k { verdicts = without_verdict k.verdicts number })

-- whether a verdict on this number would exceed the limit
abbrev pub is_over : Limits → verdicts.Entries → SigNumber → Bool
is_over limits entries number = is_none (verdicts.verdict_at entries number) && nat_le limits.verdicts (length entries)

abbrev pub would_pass : Keyring → SigNumber → Bool
would_pass k number = is_over k.limits k.verdicts number

-- `Full` is returned if and only if a new verdict would exceed the limit; the only other refusal is "out of memory".
abbrev pub TellsFull : {T : Type 0} → Result T Refusal → Keyring → SigNumber → Type 0
TellsFull (Ok done) k number = would_pass k number ≡ false
TellsFull (Err (Full Verdicts)) k number = would_pass k number ≡ true
TellsFull (Err Memory) k number = would_pass k number ≡ false
TellsFull (Err _) k number = ⊥
