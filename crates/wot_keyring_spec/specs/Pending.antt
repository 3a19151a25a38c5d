-- The well-formed signatures that have no verdict.
use Rattle.std.specs.Prelude.{◌&&◌, Bool, List, map, is_none}
use Rattle.std.specs.List.{filter, flat_map}
use Rattle.std.specs.Option.{option_and_then}
use Rattle.wot_types.specs.declared.fpr.Fpr.{Fpr}
use Rattle.wot_signature.specs.Signature.{hint_of}
use Rattle.wot_verdict.specs.Verdicts as verdicts
use Rattle.wot_component.specs.Certificate.{Signature, Certificate, said_by}
use Rattle.wot_component.specs.Counts.{all_sigs}
use Rattle.wot_component.specs.Judged.{is_sound}
use Rattle.wot_keyring_spec.specs.declared.pending.Pending.{Pending}
use Rattle.wot_keyring_spec.specs.Held.{Held}

-- whether a signature is well-formed and has no verdict
abbrev pub is_pending : verdicts.Entries → Signature → Bool
is_pending said s = is_sound s && is_none (verdicts.verdict_at said s.number)

-- what a verifier gets to know of a signature on the certificate of this fingerprint
abbrev pub pending_entry : Fpr → Signature → Pending
pending_entry fpr s = record {
  number = s.number;
  fpr = fpr;
  issuer = option_and_then (λ f. f.issuer) (said_by s);
  hint = hint_of s.body;
}

-- the entries of those signatures that have no verdict
abbrev pub pending_among : verdicts.Entries → Fpr → List Signature → List Pending
pending_among said fpr sigs = map (pending_entry fpr) (filter (is_pending said) sigs)

-- the entries of a certificate's signatures, in the order of its text
abbrev pub pending_on : verdicts.Entries → Fpr × Certificate → List Pending
pending_on said e = pending_among said e.0 (all_sigs e.1)

-- the entries of all certificates, in the order of their fingerprints
abbrev pub pending_in : Held → List Pending
pending_in held = flat_map (pending_on held.verdicts) held.certs
