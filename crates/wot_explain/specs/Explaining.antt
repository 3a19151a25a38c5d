-- Why a certificate is or isn't in order for one of its user IDs U at t, and for each certification on U whether it is
-- a usable edge, or else the first reason why not.
use Rattle.std.specs.Prelude.{◌≡◌, ℕ, List, filter, map, Option, Some, None, Result, Ok, Err}
use Rattle.std.specs.List.{slice_get}
use Rattle.std.specs.Map.{lookup}
use Rattle.std.specs.Option.{option_and_then, option_map}
use Rattle.wot_types.specs.declared.fpr.Fpr.{Fpr}
use Rattle.wot_verdict.specs.Verdicts.{Entries}
use Rattle.wot_component.specs.Certificate.{Component, Certificate}
use Rattle.wot_keyring_spec.specs.Keyring.{Certificates, Keyring, certificates_in, is_fpr}
use Rattle.wot_network.specs.Records.{user_id_place}
use Rattle.wot_standing.specs.Kinds.{is_certification}
use Rattle.wot_standing.specs.Own.{is_own_revoked}
use Rattle.wot_standing.specs.Standing.{own, standing_of}
use Rattle.wot_explain.specs.Reasons.{Reason, reason_of}
use Rattle.wot_explain.specs.Target.{target_word}
use Rattle.wot_explain.specs.declared.explained.ExplainFault.{ExplainFault}
use Rattle.wot_explain.specs.declared.explained.ExplainFault.TheVariants.{Absent, Memory}
use Rattle.wot_explain.specs.declared.explained.Explained.{Explained}

-- the certifications on a user ID, in the order of their bodies, each with its word
abbrev pub reasons_on : Entries → Certificates → ℕ → Fpr → ℕ → Component → List Reason
reasons_on verdicts certs t target place uid =
    map (reason_of verdicts certs t target place uid) (filter is_certification uid.sigs)

-- the explanation of the user ID at this place
abbrev pub explained_on : Entries → Certificates → ℕ → Certificate → ℕ → Component → Explained
explained_on verdicts certs t c place uid = record {
  target = target_word (standing_of verdicts c t) t (is_own_revoked verdicts (own c) t uid);
  certs = reasons_on verdicts certs t (own c) place uid;
}

-- the explanation in a keyring
abbrev pub explained_in : Keyring → ℕ → Certificate → ℕ → Component → Explained
explained_in k t c place uid = explained_on k.verdicts (certificates_in k) t c place uid

abbrev pub explained_at : Entries → Certificates → ℕ → Certificate → ℕ → Option Explained
explained_at verdicts certs t c place = option_map (explained_on verdicts certs t c place) (slice_get c.user_ids place)

-- nothing if the certificate or the user ID isn't there
abbrev pub explanation : Certificates → Entries → ℕ → Fpr → List ℕ → Option Explained
explanation certs verdicts t fpr u =
    option_and_then
    (λ (c : Certificate). option_and_then (explained_at verdicts certs t c) (user_id_place u c.user_ids))
    (lookup (is_fpr fpr) certs)

-- This is the explanation. `Absent` is returned if and only if there is none. The only other error is "out of memory".
abbrev pub Explains : Result Explained ExplainFault → Option Explained → Type 0
Explains (Ok explained) answer = answer ≡ Some explained
Explains (Err Absent) answer = answer ≡ None
Explains (Err Memory) answer = Unit {0}
