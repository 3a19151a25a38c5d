-- The effect of a list of certificates on the kept ones, and when merging those of one key first has the same effect.
use Rattle.std.specs.Prelude.{◌≡◌, Bool, false, not, cond, nat_eq, List, [], ◌∷◌, ◌++◌}
use Rattle.std.specs.Prelude.{Option, Some, None, Result, Ok, Err}
use Rattle.std.specs.Cmp.Lexicographic.{pointwise}
use Rattle.std.specs.List.{AllByRecursion}
use Rattle.std.specs.Map.{lookup, values_of}
use Rattle.wot_types.specs.declared.fpr.Fpr.{Fpr}
use Rattle.wot_key.specs.Key.{fpr_of}
use Rattle.wot_policy.specs.declared.rows.PolicyRows.{PolicyRows}
use Rattle.wot_component.specs.Certificate.{Certificate}
use Rattle.wot_component.specs.Whole.{IsCertificate}
use Rattle.wot_merge.specs.declared.staging.Fault.{Fault}
use Rattle.wot_merge.specs.declared.staging.Fault.TheVariants.{Clash, Memory}
use Rattle.wot_keyring_spec.specs.Keyring.{Certificates, is_fpr}
use Rattle.wot_keyring_spec.specs.Import.{with_cert}

-- ---- merging certificates

abbrev pub clashes_with : Option Certificate → Certificate → Bool
clashes_with None c = false
clashes_with (Some there) c = not (pointwise nat_eq c.key there.key)

-- the certificates with this one merged in; nothing if it clashes with the one of its fingerprint
abbrev pub taken_one : PolicyRows → Option Certificates → Certificate → Option Certificates
taken_one rows None c = None
taken_one rows (Some certs) c =
    cond (clashes_with (lookup (is_fpr (fpr_of c.key)) certs) c) None (Some (with_cert rows certs c))

-- the certificates with each of these merged in, the first one first
abbrev pub taken_all : PolicyRows → Option Certificates → List Certificate → Option Certificates
taken_all rows kept [] = kept
taken_all rows kept (c ∷ cs) = taken_all rows (taken_one rows kept c) cs

-- ---- the same effect

abbrev pub AreAllWhole : Certificates → Type 0
AreAllWhole certs = AllByRecursion (λ (e : Fpr × Certificate). IsCertificate e.1) certs

abbrev pub IsWholeState : Option Certificates → Type 0
IsWholeState None = Unit {0}
IsWholeState (Some certs) = AreAllWhole certs

-- Both lists have the same effect, whatever is kept and whatever the policy rows.
abbrev pub DoTheSame : List Certificate → List Certificate → Type 0
DoTheSame list other =
    (rows : PolicyRows) (kept : Option Certificates) → IsWholeState kept
    → taken_all rows kept list ≡ taken_all rows kept other

-- Two of these clash, so they have no result.
abbrev pub ComeToNothing : List Certificate → Type 0
ComeToNothing list =
    (rows : PolicyRows) (kept : Option Certificates) → IsWholeState kept → taken_all rows kept list ≡ None

-- A clash is only reported if there is one.
abbrev pub IsNothingTold : Fault → List Certificate → Type 0
IsNothingTold Clash list = ComeToNothing list
IsNothingTold Memory list = Unit {0}

abbrev pub TellsNothing : {T : Type 0} → Result T Fault → List Certificate → Type 0
TellsNothing (Ok done) list = Unit {0}
TellsNothing (Err fault) list = IsNothingTold fault list

-- ---- gathering

-- A whole certificate under its fingerprint.
abbrev pub IsOwn : Fpr × Certificate → Type 0
IsOwn e = (e.0 ≡ fpr_of e.1.key) × IsCertificate e.1

abbrev pub AreOwn : Certificates → Type 0
AreOwn certs = AllByRecursion IsOwn certs

-- The certificate was gathered with the others.
abbrev pub IsGathered : Certificates → Certificate → Certificates → Type 0
IsGathered old c new = (rest : List Certificate) → DoTheSame (values_of new ++ rest) (values_of old ++ c ∷ rest)

-- A clash with the gathered ones is only reported if there is one.
abbrev pub TellsClashWith : {T : Type 0} → Result T Fault → Certificates → Certificate → Type 0
TellsClashWith result old c = (rest : List Certificate) → TellsNothing result (values_of old ++ c ∷ rest)
