-- Certificates and verdicts that agree on a set of fingerprints.
use Rattle.std.specs.Prelude.{◌≡◌, ℕ, List, Some}
use Rattle.std.specs.List.{AllByRecursion}
use Rattle.std.specs.Map.{lookup}
use Rattle.wot_types.specs.declared.fpr.Fpr.{Fpr}
use Rattle.wot_verdict.specs.Verdicts.{Entries}
use Rattle.wot_component.specs.Certificate.{Certificate}
use Rattle.wot_component.specs.Counts.{all_sigs}
use Rattle.wot_edge.specs.Agree.{Agree}
use Rattle.wot_edge.specs.Path.{asks}
use Rattle.wot_edge.specs.Record.{Has, Record}
use Rattle.wot_edge.specs.Roots.{root_amount}
use Rattle.wot_keyring_spec.specs.Keyring.{Certificates, is_fpr}
use Rattle.wot_keyring_spec.specs.Later.{SaysSame}
use Rattle.wot_network.specs.Records.{record_of}

-- Both hold the same certificate under a fingerprint, with the same marks, or none; and the verdicts on the numbers of
-- its signatures are the same.
pub record AgreeAt (certs : Certificates) (verdicts : Entries) (others : Certificates) (other : Entries)
    (fpr : Fpr) : Type 0 where
  pub same : lookup (is_fpr fpr) certs ≡ lookup (is_fpr fpr) others
  pub said : (c : Certificate) → lookup (is_fpr fpr) certs ≡ Some c
      → AllByRecursion (SaysSame verdicts other) (all_sigs c)

-- Both agree on a set of fingerprints.
abbrev pub AgreeOn : Certificates → Entries → Certificates → Entries → List Fpr → Type 0
AgreeOn certs verdicts others other set = (fpr : Fpr) → Has set fpr → AgreeAt certs verdicts others other fpr

-- Each fingerprint of the set has the same amount as a root.
abbrev pub SameAmounts : List (Fpr × ℕ) → List (Fpr × ℕ) → List Fpr → Type 0
SameAmounts roots amounts set = (fpr : Fpr) → Has set fpr → root_amount roots fpr ≡ root_amount amounts fpr

-- What is known of each user ID depends only on these certificates and verdicts locally: if others agree with them on a
-- set of fingerprints, these make the same of the set at this time.
abbrev pub IsLocal : Certificates → Entries → ℕ → (List ℕ → Record) → Type 0
IsLocal certs verdicts t network =
    (others : Certificates) (other : Entries) (u : List ℕ) (roots amounts : List (Fpr × ℕ)) (target : Fpr)
    (set : List Fpr)
    → AgreeOn certs verdicts others other set → SameAmounts roots amounts set
    → Agree (asks (network u) roots target) (asks (record_of others other t u) amounts target) set
