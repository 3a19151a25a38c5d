-- Who certified what, regardless of times, policy or revocations, so that a database can keep an index of it.
use Rattle.std.specs.Prelude.{◌≡◌, ℕ, ◌<◌, ◌≤◌, true, List, Some}
use Rattle.std.specs.Map.{lookup}
use Rattle.wot_types.specs.declared.fpr.Fpr.{Fpr}
use Rattle.wot_signature.specs.declared.facts.SigFacts.{SigFacts}
use Rattle.wot_verdict.specs.Verdicts.{Entries, verdict_at}
use Rattle.wot_component.specs.Certificate.{Certificate, Component, Signature, said_by}
use Rattle.wot_cert.specs.Issuer.{good_by}
use Rattle.wot_edge.specs.Record.{Has, Row, rows_into}
use Rattle.wot_edge.specs.Roots.{root_amount}
use Rattle.wot_keyring_spec.specs.Keyring.{Certificates, is_fpr}
use Rattle.wot_standing.specs.Kinds.{is_certification}
use Rattle.wot_network.specs.Records.{record_of}

-- A certification (RFC 9580, section 5.2.1) on a user ID of the certificate, verified as good by the issuer, whose
-- trust subpacket has a depth of at least 1.
pub record IsTrusted (verdicts : Entries) (issuer : Fpr) (c : Certificate) : Type 0 where
  pub user_id : Component
  pub on : Has c.user_ids user_id
  pub signature : Signature
  pub made : Has user_id.sigs signature
  pub certification : is_certification signature ≡ true
  pub good : good_by (verdict_at verdicts signature.number) ≡ Some issuer
  pub facts : SigFacts
  pub says : said_by signature ≡ Some facts
  pub deep : 1 ≤ facts.depth

-- An edge with a depth of at least 1 leads to a certificate that its issuer certified in this way.
abbrev pub RestsOnTrust : Certificates → Entries → ℕ → List ℕ → Type 0
RestsOnTrust certs verdicts t u =
    (fpr : Fpr) (row : Row) → Has (rows_into (record_of certs verdicts t u) fpr) row → 1 ≤ row.edge.depth
    → (c : Certificate) × (lookup (is_fpr fpr) certs ≡ Some c) × IsTrusted verdicts row.edge.issuer c

-- A certification on a user ID of the certificate, verified as good by the issuer, of any depth.
pub record IsCertified (verdicts : Entries) (issuer : Fpr) (c : Certificate) : Type 0 where
  pub user_id : Component
  pub on : Has c.user_ids user_id
  pub signature : Signature
  pub made : Has user_id.sigs signature
  pub certification : is_certification signature ≡ true
  pub good : good_by (verdict_at verdicts signature.number) ≡ Some issuer

-- Each edge leads to a certificate that its issuer certified.
abbrev pub RestsOnCertifications : Certificates → Entries → ℕ → List ℕ → Type 0
RestsOnCertifications certs verdicts t u =
    (fpr : Fpr) (row : Row) → Has (rows_into (record_of certs verdicts t u) fpr) row
    → (c : Certificate) × (lookup (is_fpr fpr) certs ≡ Some c) × IsCertified verdicts row.edge.issuer c

-- ---- onward from roots

-- A slice: a set that contains each root, and with each member all that the member certified with a depth of at least
-- 1.
pub record IsSlice (certs : Certificates) (verdicts : Entries) (amounts : List (Fpr × ℕ)) (set : List Fpr) : Type
    0 where
  pub roots : (fpr : Fpr) → 0 < root_amount amounts fpr → Has set fpr
  pub onward : (fpr issuer : Fpr) (c : Certificate) → lookup (is_fpr fpr) certs ≡ Some c → IsTrusted verdicts issuer c
      → Has set issuer → Has set fpr

-- ---- back from a target

-- The set has every key that certified this one.
abbrev pub HasCertifiers : Certificates → Entries → List Fpr → Fpr → Type 0
HasCertifiers certs verdicts set fpr =
    (issuer : Fpr) (c : Certificate) → lookup (is_fpr fpr) certs ≡ Some c → IsCertified verdicts issuer c
    → Has set issuer

-- The set has every key that certified this one with a depth of at least 1.
abbrev pub HasIntroducers : Certificates → Entries → List Fpr → Fpr → Type 0
HasIntroducers certs verdicts set fpr =
    (issuer : Fpr) (c : Certificate) → lookup (is_fpr fpr) certs ≡ Some c → IsTrusted verdicts issuer c → Has set issuer

-- The set has all that leads to the target: every key that certified it and, with each member, every key that
-- certified the member with a depth of at least 1.
pub record LeadsTo (certs : Certificates) (verdicts : Entries) (target : Fpr) (set : List Fpr) : Type 0 where
  pub last : HasCertifiers certs verdicts set target
  pub before : (fpr : Fpr) → Has set fpr → HasIntroducers certs verdicts set fpr
