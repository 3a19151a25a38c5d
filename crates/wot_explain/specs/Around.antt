-- What an explanation depends on: the certificate, those who certified it, and the verdicts on all their signatures.
use Rattle.std.specs.Prelude.{◌≡◌, ℕ, List, Some}
use Rattle.std.specs.List.{AllByRecursion}
use Rattle.std.specs.Map.{lookup}
use Rattle.wot_types.specs.declared.fpr.Fpr.{Fpr}
use Rattle.wot_verdict.specs.Verdicts.{Entries, verdict_at}
use Rattle.wot_component.specs.Certificate.{Certificate, Signature}
use Rattle.wot_component.specs.Counts.{all_sigs}
use Rattle.wot_cert.specs.Issuer.{good_by}
use Rattle.wot_keyring_spec.specs.Keyring.{Certificates, is_fpr}
use Rattle.wot_network.specs.Local.{AgreeAt}
use Rattle.wot_explain.specs.Explaining.{explanation}

-- Both agree at the issuer by whom the verdict on a signature is good, if there is one.
abbrev pub AgreeAtIssuer : Certificates → Entries → Certificates → Entries → Signature → Type 0
AgreeAtIssuer certs verdicts others other s =
    (issuer : Fpr) → good_by (verdict_at verdicts s.number) ≡ Some issuer → AgreeAt certs verdicts others other issuer

-- Both agree at a fingerprint, and at the issuer of each signature there.
pub record AgreeAround (certs : Certificates) (verdicts : Entries) (others : Certificates) (other : Entries)
    (fpr : Fpr) : Type 0 where
  pub here : AgreeAt certs verdicts others other fpr
  pub issuers : (c : Certificate) → lookup (is_fpr fpr) certs ≡ Some c
      → AllByRecursion (AgreeAtIssuer certs verdicts others other) (all_sigs c)

-- So both explain the same there.
abbrev pub AreExplainedAlike : Type 0
AreExplainedAlike =
    (certs : Certificates) (verdicts : Entries) (others : Certificates) (other : Entries) (t : ℕ) (fpr : Fpr)
    (u : List ℕ) → AgreeAround certs verdicts others other fpr
    → explanation certs verdicts t fpr u ≡ explanation others other t fpr u
