-- When a certification is a usable edge, by the definitions of edges alone.
use Rattle.std.specs.Prelude.{◌≡◌, ◌↔◌, ℕ, true, List, [], ◌∷◌, Some, filter, is_some}
use Rattle.std.specs.List.{slice_get}
use Rattle.std.specs.Map.{lookup}
use Rattle.wot_types.specs.declared.fpr.Fpr.{Fpr}
use Rattle.wot_verdict.specs.Verdicts.{Entries}
use Rattle.wot_component.specs.Certificate.{Signature, Component, Certificate, sig_cmp}
use Rattle.wot_component.specs.Ranked.{IsRising}
use Rattle.wot_edge.specs.declared.edge.EdgeFacts.{EdgeFacts}
use Rattle.wot_edge.specs.declared.path.Step.{Step}
use Rattle.wot_edge.specs.Path.{step_of}
use Rattle.wot_edge.specs.Record.{Has, Record}
use Rattle.wot_keyring_spec.specs.Keyring.{Certificates, Keyring, certificates_in, is_fpr}
use Rattle.wot_live.specs.Edge.{edge_of, signature_place}
use Rattle.wot_network.specs.Records.{is_usable_by, record_of}
use Rattle.wot_network.specs.Records as network
use Rattle.wot_standing.specs.Kinds.{is_certification}
use Rattle.wot_standing.specs.Standing.{own}
use Rattle.wot_explain.specs.Reasons.{Reason, reason_word, step_by}

-- The signature at this place on the user ID at this place makes the edge of some issuer at t. The edge is usable, and
-- has this step.
pub record IsUsableEdge (verdicts : Entries) (certs : Certificates) (t : ℕ) (c : Certificate) (uid sig : ℕ)
    (step : Step) : Type 0 where
  pub issuer : Fpr
  pub edge : EdgeFacts
  pub made : edge_of verdicts c t issuer uid ≡ Some edge
  pub place : edge.sig ≡ sig
  pub usable : is_usable_by verdicts certs t edge.issuer edge.made ≡ true
  pub shown : step_of edge ≡ step

-- The record that the roads have for each user ID is the one that the certificates and verdicts of this keyring make at
-- t.
abbrev pub AreRoadsOf : (List ℕ → Record) → Keyring → ℕ → Type 0
AreRoadsOf network k t = (u : List ℕ) → network u ≡ record_of (certificates_in k) k.verdicts t u

-- A certification on the user ID at this place of a certificate whose signatures are sorted by their bodies.
pub record IsOnUserId (c : Certificate) (place : ℕ) (uid : Component) (s : Signature) : Type 0 where
  pub here : slice_get c.user_ids place ≡ Some uid
  pub rises : IsRising sig_cmp uid.sigs
  pub there : Has uid.sigs s
  pub kind : is_certification s ≡ true

-- That holds for each certification on a user ID, for all verdicts, certificates and times.
abbrev pub IsOfEachUserId : (Entries → Certificates → ℕ → Certificate → ℕ → Component → Signature → Type 0) → Type 0
IsOfEachUserId P =
    (verdicts : Entries) (certs : Certificates) (t : ℕ) (c : Certificate) (place : ℕ) (uid : Component) (s : Signature)
    → IsOnUserId c place uid s → P verdicts certs t c place uid s

-- Its word is 0 if and only if it is a usable edge.
abbrev pub ZeroIsUsable : Entries → Certificates → ℕ → Certificate → ℕ → Component → Signature → Type 0
ZeroIsUsable verdicts certs t c place uid s =
    (reason_word verdicts certs t uid s ≡ 0)
    ↔ ((step : Step) × IsUsableEdge verdicts certs t c place (signature_place s uid.sigs) step)

-- Its step is then the edge's.
abbrev pub TellsStep : Entries → Certificates → ℕ → Certificate → ℕ → Component → Signature → Type 0
TellsStep verdicts certs t c place uid s =
    (step : Step) → IsUsableEdge verdicts certs t c place (signature_place s uid.sigs) step
    → step_by verdicts (own c) place uid s ≡ Some step

-- The reason of a certification: its number, and a step if and only if it is a usable edge; the step is that edge's.
-- The word is 0 if and only if there is a step.
pub record IsReasonFor (verdicts : Entries) (certs : Certificates) (t : ℕ) (c : Certificate) (place : ℕ)
    (uid : Component) (s : Signature) (reason : Reason) : Type 0 where
  pub number : reason.0 ≡ s.number
  pub edge : (step : Step)
      → (reason.2 ≡ Some step) ↔ IsUsableEdge verdicts certs t c place (signature_place s uid.sigs) step
  pub word : (reason.1 ≡ 0) ↔ (is_some reason.2 ≡ true)

-- These are the reasons of these signatures, one by one.
abbrev pub AreTold : (Signature → Reason → Type 0) → List Signature → List Reason → Type 0
AreTold P [] [] = Unit {0}
AreTold P [] (reason ∷ reasons) = ⊥
AreTold P (s ∷ sigs) [] = ⊥
AreTold P (s ∷ sigs) (reason ∷ reasons) = P s reason × AreTold P sigs reasons

-- The explanation of a user ID of a kept certificate: for each certification on it, whether it is a usable edge.
pub record TellsEdges (k : Keyring) (t : ℕ) (fpr : Fpr) (u : List ℕ) (reasons : List Reason) : Type 0 where
  pub cert : Certificate
  pub place : ℕ
  pub uid : Component
  pub kept : lookup (is_fpr fpr) (certificates_in k) ≡ Some cert
  pub placed : network.user_id_place u cert.user_ids ≡ Some place
  pub here : slice_get cert.user_ids place ≡ Some uid
  pub each : AreTold (IsReasonFor k.verdicts (certificates_in k) t cert place uid)
      (filter is_certification uid.sigs) reasons
