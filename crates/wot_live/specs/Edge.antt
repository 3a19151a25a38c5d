-- The edge of an issuer, a certificate and one of its user IDs.
use Rattle.std.specs.Prelude.{ℕ, ◌+◌, false, if◌then◌else◌, List, [], ◌∷◌, Option}
use Rattle.std.specs.List.{slice_get}
use Rattle.std.specs.Option.{option_map, option_and_then}
use Rattle.std.specs.Ordering.{is_eq}
use Rattle.wot_types.specs.declared.fpr.Fpr.{Fpr}
use Rattle.wot_types.specs.Fpr.{same_fpr}
use Rattle.wot_signature.specs.declared.facts.SigFacts.{SigFacts}
use Rattle.wot_verdict.specs.Verdicts.{Entries}
use Rattle.wot_component.specs.Certificate.{Signature, Component, Certificate, said_by, sig_cmp}
use Rattle.wot_edge.specs.declared.edge.EdgeFacts.{EdgeFacts}
use Rattle.wot_standing.specs.Standing.{own, newest_certification}

-- the place of a signature among these, by its body
abbrev pub signature_place : Signature → List Signature → ℕ
signature_place s [] = 0
signature_place s (x ∷ xs) = if is_eq (sig_cmp s x) then 0 else signature_place s xs + 1

-- the terms of an edge: a self-certification has no depth, the full amount and no scope
abbrev pub edge_facts : Fpr → Fpr → ℕ → ℕ → SigFacts → EdgeFacts
edge_facts issuer target uid place f = record {
  issuer = issuer;
  target = target;
  uid = uid;
  sig = place;
  made = f.made;
  depth = (if same_fpr issuer target then 0 else f.depth);
  amount = (if same_fpr issuer target then 120 else f.amount);
  scoped = (if same_fpr issuer target then false else f.scoped);
}

abbrev pub edge_by : Fpr → Fpr → ℕ → List Signature → Signature → Option EdgeFacts
edge_by issuer target uid sigs s = option_map (edge_facts issuer target uid (signature_place s sigs)) (said_by s)

-- The newest certification by the issuer on the user ID at this place that is live and unrevoked at t makes the edge.
abbrev pub edge_on : Entries → Fpr → ℕ → Fpr → ℕ → Component → Option EdgeFacts
edge_on verdicts target t issuer uid p =
    option_and_then (edge_by issuer target uid p.sigs) (newest_certification verdicts issuer t p)

abbrev pub edge_of : Entries → Certificate → ℕ → Fpr → ℕ → Option EdgeFacts
edge_of verdicts c t issuer uid = option_and_then (edge_on verdicts (own c) t issuer uid) (slice_get c.user_ids uid)
