-- How the edges into a certificate are found: by the place of the newest certification of each issuer on each user ID.
-- By the law `found_are_edges` they are all edges into the certificate.
use Rattle.std.specs.Prelude.{◌≡◌, ℕ, ◌<◌, ◌^◌, false, if◌then◌else◌, List, length, Option, Some}
use Rattle.std.specs.List.{filter_map, slice_get}
use Rattle.std.specs.List.Sorted.{IsStrictlySortedBy}
use Rattle.std.specs.Map.{keys_of}
use Rattle.std.specs.Option.{option_and_then}
use Rattle.wot_types.specs.declared.fpr.Fpr.{Fpr}
use Rattle.wot_types.specs.Fpr.{same_fpr}
use Rattle.wot_verdict.specs.Verdicts.{Entries}
use Rattle.wot_kept_signature.specs.declared.said.Terms.{Terms}
use Rattle.wot_component.specs.Certificate.{Component, Certificate}
use Rattle.wot_edge.specs.declared.edge.EdgeFacts.{EdgeFacts}
use Rattle.wot_standing.specs.declared.places.Certified.{Certified}
use Rattle.wot_standing.specs.Certifiers.{certified_cmp, place_for, KeepsNewest}
use Rattle.wot_standing.specs.Standing.{own}
use Rattle.wot_live.specs.Edge.{edge_by}
use Rattle.wot_live.specs.Rows.{edges_of}

-- the edge at these places by these terms: `edge_facts`, from the terms alone
abbrev pub edge_with : Fpr → Fpr → ℕ → ℕ → Terms → EdgeFacts
edge_with issuer target uid place said = record {
  issuer = issuer;
  target = target;
  uid = uid;
  sig = place;
  made = said.made;
  depth = (if same_fpr issuer target then 0 else said.depth);
  amount = (if same_fpr issuer target then 120 else said.amount);
  scoped = (if same_fpr issuer target then false else said.scoped);
}

-- few enough signatures for their indices
abbrev pub HasFew : Component → Type 0
HasFew p = length p.sigs < 2 ^ 32

-- The places of the newest certifications, in the order of issuer and user ID.
pub record AreFound (verdicts : Entries) (c : Certificate) (t : ℕ) (found : List (Certified × ℕ)) : Type 0 where
  pub sorted : IsStrictlySortedBy certified_cmp (keys_of found)
  pub newest : (uid : ℕ) (p : Component) → slice_get c.user_ids uid ≡ Some p
      → KeepsNewest verdicts t p (place_for found uid)

-- the edge of the signature at this place on the user ID
abbrev pub edge_at_place : Fpr → Fpr → ℕ → Component → ℕ → Option EdgeFacts
edge_at_place issuer target uid p place = option_and_then (edge_by issuer target uid p.sigs) (slice_get p.sigs place)

-- the edge of what was found for an issuer and a user ID
abbrev pub found_edge : Certificate → Certified × ℕ → Option EdgeFacts
found_edge c e =
    option_and_then (λ p. edge_at_place e.0.issuer (own c) e.0.uid p e.1) (slice_get c.user_ids e.0.uid)

-- the edges of all that was found
abbrev pub found_edges : Certificate → List (Certified × ℕ) → List EdgeFacts
found_edges c found = filter_map (found_edge c) found

-- Whatever is found, its edges are all edges into the certificate.
abbrev pub FoundAreAll : Entries → Certificate → ℕ → Type 0
FoundAreAll verdicts c t =
    (found : List (Certified × ℕ)) → AreFound verdicts c t found → found_edges c found ≡ edges_of verdicts c t
