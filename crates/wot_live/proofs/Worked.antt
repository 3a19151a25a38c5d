-- A worked certificate: an issuer certified its user ID with the amount 60 at 2000, and with 120 at 3000 for 100
-- seconds.
use Rattle.std.proofs.Common.{◌≡◌, ℕ, true, false, List, [], ◌∷◌, Option, refl}
use Rattle.std.specs.List.{filter_map, flat_map, slice_get}
use Rattle.std.specs.Option.{option_and_then}
use Rattle.wot_types.specs.declared.fpr.Fpr.{Fpr}
use Rattle.wot_types.specs.declared.fpr.Fpr.TheVariants.{V4}
use Rattle.wot_types.specs.declared.number.SigNumber.{SigNumber}
use Rattle.wot_subpacket.specs.Area.{subpackets_of}
use Rattle.wot_signature.specs.Signature.{facts_of, read_body_of}
use Rattle.wot_verdict.specs.declared.verdict.Verdict.TheVariants.{Good}
use Rattle.wot_verdict.specs.Verdicts.{Entries}
use Rattle.wot_component.specs.Certificate.{Signature, Certificate}
use Rattle.wot_cert.specs.Span.{span_of}
use Rattle.wot_edge.specs.declared.edge.EdgeFacts.{EdgeFacts}
use Rattle.wot_standing.specs.Standing.{own}
use Rattle.wot_live.specs.Edge.{edge_on}
use Rattle.wot_live.specs.Rows.{edges_of, issuers_of, user_id_places}

abbrev R : Fpr
R = V4 (1 ∷ [])

abbrev T : Fpr
T = V4 (4 ∷ [])

abbrev number : ℕ → SigNumber
number n = record { 0 = n ∷ [] }

abbrev signature : ℕ → List ℕ → Signature
signature n body = record { body = body; number = number n; admitted = true }

abbrev certificate : Certificate
certificate = record {
  key = 4 ∷ 0 ∷ 0 ∷ 3 ∷ 232 ∷ 27 ∷ 4 ∷ [];
  direct = signature 0 (4 ∷ 31 ∷ 27 ∷ 8 ∷ 0 ∷ 6 ∷ 5 ∷ 2 ∷ 0 ∷ 0 ∷ 3 ∷ 232 ∷ 0 ∷ 0 ∷ 0 ∷ 0 ∷ []) ∷ [];
  user_ids = record {
    body = 116 ∷ [];
    sigs = signature 1 (4 ∷ 16 ∷ 27 ∷ 8 ∷ 0 ∷ 10 ∷ 5 ∷ 2 ∷ 0 ∷ 0 ∷ 7 ∷ 208 ∷ 3 ∷ 5 ∷ 0 ∷ 60 ∷ 0 ∷ 0 ∷ 0 ∷ 0 ∷ []) ∷
        signature 2 (4 ∷ 16 ∷ 27 ∷ 8 ∷ 0 ∷ 16 ∷ 5 ∷ 2 ∷ 0 ∷ 0 ∷ 11 ∷ 184 ∷ 5 ∷ 3 ∷ 0 ∷ 0 ∷ 0 ∷ 100 ∷ 3 ∷ 5 ∷ 0 ∷ 120 ∷
        0 ∷ 0 ∷ 0 ∷ 0 ∷ []) ∷ [];
  } ∷ [];
  attributes = [];
  subkeys = [];
}

abbrev verdicts : Entries
verdicts = (number 0, Good T) ∷ (number 1, Good R) ∷ (number 2, Good R) ∷ []

-- The edges into it at t by the definition, with this fingerprint for its own, which is a hash and isn't evaluated here.
abbrev edge_into : Fpr → ℕ → Fpr → ℕ → Option EdgeFacts
edge_into target t issuer uid =
    option_and_then (edge_on verdicts target t issuer uid) (slice_get certificate.user_ids uid)

abbrev edges_into : Fpr → ℕ → List EdgeFacts
edges_into target t =
    flat_map (λ (issuer : Fpr). filter_map (edge_into target t issuer) (user_id_places certificate))
    (issuers_of verdicts certificate)

is_definition : (t : ℕ) → edges_of verdicts certificate t ≡ edges_into (own certificate) t
is_definition t = refl

abbrev at : ℕ → List EdgeFacts
at t = edges_into T t

abbrev edge : ℕ → ℕ → ℕ → EdgeFacts
edge sig made amount = record {
  issuer = R;
  target = T;
  uid = 0;
  sig = sig;
  made = made;
  depth = 0;
  amount =
      amount;
  scoped = false;
}

before : at 999 ≡ []
unfolding facts_of read_body_of subpackets_of
before = refl

not_yet : at 1999 ≡ []
unfolding facts_of read_body_of subpackets_of
not_yet = refl

sixty : at 2500 ≡ edge 0 2000 60 ∷ []
unfolding facts_of read_body_of subpackets_of
sixty = refl

full : at 3050 ≡ edge 1 3000 120 ∷ []
unfolding facts_of read_body_of subpackets_of
full = refl

full_to_its_end : at 3099 ≡ edge 1 3000 120 ∷ []
unfolding facts_of read_body_of subpackets_of
full_to_its_end = refl

sixty_again : at 3100 ≡ edge 0 2000 60 ∷ []
unfolding facts_of read_body_of subpackets_of
sixty_again = refl

span_before : span_of certificate 999 ≡ record { from = 0; to = 999 }
unfolding facts_of read_body_of subpackets_of
span_before = refl

span_of_sixty : span_of certificate 2500 ≡ record { from = 2000; to = 2999 }
unfolding facts_of read_body_of subpackets_of
span_of_sixty = refl

span_of_full : span_of certificate 3050 ≡ record { from = 3000; to = 3099 }
unfolding facts_of read_body_of subpackets_of
span_of_full = refl

span_at_last : span_of certificate 5000 ≡ record { from = 3100; to = 4294967295 }
unfolding facts_of read_body_of subpackets_of
span_at_last = refl
