-- The primary self-certification of a certificate, found by its edges.
use Rattle.std.specs.Prelude.{◌≡◌, ℕ, if◌then◌else◌, List, Option, None}
use Rattle.std.specs.List.{filter_map, slice_get}
use Rattle.std.specs.Option.{option_and_then}
use Rattle.wot_types.specs.Fpr.{same_fpr}
use Rattle.wot_verdict.specs.Verdicts.{Entries}
use Rattle.wot_component.specs.Certificate.{Signature, Certificate}
use Rattle.wot_component.specs.Ranked.{greatest}
use Rattle.wot_edge.specs.declared.edge.EdgeFacts.{EdgeFacts}
use Rattle.wot_standing.specs.Standing.{own, primacy, primary_among}
use Rattle.wot_live.specs.Rows.{edges_of}

-- the self-certification that makes this edge; none if the issuer is another key
abbrev pub self_certification : Certificate → EdgeFacts → Option Signature
self_certification c e =
    if same_fpr (own c) e.issuer then option_and_then (λ p. slice_get p.sigs e.sig) (slice_get c.user_ids e.uid)
    else None

-- the greatest of those that make these edges
abbrev pub primary_by : Certificate → List EdgeFacts → Option Signature
primary_by c edges = greatest primacy (filter_map (self_certification c) edges)

-- It is the primary one of the certificate.
abbrev pub IsPrimary : Entries → Certificate → ℕ → Type 0
IsPrimary verdicts c t = primary_by c (edges_of verdicts c t) ≡ primary_among verdicts (own c) t c.user_ids
