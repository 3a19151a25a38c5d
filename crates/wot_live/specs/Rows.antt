-- All edges into a certificate, and the user IDs that its own key revoked.
use Rattle.std.specs.Prelude.{◌≡◌, ℕ, ◌+◌, ◌==◌, Bool, ◌&&◌, if◌then◌else◌, List, [], ◌∷◌, length, Option, Some, None}
use Rattle.std.specs.BTreeSet.{insert_key}
use Rattle.std.specs.List.{filter_map, flat_map, range_with_len}
use Rattle.std.specs.List.Sorted.{IsStrictlySortedBy}
use Rattle.wot_types.specs.declared.fpr.Fpr.{Fpr}
use Rattle.wot_types.specs.Fpr.{fpr_cmp, same_fpr}
use Rattle.wot_verdict.specs.Verdicts.{Entries}
use Rattle.wot_component.specs.Certificate.{Certificate}
use Rattle.wot_component.specs.Counts.{sigs_on}
use Rattle.wot_cert.specs.Issuer.{issuer_of}
use Rattle.wot_cert.specs.declared.moments.Span.{Span}
use Rattle.wot_edge.specs.declared.edge.EdgeFacts.{EdgeFacts}
use Rattle.wot_edge.specs.Order.{edge_cmp}
use Rattle.wot_edge.specs.Record.{Has}
use Rattle.wot_standing.specs.Own.{is_own_revoked}
use Rattle.wot_standing.specs.Standing.{own, standing_of}
use Rattle.wot_standing.specs.Throughout.{IsThroughout}
use Rattle.wot_live.specs.Edge.{edge_of}

-- ---- the edges

-- these fingerprints in order, each once
abbrev pub fprs_in_order : List Fpr → List Fpr
fprs_in_order [] = []
fprs_in_order (fpr ∷ fprs) = insert_key fpr_cmp (fprs_in_order fprs) fpr

-- the issuers for whom signatures on the user IDs count
abbrev pub issuers_of : Entries → Certificate → List Fpr
issuers_of verdicts c = fprs_in_order (filter_map (issuer_of verdicts) (sigs_on c.user_ids))

-- the places of the user IDs
abbrev pub user_id_places : Certificate → List ℕ
user_id_places c = range_with_len 0 (length c.user_ids)

-- the edges of an issuer, in the order of user IDs
abbrev pub edges_by : Entries → Certificate → ℕ → Fpr → List EdgeFacts
edges_by verdicts c t issuer = filter_map (edge_of verdicts c t issuer) (user_id_places c)

-- The edges into a certificate at t: the edge of each issuer and each user ID, in this order.
abbrev pub edges_of : Entries → Certificate → ℕ → List EdgeFacts
edges_of verdicts c t = flat_map (edges_by verdicts c t) (issuers_of verdicts c)

-- ---- what they are

abbrev pub is_edge_of : Fpr → ℕ → EdgeFacts → Bool
is_edge_of issuer uid e = same_fpr e.issuer issuer && (e.uid == uid)

abbrev pub edge_at : List EdgeFacts → Fpr → ℕ → Option EdgeFacts
edge_at [] issuer uid = None
edge_at (e ∷ es) issuer uid = if is_edge_of issuer uid e then Some e else edge_at es issuer uid

-- These are all edges into the certificate at t, each once, in order.
pub record AreRows (verdicts : Entries) (c : Certificate) (t : ℕ) (edges : List EdgeFacts) : Type 0 where
  pub sorted : IsStrictlySortedBy edge_cmp edges
  pub exact : (issuer : Fpr) (uid : ℕ) → edge_at edges issuer uid ≡ edge_of verdicts c t issuer uid

-- All of them are into this one.
abbrev pub AreInto : Fpr → List EdgeFacts → Type 0
AreInto target edges = (edge : EdgeFacts) → Has edges edge → edge.target ≡ target

-- ---- revoked user IDs

-- the places, from this one on, at which the test holds
abbrev pub places_where : {A : Type 0} → (A → Bool) → ℕ → List A → List ℕ
places_where test place [] = []
places_where test place (x ∷ xs) =
    if test x then place ∷ places_where test (place + 1) xs else places_where test (place + 1) xs

-- the places of the user IDs that are revoked by the certificate's own key at t
abbrev pub revoked_of : Entries → Certificate → ℕ → List ℕ
revoked_of verdicts c t = places_where (is_own_revoked verdicts (own c) t) 0 c.user_ids

-- ---- the standing

-- The standing of the key is the same throughout a span as at t.
abbrev pub StandsThroughout : Entries → Certificate → ℕ → Span → Type 0
StandsThroughout verdicts c t span = IsThroughout span (standing_of verdicts c) (standing_of verdicts c t)
