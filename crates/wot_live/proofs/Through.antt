-- The edges into a certificate stay the same throughout a span.
use Rattle.std.proofs.Common.{◌≡◌, ℕ, zero, suc, ◌+◌, List, [], ◌∷◌, Option, refl, ap}
use Rattle.std.specs.List.{AllByRecursion, filter_map, flat_map, slice_get}
use Rattle.std.specs.Option.{option_and_then}
use Rattle.wot_types.specs.declared.fpr.Fpr.{Fpr}
use Rattle.wot_verdict.specs.Verdicts.{Entries}
use Rattle.wot_component.specs.Certificate.{Component, Certificate}
use Rattle.wot_standing.specs.Own.{is_own_revoked}
use Rattle.wot_standing.specs.Standing.{own}
use Rattle.wot_standing.specs.Steady.{SameBy}
use Rattle.wot_live.specs.Edge.{edge_by, edge_of, edge_on}
use Rattle.wot_live.specs.Rows.{edges_by, edges_of, issuers_of, places_where, revoked_of, user_id_places}

on_same : (verdicts : Entries) (target : Fpr) (t u : ℕ) (issuer : Fpr) (uid : ℕ) (p : Component) →
    SameBy verdicts issuer t u p → edge_on verdicts target t issuer uid p ≡ edge_on verdicts target u issuer uid p
on_same verdicts target t u issuer uid p h = ap (option_and_then (edge_by issuer target uid p.sigs)) h.certification

filter_map_same : {A B : Type 0} (f g : A → Option B) → ((x : A) → f x ≡ g x) → (xs : List A) →
    filter_map f xs ≡ filter_map g xs
filter_map_same f g h [] = refl
filter_map_same f g h (x ∷ xs) = rw (h x, filter_map_same f g h xs) refl

flat_map_same : {A B : Type 0} (f g : A → List B) → ((x : A) → f x ≡ g x) → (xs : List A) →
    flat_map f xs ≡ flat_map g xs
flat_map_same f g h [] = refl
flat_map_same f g h (x ∷ xs) = rw (h x, flat_map_same f g h xs) refl

of_same : (verdicts : Entries) (target : Fpr) (t u : ℕ) (issuer : Fpr) (uid : ℕ) (ps : List Component) (k : ℕ) →
    AllByRecursion (SameBy verdicts issuer t u) ps
    → option_and_then (edge_on verdicts target t issuer uid) (slice_get ps k) ≡ option_and_then
    (edge_on verdicts target u issuer uid) (slice_get ps k)
of_same verdicts target t u issuer uid [] k h = refl
of_same verdicts target t u issuer uid (p ∷ ps) zero h = on_same verdicts target t u issuer uid p h.0
of_same verdicts target t u issuer uid (p ∷ ps) (suc k) h = of_same verdicts target t u issuer uid ps k h.1

pub edges_same : (verdicts : Entries) (c : Certificate) (t u : ℕ) →
    ((issuer : Fpr) → AllByRecursion (SameBy verdicts issuer t u) c.user_ids) →
    edges_of verdicts c t ≡ edges_of verdicts c u
edges_same verdicts c t u h =
    flat_map_same (edges_by verdicts c t) (edges_by verdicts c u)
    (λ issuer. filter_map_same (edge_of verdicts c t issuer) (edge_of verdicts c u issuer)
    (λ uid. of_same verdicts (own c) t u issuer uid c.user_ids uid (h issuer)) (user_id_places c))
    (issuers_of verdicts c)

places_same : (verdicts : Entries) (fpr : Fpr) (t u place : ℕ) (ps : List Component) →
    AllByRecursion (SameBy verdicts fpr t u) ps
    → places_where (is_own_revoked verdicts fpr t) place ps ≡ places_where (is_own_revoked verdicts fpr u) place ps
places_same verdicts fpr t u place [] h = refl
places_same verdicts fpr t u place (p ∷ ps) h = rw (h.0.revoked, places_same verdicts fpr t u (place + 1) ps h.1) refl

pub revoked_same : (verdicts : Entries) (c : Certificate) (t u : ℕ) →
    AllByRecursion (SameBy verdicts (own c) t u) c.user_ids → revoked_of verdicts c t ≡ revoked_of verdicts c u
revoked_same verdicts c t u h = places_same verdicts (own c) t u 0 c.user_ids h
