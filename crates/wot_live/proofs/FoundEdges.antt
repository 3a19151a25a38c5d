-- The edges of the newest certifications that are found are all edges into a certificate.
use Rattle.std.proofs.Common.{◌≡◌, ℕ, Bool, true, false, cond, ◌&&◌, List, [], ◌∷◌, Option, Some, None, refl, sym, ap}
use Rattle.std.proofs.Common.{subst, ◌∙◌, arith}
use Rattle.std.specs.declared.cmp.Ordering.TheVariants.{Less}
use Rattle.std.specs.Prelude.{◌==◌}
use Rattle.std.specs.BTreeMap.{is_at}
use Rattle.std.specs.Cmp.{tied_then, unsigned_tied}
use Rattle.std.specs.List.{AllByRecursion, cons_option, slice_get}
use Rattle.std.specs.Map.{keys_of}
use Rattle.std.specs.Option.{option_and_then}
use Rattle.std.specs.Ordering.{is_eq, nat_cmp, ordering_then}
use Rattle.std.proofs.lemmas.Bool.{and_parts}
use Rattle.std.proofs.lemmas.Bool.Decides.{nat_tests}
use Rattle.std.proofs.lemmas.Map.Keys.{sorted_head, sorted_tail}
use Rattle.wot_types.specs.declared.fpr.Fpr.{Fpr}
use Rattle.wot_types.specs.Fpr.{fpr_cmp, same_fpr}
use Rattle.wot_types.specs.FprLaws.{same_fpr-sym, same_fpr-true}
use Rattle.wot_verdict.specs.Verdicts.{Entries}
use Rattle.wot_component.specs.Certificate.{Signature, Component, Certificate}
use Rattle.wot_edge.specs.declared.edge.EdgeFacts.{EdgeFacts}
use Rattle.wot_edge.specs.Order.{edge_cmp}
use Rattle.wot_standing.specs.declared.places.Certified.{Certified}
use Rattle.wot_standing.specs.Certifiers.{certified_cmp, place_for}
use Rattle.wot_standing.specs.Standing.{own}
use Rattle.wot_live.specs.Edge.{edge_by, edge_of, edge_on}
use Rattle.wot_live.specs.Found.{AreFound, edge_at_place, found_edge, found_edges}
use Rattle.wot_live.specs.Rows.{edge_at, edges_of, is_edge_of}
use Rattle.wot_live.proofs.EdgesAreRows.{edges_rows}
use Rattle.wot_live.proofs.Exact.{IsEdge, OnlyCounting, edge_by-is, equal-true}
use Rattle.wot_live.proofs.OneList.{IsBelow, Sorted, none_sorted, one_list, sorted_more}

equal-sym : (a b : ℕ) → (a == b) ≡ (b == a)
equal-sym a b = grind (arith, nat_tests)

module _ (c : Certificate) where
  found_is : (e : Certified × ℕ) (y : EdgeFacts) → found_edge c e ≡ Some y → IsEdge e.0.issuer (own c) e.0.uid y
  found_is e y h = by (slice_get c.user_ids e.0.uid) h
    where
      by : (o : Option Component) →
          option_and_then (λ p. edge_at_place e.0.issuer (own c) e.0.uid p e.1) o ≡ Some y →
          IsEdge e.0.issuer (own c) e.0.uid y
      by None g = absurd cc
      by (Some p) g = edge_by-is e.0.issuer (own c) e.0.uid p.sigs (slice_get p.sigs e.1) y g

  -- ---- in order

  compared : (k q : Certified) (y z : EdgeFacts) → IsEdge k.issuer (own c) k.uid y → IsEdge q.issuer (own c) q.uid z →
      edge_cmp y z ≡ certified_cmp k q
  compared k q y z f g =
      ap (λ i. ordering_then (fpr_cmp i z.issuer) (nat_cmp y.uid z.uid)) f.issuer_is
      ∙ ap (λ i. ordering_then (fpr_cmp k.issuer i) (nat_cmp y.uid z.uid)) g.issuer_is
      ∙ ap (λ u. ordering_then (fpr_cmp k.issuer q.issuer) (nat_cmp u z.uid)) f.uid_is
      ∙ ap (λ u. ordering_then (fpr_cmp k.issuer q.issuer) (nat_cmp k.uid u)) g.uid_is

  below_found : (k : Certified) (y : EdgeFacts) (found : List (Certified × ℕ)) → IsEdge k.issuer (own c) k.uid y →
      AllByRecursion (λ q. certified_cmp k q ≡ Less) (keys_of found) → IsBelow y (found_edges c found)
  below_found k y [] is h = tt
  below_found k y (e ∷ rest) is h = by (found_edge c e) refl (below_found k y rest is h.1)
    where
      by : (o : Option EdgeFacts) → found_edge c e ≡ o → IsBelow y (found_edges c rest) →
          IsBelow y (cons_option o (found_edges c rest))
      by None f r = r
      by (Some z) f r = (compared k e.0 y z is (found_is e z f) ∙ h.0, r)

  sorted_found : (found : List (Certified × ℕ)) → Sorted certified_cmp (keys_of found) →
      Sorted edge_cmp (found_edges c found)
  sorted_found [] h = none_sorted edge_cmp
  sorted_found (e ∷ rest) h =
      by (found_edge c e) refl (sorted_found rest (sorted_tail certified_cmp e.0 (keys_of rest) h))
    where
      by : (o : Option EdgeFacts) → found_edge c e ≡ o → Sorted edge_cmp (found_edges c rest) →
          Sorted edge_cmp (cons_option o (found_edges c rest))
      by None f r = r
      by (Some y) f r =
          sorted_more edge_cmp y (found_edges c rest)
          (below_found e.0 y rest (found_is e y f) (sorted_head certified_cmp e.0 (keys_of rest) h)) r

  -- ---- the edge of an issuer and a user ID

  module _ (issuer : Fpr) (uid : ℕ) where
    abbrev key : Certified
    key = record { issuer = issuer; uid = uid }

    at_both : (q : Certified) → is_at (certified_cmp key) q ≡ (same_fpr issuer q.issuer && (uid == q.uid))
    at_both q =
        sym (tied_then (fpr_cmp issuer q.issuer) (nat_cmp uid q.uid))
        ∙ ap (λ b. same_fpr issuer q.issuer && b) (unsigned_tied uid q.uid)

    -- whether it is the issuer's edge on the user ID
    is_for : (e : Certified × ℕ) (y : EdgeFacts) → found_edge c e ≡ Some y →
        is_edge_of issuer uid y ≡ is_at (certified_cmp key) e.0
    is_for e y h =
        let is = found_is e y h in
        ap (λ i. same_fpr i issuer && (y.uid == uid)) is.issuer_is
        ∙ ap (λ u. same_fpr e.0.issuer issuer && (u == uid)) is.uid_is
        ∙ ap (λ b. b && (e.0.uid == uid)) (same_fpr-sym e.0.issuer issuer)
        ∙ ap (λ b. same_fpr issuer e.0.issuer && b) (equal-sym e.0.uid uid)
        ∙ sym (at_both e.0)

    -- an issuer and a user ID below all others have no edge among theirs
    none_for : (found : List (Certified × ℕ)) →
        AllByRecursion (λ q. certified_cmp key q ≡ Less) (keys_of found) →
        edge_at (found_edges c found) issuer uid ≡ None
    none_for [] h = refl
    none_for (e ∷ rest) h = by (found_edge c e) refl (none_for rest h.1)
      where
        by : (o : Option EdgeFacts) → found_edge c e ≡ o → edge_at (found_edges c rest) issuer uid ≡ None →
            edge_at (cons_option o (found_edges c rest)) issuer uid ≡ None
        by None f r = r
        by (Some y) f r =
            ap (λ b. cond b (Some y) (edge_at (found_edges c rest) issuer uid)) (is_for e y f ∙ ap is_eq h.0) ∙ r

    same_key : (q : Certified) → is_at (certified_cmp key) q ≡ true → key ≡ q
    same_key q h =
        let parts = and_parts (same_fpr issuer q.issuer) (uid == q.uid) (sym (at_both q) ∙ h) in
        let issuers = same_fpr-true issuer q.issuer parts.0 in
        let uids = equal-true uid q.uid parts.1 in
        λ i. record { issuer = issuers i; uid = uids i }

    -- the edge of an issuer and a user ID is that of the place that is kept for them
    at_found : (found : List (Certified × ℕ)) → Sorted certified_cmp (keys_of found) →
        edge_at (found_edges c found) issuer uid ≡
        option_and_then (λ place. found_edge c (key, place)) (place_for found uid issuer)
    at_found [] h = refl
    at_found (e ∷ rest) h =
        by (is_at (certified_cmp key) e.0) refl (at_found rest (sorted_tail certified_cmp e.0 (keys_of rest) h))
      where
        none_later : key ≡ e.0 → edge_at (found_edges c rest) issuer uid ≡ None
        none_later same =
            none_for rest (subst (λ k. AllByRecursion (λ q. certified_cmp k q ≡ Less) (keys_of rest)) (sym same)
            (sorted_head certified_cmp e.0 (keys_of rest) h))

        here : (o : Option EdgeFacts) → found_edge c e ≡ o → is_at (certified_cmp key) e.0 ≡ true →
            edge_at (cons_option o (found_edges c rest)) issuer uid ≡ o
        here None f at = none_later (same_key e.0 at)
        here (Some y) f at =
            ap (λ b. cond b (Some y) (edge_at (found_edges c rest) issuer uid)) (is_for e y f ∙ at)

        there : (o : Option EdgeFacts) → found_edge c e ≡ o → is_at (certified_cmp key) e.0 ≡ false →
            edge_at (cons_option o (found_edges c rest)) issuer uid ≡ edge_at (found_edges c rest) issuer uid
        there None f apart = refl
        there (Some y) f apart =
            ap (λ b. cond b (Some y) (edge_at (found_edges c rest) issuer uid)) (is_for e y f ∙ apart)

        by : (b : Bool) → is_at (certified_cmp key) e.0 ≡ b →
            edge_at (found_edges c rest) issuer uid ≡
            option_and_then (λ place. found_edge c (key, place)) (place_for rest uid issuer) →
            edge_at (found_edges c (e ∷ rest)) issuer uid ≡
            option_and_then (λ place. found_edge c (key, place)) (cond b (Some e.1) (place_for rest uid issuer))
        by true f r = here (found_edge c e) refl f ∙ ap (λ k. found_edge c (k, e.1)) (sym (same_key e.0 f))
        by false f r = there (found_edge c e) refl f ∙ r

  -- ---- all edges

  module _ (verdicts : Entries) (t : ℕ) (only : OnlyCounting verdicts t) (found : List (Certified × ℕ))
      (are : AreFound verdicts c t found) where
    abbrev nothing : ℕ → Option EdgeFacts
    nothing place = None

    no_place : (o : Option ℕ) → option_and_then nothing o ≡ None
    no_place None = refl
    no_place (Some place) = refl

    in_turn : (issuer : Fpr) (uid : ℕ) (sigs : List Signature) (o : Option ℕ) →
        option_and_then (λ place. option_and_then (edge_by issuer (own c) uid sigs) (slice_get sigs place)) o ≡
        option_and_then (edge_by issuer (own c) uid sigs) (option_and_then (slice_get sigs) o)
    in_turn issuer uid sigs None = refl
    in_turn issuer uid sigs (Some place) = refl

    exact : (issuer : Fpr) (uid : ℕ) → edge_at (found_edges c found) issuer uid ≡ edge_of verdicts c t issuer uid
    exact issuer uid = at_found issuer uid found are.sorted ∙ by (slice_get c.user_ids uid) refl
      where
        by : (o : Option Component) → slice_get c.user_ids uid ≡ o →
            option_and_then (λ place. option_and_then (λ p. edge_at_place issuer (own c) uid p place) o)
            (place_for found uid issuer) ≡ option_and_then (edge_on verdicts (own c) t issuer uid) o
        by None f = no_place (place_for found uid issuer)
        by (Some p) f =
            in_turn issuer uid p.sigs (place_for found uid issuer)
            ∙ ap (option_and_then (edge_by issuer (own c) uid p.sigs)) (are.newest uid p f issuer)

    pub all_found : found_edges c found ≡ edges_of verdicts c t
    all_found =
        let each = edges_rows verdicts c t only in
        one_list (found_edges c found) (edges_of verdicts c t) (sorted_found found are.sorted) each.sorted
        (λ issuer uid. exact issuer uid ∙ sym (each.exact issuer uid))
