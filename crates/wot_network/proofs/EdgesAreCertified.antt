-- An edge comes from a certification that its issuer made, with at least the depth of the edge.
use Rattle.std.proofs.Common.{◌≡◌, ◌⊎◌, inl, inr, ℕ, zero, suc, ◌≤◌, Bool, true, false, cond, List, [], ◌∷◌, ◌++◌, map}
use Rattle.std.proofs.Common.{Option, Some, None, Ordering, refl, sym, ap, subst, ◌∙◌, arith}
use Rattle.std.specs.Prelude.{◌&&◌, filter, if◌then◌else◌}
use Rattle.std.specs.declared.cmp.Ordering.TheVariants.{Less, Equal, Greater}
use Rattle.std.specs.List.{cons_option, filter_map, flat_map, slice_get}
use Rattle.std.specs.Map.{lookup}
use Rattle.std.specs.Option.{option_map, option_map_or, option_and_then}
use Rattle.std.proofs.lemmas.Bool.{and_parts}
use Rattle.wot_types.specs.declared.fpr.Fpr.{Fpr}
use Rattle.wot_types.specs.Fpr.{same_fpr}
use Rattle.wot_types.specs.FprLaws.{same_fpr-true}
use Rattle.wot_signature.specs.declared.facts.SigFacts.{SigFacts}
use Rattle.wot_verdict.specs.Verdicts.{Entries, verdict_at}
use Rattle.wot_component.specs.Certificate.{Certificate, Component, Signature, said_by}
use Rattle.wot_cert.specs.Issuer.{allows, counts_by, good_by, issuer_of, issuer_with}
use Rattle.wot_component.specs.Ranked.{greatest, higher, higher_of}
use Rattle.wot_cert.specs.Revoked.{is_unrevoked}
use Rattle.wot_cert.specs.Time.{is_live, newness}
use Rattle.wot_edge.specs.declared.edge.EdgeFacts.{EdgeFacts}
use Rattle.wot_edge.specs.Record.{Has, Row, Entry, rows_into}
use Rattle.wot_keyring_spec.specs.Keyring.{Certificates, is_fpr}
use Rattle.wot_live.specs.Edge.{edge_by, edge_facts, edge_on, signature_place, edge_of}
use Rattle.wot_live.specs.Rows.{edges_of, edges_by, issuers_of, user_id_places}
use Rattle.wot_standing.specs.Kinds.{is_certification}
use Rattle.wot_standing.specs.Standing.{newest_certification, own}
use Rattle.wot_network.specs.Certified.{IsCertified, IsTrusted, RestsOnCertifications, RestsOnTrust}
use Rattle.wot_network.specs.Records.{record_of, row_of}
use Rattle.wot_network.proofs.LookupsAgree.{entry_some, row_told}

-- ---- members of lists

append_has : (xs ys : List EdgeFacts) (z : EdgeFacts) → Has (xs ++ ys) z → Has xs z ⊎ Has ys z
append_has [] ys z h = inr h
append_has (x ∷ xs) ys z (inl e) = inl (inl e)
append_has (x ∷ xs) ys z (inr h) = elim (append_has xs ys z h) [ inl k ↦ inl (inr k) | inr k ↦ inr k ]

filter_has : (test : Signature → Bool) (xs : List Signature) (s : Signature) → Has (filter test xs) s →
    Has xs s × (test s ≡ true)
filter_has test [] s h = absurd h
filter_has test (x ∷ xs) s h = by (filter_has test xs s) (test x) refl h
  where
    by : (Has (filter test xs) s → Has xs s × (test s ≡ true)) → (b : Bool) → test x ≡ b →
        Has (cond b (x ∷ filter test xs) (filter test xs)) s → Has (x ∷ xs) s × (test s ≡ true)
    by later true e (inl f) = (inl f, ap test f ∙ e)
    by later true e (inr k) = let r = later k in (inr r.0, r.1)
    by later false e k = let r = later k in (inr r.0, r.1)

filter_map_has : {A : Type 0} (h : A → Option EdgeFacts) (xs : List A) (e : EdgeFacts) → Has (filter_map h xs) e →
    (x : A) × (h x ≡ Some e)
filter_map_has h [] e k = absurd k
filter_map_has h (x ∷ xs) e k = by (filter_map_has h xs e) (h x) refl k
  where
    by : (Has (filter_map h xs) e → (y : _) × (h y ≡ Some e)) → (o : Option EdgeFacts) → h x ≡ o →
        Has (cons_option o (filter_map h xs)) e → (y : _) × (h y ≡ Some e)
    by later None f j = later j
    by later (Some y) f (inl g) = (x, f ∙ ap (λ (z : EdgeFacts). Some z) (sym g))
    by later (Some y) f (inr j) = later j

flat_map_has : (h : Fpr → List EdgeFacts) (xs : List Fpr) (e : EdgeFacts) → Has (flat_map h xs) e →
    (x : Fpr) × Has (h x) e
flat_map_has h [] e k = absurd k
flat_map_has h (x ∷ xs) e k = elim (append_has (h x) (flat_map h xs) e k) [
  | inl j ↦ (x, j)
  | inr j ↦ flat_map_has h xs e j
]

slice_has : (ps : List Component) (k : ℕ) (p : Component) → slice_get ps k ≡ Some p → Has ps p
slice_has [] k p e = absurd cc
slice_has (x ∷ xs) zero p e = inl cc
slice_has (x ∷ xs) (suc k) p e = inr (slice_has xs k p e)

greatest_has : (xs : List Signature) (s : Signature) → greatest newness xs ≡ Some s → Has xs s
greatest_has [] s e = absurd cc
greatest_has (x ∷ xs) s e = by (greatest_has xs) (greatest newness xs) refl e
  where
    pick : (y : Signature) → Has xs y → (o : Ordering) → Some (higher o x y) ≡ Some s → Has (x ∷ xs) s
    pick y h Less f = let g : y ≡ s = cc in inr (subst (Has xs) g h)
    pick y h Equal f = inl cc
    pick y h Greater f = inl cc

    by : ((y : Signature) → greatest newness xs ≡ Some y → Has xs y) → (o : Option Signature) →
        greatest newness xs ≡ o → higher_of newness x o ≡ Some s → Has (x ∷ xs) s
    by later None f g = inl cc
    by later (Some y) f g = pick y (later y f) (newness x y) g

-- ---- a signature that counts

good_with : (said : Option SigFacts) (admitted : Bool) (good : Option Fpr) (fpr : Fpr) →
    issuer_with said admitted good ≡ Some fpr → good ≡ Some fpr
good_with None admitted good fpr e = absurd cc
good_with (Some facts) false good fpr e = absurd cc
good_with (Some facts) true None fpr e = absurd cc
good_with (Some facts) true (Some by) fpr e = pick (facts.sound && allows facts.issuer by) e
  where
    pick : (b : Bool) → (if b then Some by else None) ≡ Some fpr → Some by ≡ Some fpr
    pick true f = f
    pick false f = absurd cc

counted_good : (verdicts : Entries) (fpr : Fpr) (s : Signature) → counts_by verdicts fpr s ≡ true →
    good_by (verdict_at verdicts s.number) ≡ Some fpr
counted_good verdicts fpr s e = by (issuer_of verdicts s) refl e
  where
    by : (o : Option Fpr) → issuer_of verdicts s ≡ o → option_map_or (same_fpr fpr) o false ≡ true →
        good_by (verdict_at verdicts s.number) ≡ Some fpr
    by None f g = absurd cc
    by (Some x) f g =
        good_with (said_by s) s.admitted (good_by (verdict_at verdicts s.number)) x f
        ∙ ap (λ (y : Fpr). Some y) (sym (same_fpr-true fpr x g))

-- ---- an edge

-- the newest of those that pass a test is one of them
newest_of : (test : Signature → Bool) (sigs : List Signature) (s : Signature) →
    greatest newness (filter test sigs) ≡ Some s → Has sigs s × (test s ≡ true)
newest_of test sigs s e = filter_has test sigs s (greatest_has (filter test sigs) s e)

-- what the newest certification by an issuer on a user ID is
newest_is : (verdicts : Entries) (issuer : Fpr) (t : ℕ) (p : Component) (s : Signature) →
    newest_certification verdicts issuer t p ≡ Some s
    → Has p.sigs s × (is_certification s ≡ true) × (good_by (verdict_at verdicts s.number) ≡ Some issuer)
newest_is verdicts issuer t p s e =
    let (among, holds) = newest_of _ p.sigs s e in
    let kind = and_parts (is_certification s)
    (counts_by verdicts issuer s && (is_live t s && is_unrevoked verdicts issuer t p.sigs s)) holds in
    let counts = and_parts (counts_by verdicts issuer s) (is_live t s && is_unrevoked verdicts issuer t p.sigs s)
    kind.1 in
    (among, kind.0, counted_good verdicts issuer s counts.0)

-- an edge has at most the depth that its signature says
said_deep : (issuer target : Fpr) (uid place : ℕ) (f : SigFacts) (edge : EdgeFacts) →
    edge_facts issuer target uid place f ≡ edge → edge.depth ≤ f.depth
said_deep issuer target uid place f edge e =
    subst (λ (z : EdgeFacts). z.depth ≤ f.depth) e (by (same_fpr issuer target))
  where
    by : (b : Bool) → (if b then 0 else f.depth) ≤ f.depth
    by true = omega arith
    by false = omega arith

-- the certification that an edge comes from
record IsMadeBy (verdicts : Entries) (c : Certificate) (edge : EdgeFacts) : Type 0 where
  certified : IsCertified verdicts edge.issuer c
  facts : SigFacts
  says : said_by certified.signature ≡ Some facts
  deep : edge.depth ≤ facts.depth

module _ (verdicts : Entries) (c : Certificate) (t : ℕ) where
  on_made : (issuer : Fpr) (uid : ℕ) (p : Component) (edge : EdgeFacts) → Has c.user_ids p →
      edge_on verdicts (own c) t issuer uid p ≡ Some edge → IsMadeBy verdicts c edge
  on_made issuer uid p edge on e = newest (newest_certification verdicts issuer t p) refl e
    where
      says : (s : Signature) → newest_certification verdicts issuer t p ≡ Some s → (o : Option SigFacts) → said_by s ≡ o
          → option_map (edge_facts issuer (own c) uid (signature_place s p.sigs)) o ≡ Some edge →
          IsMadeBy verdicts c edge
      says s n None f g = absurd cc
      says s n (Some facts) f g =
          let (among, kind, good) = newest_is verdicts issuer t p s n in
          let same : edge_facts issuer (own c) uid (signature_place s p.sigs) facts ≡ edge = cc in
          record {
            certified = record {
              user_id = p;
              on = on;
              signature = s;
              made = among;
              certification = kind;
              good = good ∙ ap (λ (z : EdgeFacts). Some z.issuer) same;
            };
            facts = facts;
            says = f;
            deep = said_deep issuer (own c) uid (signature_place s p.sigs) facts edge same;
          }

      newest : (o : Option Signature) → newest_certification verdicts issuer t p ≡ o →
          option_and_then (edge_by issuer (own c) uid p.sigs) o ≡ Some edge → IsMadeBy verdicts c edge
      newest None f g = absurd cc
      newest (Some s) f g = says s f (said_by s) refl g

  of_made : (issuer : Fpr) (uid : ℕ) (edge : EdgeFacts) → edge_of verdicts c t issuer uid ≡ Some edge →
      IsMadeBy verdicts c edge
  of_made issuer uid edge e = by (slice_get c.user_ids uid) refl e
    where
      by : (o : Option Component) → slice_get c.user_ids uid ≡ o →
          option_and_then (edge_on verdicts (own c) t issuer uid) o ≡ Some edge → IsMadeBy verdicts c edge
      by None f g = absurd cc
      by (Some p) f g = on_made issuer uid p edge (slice_has c.user_ids uid p f) g

  edge_made : (edge : EdgeFacts) → Has (edges_of verdicts c t) edge → IsMadeBy verdicts c edge
  edge_made edge h =
      let (issuer, among) = flat_map_has (edges_by verdicts c t) (issuers_of verdicts c) edge h in
      let (uid, e) = filter_map_has (edge_of verdicts c t issuer) (user_id_places c) edge among in
      of_made issuer uid edge e

trusted_with : (verdicts : Entries) (c : Certificate) (edge : EdgeFacts) → IsMadeBy verdicts c edge → 1 ≤ edge.depth →
    IsTrusted verdicts edge.issuer c
trusted_with verdicts c edge m some = record {
  user_id = m.certified.user_id;
  on = m.certified.on;
  signature = m.certified.signature;
  made = m.certified.made;
  certification = m.certified.certification;
  good = m.certified.good;
  facts = m.facts;
  says = m.says;
  deep = let deep = m.deep in omega (arith, deep, some);
}

-- ---- a row

row_has : (verdicts : Entries) (certs : Certificates) (t : ℕ) (u : List ℕ) (c : Certificate) (edges : List EdgeFacts)
    (row : Row) → Has (map (row_of verdicts certs t u c) edges) row → Has edges row.edge
row_has verdicts certs t u c [] row h = absurd h
row_has verdicts certs t u c (edge ∷ edges) row (inl e) = inl (ap (λ (r : Row). r.edge) e)
row_has verdicts certs t u c (edge ∷ edges) row (inr h) = inr (row_has verdicts certs t u c edges row h)

module _ (certs : Certificates) (verdicts : Entries) (t : ℕ) (u : List ℕ) where
  row_made : (fpr : Fpr) (row : Row) → Has (rows_into (record_of certs verdicts t u) fpr) row →
      (c : Certificate) × (lookup (is_fpr fpr) certs ≡ Some c) × IsMadeBy verdicts c row.edge
  row_made fpr row h =
      let (c, found, network) = row_told certs verdicts t u fpr row h in
      let among = row_has verdicts certs t u c (edges_of verdicts c t) row
      (subst (λ (entry : Entry). Has entry.rows row) (entry_some certs verdicts t u fpr c found) h) in
      (c, found, edge_made verdicts c t row.edge among)

  pub rests_on_certifications : RestsOnCertifications certs verdicts t u
  rests_on_certifications fpr row h = let (c, found, made) = row_made fpr row h in (c, found, made.certified)

  pub rests_on_trust : RestsOnTrust certs verdicts t u
  rests_on_trust fpr row h deep =
      let (c, found, made) = row_made fpr row h in (c, found, trusted_with verdicts c row.edge made deep)
