-- The edges of a certificate's own key lead to its self-certifications: one for each user ID that has a valid one.
use Rattle.std.proofs.Common.{◌≡◌, ℕ, ◌+◌, suc, Bool, true, false, cond, ◌&&◌, ◌||◌, List, [], ◌∷◌, ◌++◌, Option}
use Rattle.std.proofs.Common.{Some, None, Ordering, inl, inr, length, refl, sym, ap, subst, ◌∙◌, arith, length-append}
use Rattle.std.specs.declared.cmp.Ordering.TheVariants.{Less, Equal, Greater}
use Rattle.std.specs.Prelude.{filter}
use Rattle.std.specs.List.{AllByRecursion, cons_option, filter_map, flat_map, list_any, range_with_len, slice_get}
use Rattle.std.specs.Option.{option_and_then, option_map, option_map_or}
use Rattle.std.specs.Ordering.{is_eq}
use Rattle.std.proofs.lemmas.Bool.{and_parts, or_parts}
use Rattle.std.proofs.lemmas.Cmp.{tied_itself}
use Rattle.std.proofs.lemmas.List.Elements.{filter_map-append}
use Rattle.std.proofs.lemmas.List.Folds.{list_any-append}
use Rattle.std.proofs.lemmas.Map.Keys.{sorted_head, sorted_tail}
use Rattle.wot_types.specs.declared.fpr.Fpr.{Fpr}
use Rattle.wot_types.specs.Fpr.{fpr_cmp, same_fpr}
use Rattle.wot_types.specs.FprLaws.{same_fpr-refl, same_fpr-true}
use Rattle.wot_signature.specs.declared.facts.SigFacts.{SigFacts}
use Rattle.wot_verdict.specs.Verdicts.{Entries}
use Rattle.wot_component.specs.Certificate.{Signature, Component, Certificate, on_user_id, said_by, sig_cmp}
use Rattle.wot_component.specs.Counts.{sigs_on}
use Rattle.wot_component.specs.Ranked.{IsRising, greatest, higher, higher_of}
use Rattle.wot_component.specs.Whole.{ArePartsOf, IsPartOf}
use Rattle.wot_cert.specs.Issuer.{counts_by, issuer_of}
use Rattle.wot_cert.specs.Revoked.{is_unrevoked}
use Rattle.wot_cert.specs.Time.{is_live, newness}
use Rattle.wot_edge.specs.declared.edge.EdgeFacts.{EdgeFacts}
use Rattle.wot_edge.specs.Record.{Has}
use Rattle.wot_standing.specs.Kinds.{is_certification}
use Rattle.wot_standing.specs.Standing.{own, newest_certification, primacy, primary_among}
use Rattle.wot_live.specs.Edge.{edge_by, edge_facts, edge_of, edge_on, signature_place}
use Rattle.wot_live.specs.Rows.{edges_by, edges_of, issuers_of, user_id_places}
use Rattle.wot_live.specs.SelfCertified.{primary_by, self_certification}
use Rattle.wot_live.proofs.EdgesAreRows.{edge_is}
use Rattle.wot_live.proofs.Exact.{OnlyCounting, all_filter_map}
use Rattle.wot_live.proofs.IssuersInOrder.{any_in_order, any_issuer, sorted_in_order}
use Rattle.wot_live.proofs.OneList.{Sorted}
use Rattle.wot_live.proofs.Places.{not_tied, sig_total}

-- ---- the newest certification is one of the signatures

-- one of these, which passes the test
abbrev IsIn : (Signature → Bool) → List Signature → Signature → Type 0
IsIn p ss n = Has ss n × (p n ≡ true)

greatest_in : (p : Signature → Bool) (ss : List Signature) (n : Signature) →
    greatest newness (filter p ss) ≡ Some n → IsIn p ss n
greatest_in p [] n e = absurd cc
greatest_in p (s ∷ ss) n e = by (p s) refl (greatest_in p ss) e
  where
    this : p s ≡ true → s ≡ n → IsIn p (s ∷ ss) n
    this h same = (inl (sym same), ap p (sym same) ∙ h)

    later : (m : Signature) → IsIn p ss m → m ≡ n → IsIn p (s ∷ ss) n
    later m h same = subst (IsIn p (s ∷ ss)) same (inr h.0, h.1)

    pick : (o : Ordering) (y : Signature) → p s ≡ true → IsIn p ss y → higher o s y ≡ n → IsIn p (s ∷ ss) n
    pick Less y h g same = later y g same
    pick Equal y h g same = this h same
    pick Greater y h g same = this h same

    of : (best : Option Signature) → ((m : Signature) → greatest newness (filter p ss) ≡ Some m → IsIn p ss m) →
        p s ≡ true → greatest newness (filter p ss) ≡ best → higher_of newness s best ≡ Some n → IsIn p (s ∷ ss) n
    of None more h g f = this h (let q : s ≡ n = cc in q)
    of (Some y) more h g f = pick (newness s y) y h (more y g) (let q : higher (newness s y) s y ≡ n = cc in q)

    by : (b : Bool) → p s ≡ b → ((m : Signature) → greatest newness (filter p ss) ≡ Some m → IsIn p ss m) →
        greatest newness (cond b (s ∷ filter p ss) (filter p ss)) ≡ Some n → IsIn p (s ∷ ss) n
    by true h more f = of (greatest newness (filter p ss)) more h refl f
    by false h more f = let g = more n f in (inr g.0, g.1)

-- it can be parsed
said_if : (test : SigFacts → Bool) (o : Option SigFacts) → option_map_or test o false ≡ true →
    (f : SigFacts) × (o ≡ Some f)
said_if test None e = absurd cc
said_if test (Some f) e = (f, refl)

-- ---- it stands at its place

below_of : (x s : Signature) (ss : List Signature) → AllByRecursion (λ y. sig_cmp x y ≡ Less) ss → Has ss s →
    sig_cmp x s ≡ Less
below_of x s [] h i = absurd i
below_of x s (y ∷ ys) h (inl same) = ap (sig_cmp x) same ∙ h.0
below_of x s (y ∷ ys) h (inr later) = below_of x s ys h.1 later

get_next : (x : Signature) (xs : List Signature) (k : ℕ) → slice_get (x ∷ xs) (k + 1) ≡ slice_get xs k
get_next x xs k = let next : k + 1 ≡ suc k = omega arith in ap (slice_get (x ∷ xs)) next

stands_at : (s : Signature) (ss : List Signature) → IsRising sig_cmp ss → Has ss s →
    slice_get ss (signature_place s ss) ≡ Some s
stands_at s [] h i = absurd i
stands_at s (x ∷ xs) h (inl same) =
    ap (λ (y : Signature). slice_get (x ∷ xs) (cond (is_eq (sig_cmp y x)) 0 (signature_place s xs + 1))) same
    ∙ ap (λ o. slice_get (x ∷ xs) (cond (is_eq o) 0 (signature_place s xs + 1))) (tied_itself sig_total x)
    ∙ ap Some (sym same)
stands_at s (x ∷ xs) h (inr later) =
    ap (λ b. slice_get (x ∷ xs) (cond b 0 (signature_place s xs + 1))) (not_tied x s (below_of x s xs h.0 later))
    ∙ get_next x xs (signature_place s xs)
    ∙ stands_at s xs h.1 later

-- ---- lists

append_none : (xs : List Signature) → xs ++ [] ≡ xs
append_none [] = refl
append_none (x ∷ xs) = ap (λ (ys : List Signature). x ∷ ys) (append_none xs)

get_past : (pre : List Component) (p : Component) (ps : List Component) →
    slice_get (pre ++ p ∷ ps) (length pre) ≡ Some p
get_past [] p ps = refl
get_past (x ∷ xs) p ps = get_past xs p ps

append_next : (pre : List Component) (p : Component) (ps : List Component) → pre ++ p ∷ ps ≡ (pre ++ p ∷ []) ++ ps
append_next [] p ps = refl
append_next (x ∷ xs) p ps = ap (λ (ys : List Component). x ∷ ys) (append_next xs p ps)

none_filtered : (f : EdgeFacts → Option Signature) (es : List EdgeFacts) → AllByRecursion (λ e. f e ≡ None) es →
    filter_map f es ≡ []
none_filtered f [] h = refl
none_filtered f (e ∷ es) h = ap (λ o. cons_option o (filter_map f es)) h.0 ∙ none_filtered f es h.1

module _ (verdicts : Entries) (c : Certificate) (t : ℕ) where
  abbrev selves : List EdgeFacts → List Signature
  selves es = filter_map (self_certification c) es

  abbrev newest : Component → Option Signature
  newest p = newest_certification verdicts (own c) t p

  -- ---- an edge

  -- what decides about it: the issuer is the key itself, or isn't
  by_issuer : (e : EdgeFacts) (b : Bool) → same_fpr (own c) e.issuer ≡ b →
      self_certification c e ≡ cond b (option_and_then (λ (p : Component). slice_get p.sigs e.sig)
      (slice_get c.user_ids e.uid)) None
  by_issuer e b h =
      ap (λ (z : Bool). cond z (option_and_then (λ (p : Component). slice_get p.sigs e.sig)
      (slice_get c.user_ids e.uid)) None) h

  of_facts : (uid : ℕ) (p : Component) (s : Signature) (f : SigFacts) → slice_get c.user_ids uid ≡ Some p →
      slice_get p.sigs (signature_place s p.sigs) ≡ Some s →
      self_certification c (edge_facts (own c) (own c) uid (signature_place s p.sigs) f) ≡ Some s
  of_facts uid p s f here place =
      by_issuer (edge_facts (own c) (own c) uid (signature_place s p.sigs) f) true (same_fpr-refl (own c))
      ∙ ap (option_and_then (λ (q : Component). slice_get q.sigs (signature_place s p.sigs))) here
      ∙ place

  -- the edge of the key itself on a user ID leads to the newest self-certification there
  of_edge : (uid : ℕ) (p : Component) → slice_get c.user_ids uid ≡ Some p → IsRising sig_cmp p.sigs →
      (rest : List EdgeFacts) →
      selves (cons_option (edge_on verdicts (own c) t (own c) uid p) rest) ≡ cons_option (newest p) (selves rest)
  of_edge uid p here rises rest = by (newest p) refl
    where
      says : (s : Signature) → slice_get p.sigs (signature_place s p.sigs) ≡ Some s → (o : Option SigFacts) →
          (f : SigFacts) × (o ≡ Some f) →
          selves (cons_option (option_map (edge_facts (own c) (own c) uid (signature_place s p.sigs)) o) rest)
          ≡ s ∷ selves rest
      says s place None some = let none = some.1 in absurd (cc none)
      says s place (Some f) some =
          ap (λ (o : Option Signature). cons_option o (selves rest)) (of_facts uid p s f here place)

      by : (o : Option Signature) → newest p ≡ o →
          selves (cons_option (option_and_then (edge_by (own c) (own c) uid p.sigs) o) rest)
          ≡ cons_option o (selves rest)
      by None e = refl
      by (Some s) e =
          let found = greatest_in _ p.sigs s e in
          let kind = and_parts (is_certification s)
          (counts_by verdicts (own c) s && (is_live t s && is_unrevoked verdicts (own c) t p.sigs s)) found.1 in
          says s (stands_at s p.sigs rises found.0) (said_by s) (said_if _ (said_by s) kind.0)

  -- ---- the edges of one issuer

  abbrev Rises : Component → Type 0
  Rises p = IsRising sig_cmp p.sigs

  own_from : (pre ps : List Component) → c.user_ids ≡ pre ++ ps → AllByRecursion Rises ps →
      selves (filter_map (edge_of verdicts c t (own c)) (range_with_len (length pre) (length ps)))
      ≡ filter_map newest ps
  own_from pre [] e h = refl
  own_from pre (p ∷ ps) e h =
      let here : slice_get c.user_ids (length pre) ≡ Some p =
      ap (λ (us : List Component). slice_get us (length pre)) e ∙ get_past pre p ps in
      let next : length (pre ++ p ∷ []) ≡ length pre + 1 = length-append pre (p ∷ []) in
      ap (λ (o : Option Component). selves (cons_option (option_and_then (edge_on verdicts (own c) t (own c)
      (length pre)) o) (filter_map (edge_of verdicts c t (own c)) (range_with_len (length pre + 1) (length ps))))) here
      ∙ of_edge (length pre) p here h.0
      (filter_map (edge_of verdicts c t (own c)) (range_with_len (length pre + 1) (length ps)))
      ∙ ap (λ (k : ℕ). cons_option (newest p) (selves (filter_map (edge_of verdicts c t (own c))
      (range_with_len k (length ps))))) (sym next)
      ∙ ap (cons_option (newest p)) (own_from (pre ++ p ∷ []) ps (e ∙ append_next pre p ps) h.1)

  by_own : AllByRecursion Rises c.user_ids → selves (edges_by verdicts c t (own c)) ≡ filter_map newest c.user_ids
  by_own h = own_from [] c.user_ids refl h

  by_other : (x : Fpr) → same_fpr (own c) x ≡ false → selves (edges_by verdicts c t x) ≡ []
  by_other x h =
      none_filtered (self_certification c) (edges_by verdicts c t x)
      (all_filter_map (λ e. self_certification c e ≡ None) (edge_of verdicts c t x)
      (λ u e f. by_issuer e false (ap (same_fpr (own c)) (edge_is verdicts c t x u e f).issuer_is ∙ h))
      (user_id_places c))

  by_one : AllByRecursion Rises c.user_ids → (x : Fpr) (b : Bool) → same_fpr (own c) x ≡ b →
      selves (edges_by verdicts c t x) ≡ cond b (filter_map newest c.user_ids) []
  by_one h x true e =
      ap (λ (i : Fpr). selves (edges_by verdicts c t i)) (sym (same_fpr-true (own c) x e)) ∙ by_own h
  by_one h x false e = by_other x e

  -- ---- the edges of all issuers

  none_least : (x : Fpr) (xs : List Fpr) → own c ≡ x → AllByRecursion (λ y. fpr_cmp x y ≡ Less) xs →
      list_any (same_fpr (own c)) xs ≡ false
  none_least x [] e h = refl
  none_least x (y ∷ ys) e h =
      ap (λ (b : Bool). b || list_any (same_fpr (own c)) ys)
      (ap (λ (i : Fpr). same_fpr i y) e ∙ ap is_eq h.0) ∙ none_least x ys e h.1

  by_all : AllByRecursion Rises c.user_ids → (xs : List Fpr) → Sorted fpr_cmp xs →
      selves (flat_map (edges_by verdicts c t) xs)
      ≡ cond (list_any (same_fpr (own c)) xs) (filter_map newest c.user_ids) []
  by_all h [] sorted = refl
  by_all h (x ∷ xs) sorted =
      filter_map-append (self_certification c) (edges_by verdicts c t x) (flat_map (edges_by verdicts c t) xs)
      ∙ by (same_fpr (own c) x) refl (by_all h xs (sorted_tail fpr_cmp x xs sorted))
    where
      by : (b : Bool) → same_fpr (own c) x ≡ b →
          selves (flat_map (edges_by verdicts c t) xs)
          ≡ cond (list_any (same_fpr (own c)) xs) (filter_map newest c.user_ids) [] →
          selves (edges_by verdicts c t x) ++ selves (flat_map (edges_by verdicts c t) xs)
          ≡ cond (b || list_any (same_fpr (own c)) xs) (filter_map newest c.user_ids) []
      by true e rest =
          ap (λ (ss : List Signature). ss ++ selves (flat_map (edges_by verdicts c t) xs)) (by_one h x true e)
          ∙ ap (λ (ss : List Signature). filter_map newest c.user_ids ++ ss)
          (rest ∙ ap (λ (z : Bool). cond z (filter_map newest c.user_ids) [])
          (none_least x xs (same_fpr-true (own c) x e) (sorted_head fpr_cmp x xs sorted)))
          ∙ append_none (filter_map newest c.user_ids)
      by false e rest =
          ap (λ (ss : List Signature). ss ++ selves (flat_map (edges_by verdicts c t) xs)) (by_one h x false e)
          ∙ rest

  none_newest : OnlyCounting verdicts t → (ps : List Component) →
      list_any (counts_by verdicts (own c)) (sigs_on ps) ≡ false → filter_map newest ps ≡ []
  none_newest only [] h = refl
  none_newest only (p ∷ ps) h =
      let none = or_parts (list_any (counts_by verdicts (own c)) p.sigs)
      (list_any (counts_by verdicts (own c)) (sigs_on ps))
      (sym (list_any-append (counts_by verdicts (own c)) p.sigs (sigs_on ps)) ∙ h) in
      ap (λ (o : Option Signature). cons_option o (filter_map newest ps)) (only (own c) p none.0)
      ∙ none_newest only ps none.1

  selves_are : OnlyCounting verdicts t → AllByRecursion Rises c.user_ids →
      selves (edges_of verdicts c t) ≡ filter_map newest c.user_ids
  selves_are only h =
      by_all h (issuers_of verdicts c) (sorted_in_order (filter_map (issuer_of verdicts) (sigs_on c.user_ids)))
      ∙ ap (λ (b : Bool). cond b (filter_map newest c.user_ids) [])
      (any_in_order (own c) (filter_map (issuer_of verdicts) (sigs_on c.user_ids))
      ∙ any_issuer verdicts (own c) (sigs_on c.user_ids))
      ∙ by (list_any (counts_by verdicts (own c)) (sigs_on c.user_ids)) refl
    where
      by : (b : Bool) → list_any (counts_by verdicts (own c)) (sigs_on c.user_ids) ≡ b →
          cond b (filter_map newest c.user_ids) [] ≡ filter_map newest c.user_ids
      by true e = refl
      by false e = sym (none_newest only c.user_ids e)

  rise : (ps : List Component) → AllByRecursion (IsPartOf c.key on_user_id) ps → AllByRecursion Rises ps
  rise [] h = tt
  rise (p ∷ ps) h = (h.0.1.0, rise ps h.1)

  -- The primary self-certification is the greatest of those that make the key's own edges.
  pub primary_is : OnlyCounting verdicts t → ArePartsOf c.key on_user_id c.user_ids →
      primary_by c (edges_of verdicts c t) ≡ primary_among verdicts (own c) t c.user_ids
  primary_is only whole = ap (greatest primacy) (selves_are only (rise c.user_ids whole.1))
