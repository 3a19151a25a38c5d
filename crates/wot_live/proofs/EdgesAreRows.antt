-- The edges of each issuer and each user ID are all edges into a certificate.
use Rattle.std.proofs.Common.{◌≡◌, ℕ, zero, suc, ◌+◌, Bool, true, false, cond, ◌&&◌, ◌||◌, List, [], ◌∷◌, ◌++◌, Option}
use Rattle.std.proofs.Common.{Some, None, Ordering, inl, inr, ◌≤◌, ◌<◌, length, refl, sym, ap, subst, ◌∙◌, arith}
use Rattle.std.specs.declared.cmp.Ordering.TheVariants.{Less}
use Rattle.std.specs.Prelude.{◌==◌}
use Rattle.std.specs.Cmp.{nat_cmp_is}
use Rattle.std.specs.List.{AllByRecursion, cons_option, filter_map, flat_map, list_any, range_with_len, slice_get}
use Rattle.std.specs.Option.{option_and_then, option_or}
use Rattle.std.specs.Ordering.{nat_cmp, ordering_then}
use Rattle.std.proofs.lemmas.Bool.Decides.{nat_tests}
use Rattle.std.proofs.lemmas.Cmp.{tied_itself}
use Rattle.std.proofs.lemmas.Map.Keys.{sorted_head, sorted_tail}
use Rattle.std.proofs.lemmas.Option.{slice_get_within}
use Rattle.wot_types.specs.declared.fpr.Fpr.{Fpr}
use Rattle.wot_types.specs.Fpr.{fpr_cmp, same_fpr}
use Rattle.wot_types.specs.FprLaws.{fpr_total, same_fpr-sym, same_fpr-true}
use Rattle.wot_verdict.specs.Verdicts.{Entries}
use Rattle.wot_component.specs.Certificate.{Component, Certificate}
use Rattle.wot_component.specs.Counts.{sigs_on}
use Rattle.wot_cert.specs.Issuer.{counts_by, issuer_of}
use Rattle.wot_edge.specs.declared.edge.EdgeFacts.{EdgeFacts}
use Rattle.wot_edge.specs.Order.{edge_cmp}
use Rattle.wot_edge.specs.Record.{Has}
use Rattle.wot_standing.specs.Standing.{own, newest_certification}
use Rattle.wot_live.specs.Edge.{edge_by, edge_of, edge_on}
use Rattle.wot_live.specs.Rows.{AreInto, AreRows, edge_at, edges_by, edges_of, is_edge_of, issuers_of, user_id_places}
use Rattle.wot_live.proofs.Exact.{IsEdge, OnlyCounting, all_append, all_filter_map, all_then, at_append, edge_by-is}
use Rattle.wot_live.proofs.Exact.{equal-true, none_of}
use Rattle.wot_live.proofs.IssuersInOrder.{IsLeast, any_in_order, any_issuer, none_on, sorted_in_order}
use Rattle.wot_live.proofs.OneList.{IsBelow, Sorted, none_sorted, sorted_more}

-- ---- cases

step_none : (at same any : Bool) (g r : Option EdgeFacts) → r ≡ cond (any && same) g None →
    (at ≡ true → same ≡ true → g ≡ None) → r ≡ cond ((at || any) && same) g None
step_none true true true g r h k = h
step_none true true false g r h k = h ∙ sym (k refl refl)
step_none true false true g r h k = h
step_none true false false g r h k = h
step_none false same any g r h k = h

step_some : (at same any : Bool) (e : EdgeFacts) (g r : Option EdgeFacts) → r ≡ cond (any && same) g None →
    (at ≡ true → same ≡ true → g ≡ Some e) → cond (same && at) (Some e) r ≡ cond ((at || any) && same) g None
step_some true true any e g r h k = sym (k refl refl)
step_some true false true e g r h k = h
step_some true false false e g r h k = h
step_some false true any e g r h k = h
step_some false false any e g r h k = h

either : (a b : Bool) (g : Option EdgeFacts) → option_or (cond a g None) (cond b g None) ≡ cond (a || b) g None
either true true None = refl
either true false None = refl
either true b (Some e) = refl
either false b g = refl

unlike : (a b : ℕ) → (a == b) ≡ false → a ≤ b → a + 1 ≤ b
unlike a b e h = grind (arith, nat_tests)

any_place : (uid a n : ℕ) → a ≤ uid → uid < a + n → list_any (λ u. u == uid) (range_with_len a n) ≡ true
any_place uid a zero h l = absurd (omega arith)
any_place uid a (suc n) h l = by (a == uid) refl (λ more. any_place uid (a + 1) n more (omega (arith, l)))
  where
    by : (b : Bool) → (a == uid) ≡ b
        → (a + 1 ≤ uid → list_any (λ u. u == uid) (range_with_len (a + 1) n) ≡ true)
        → (b || list_any (λ u. u == uid) (range_with_len (a + 1) n)) ≡ true
    by true e rest = refl
    by false e rest = rest (unlike a uid e h)

module _ (verdicts : Entries) (c : Certificate) (t : ℕ) where
  pub edge_is : (issuer : Fpr) (uid : ℕ) (e : EdgeFacts) → edge_of verdicts c t issuer uid ≡ Some e →
      IsEdge issuer (own c) uid e
  edge_is issuer uid e h = by (slice_get c.user_ids uid) h
    where
      by : (o : Option Component) → option_and_then (edge_on verdicts (own c) t issuer uid) o ≡ Some e →
          IsEdge issuer (own c) uid e
      by None g = absurd cc
      by (Some p) g = edge_by-is issuer (own c) uid p.sigs (newest_certification verdicts issuer t p) e g

  no_edge : OnlyCounting verdicts t → (issuer : Fpr) (uid : ℕ) →
      list_any (counts_by verdicts issuer) (sigs_on c.user_ids) ≡ false → edge_of verdicts c t issuer uid ≡ None
  no_edge only issuer uid h = by (slice_get c.user_ids uid) refl
    where
      by : (o : Option Component) → slice_get c.user_ids uid ≡ o →
          option_and_then (edge_on verdicts (own c) t issuer uid) o ≡ None
      by None e = refl
      by (Some p) e =
          ap (option_and_then (edge_by issuer (own c) uid p.sigs)) (only issuer p (none_on (counts_by verdicts issuer)
          c.user_ids uid p e h))

  -- ---- the edge of an issuer and a user ID

  module _ (issuer : Fpr) (uid : ℕ) where
    at_places : (x : Fpr) (us : List ℕ) → edge_at (filter_map (edge_of verdicts c t x) us) issuer uid ≡
        cond (list_any (λ u. u == uid) us && same_fpr issuer x) (edge_of verdicts c t issuer uid) None
    at_places x [] = refl
    at_places x (u ∷ us) = by (edge_of verdicts c t x u) refl (at_places x us)
      where
        here : (o : Option EdgeFacts) → edge_of verdicts c t x u ≡ o → (u == uid) ≡ true → same_fpr issuer x ≡ true →
            edge_of verdicts c t issuer uid ≡ o
        here o f at same =
            ap (λ (i : Fpr). edge_of verdicts c t i uid) (same_fpr-true issuer x same)
            ∙ ap (λ (v : ℕ). edge_of verdicts c t x v) (sym (equal-true u uid at)) ∙ f

        tests : (e : EdgeFacts) → IsEdge x (own c) u e → is_edge_of issuer uid e ≡ (same_fpr issuer x && (u == uid))
        tests e h =
            ap (λ (i : Fpr). same_fpr i issuer && (e.uid == uid)) h.issuer_is
            ∙ ap (λ (v : ℕ). same_fpr x issuer && (v == uid)) h.uid_is
            ∙ ap (λ (b : Bool). b && (u == uid)) (same_fpr-sym x issuer)

        by : (o : Option EdgeFacts) → edge_of verdicts c t x u ≡ o →
            edge_at (filter_map (edge_of verdicts c t x) us) issuer uid ≡
            cond (list_any (λ v. v == uid) us && same_fpr issuer x) (edge_of verdicts c t issuer uid) None →
            edge_at (cons_option o (filter_map (edge_of verdicts c t x) us)) issuer uid ≡
            cond (((u == uid) || list_any (λ v. v == uid) us) && same_fpr issuer x) (edge_of verdicts c t issuer uid)
            None
        by None f r =
            step_none (u == uid) (same_fpr issuer x) (list_any (λ v. v == uid) us) (edge_of verdicts c t issuer uid)
            (edge_at (filter_map (edge_of verdicts c t x) us) issuer uid) r (here None f)
        by (Some e) f r =
            ap (λ (b : Bool). cond b (Some e) (edge_at (filter_map (edge_of verdicts c t x) us) issuer uid))
            (tests e (edge_is x u e f))
            ∙ step_some (u == uid) (same_fpr issuer x) (list_any (λ v. v == uid) us) e
            (edge_of verdicts c t issuer uid) (edge_at (filter_map (edge_of verdicts c t x) us) issuer uid) r
            (here (Some e) f)

    at_issuer : (x : Fpr) → edge_at (edges_by verdicts c t x) issuer uid ≡
        cond (same_fpr issuer x) (edge_of verdicts c t issuer uid) None
    at_issuer x = at_places x (user_id_places c) ∙ by (slice_get c.user_ids uid) refl
      where
        both : (a b : Bool) (g : Option EdgeFacts) → g ≡ None → cond (a && b) g None ≡ cond b g None
        both a b g e = none_of (a && b) g e ∙ sym (none_of b g e)

        by : (o : Option Component) → slice_get c.user_ids uid ≡ o →
            cond (list_any (λ u. u == uid) (user_id_places c) && same_fpr issuer x) (edge_of verdicts c t issuer uid)
            None ≡ cond (same_fpr issuer x) (edge_of verdicts c t issuer uid) None
        by None e =
            both (list_any (λ u. u == uid) (user_id_places c)) (same_fpr issuer x) (edge_of verdicts c t issuer uid)
            (ap (option_and_then (edge_on verdicts (own c) t issuer uid)) e)
        by (Some p) e =
            ap (λ (b : Bool). cond (b && same_fpr issuer x) (edge_of verdicts c t issuer uid) None)
            (let within = slice_get_within c.user_ids uid p e in
            any_place uid 0 (length c.user_ids) (omega arith) (omega (arith, within)))

    at_issuers : (xs : List Fpr) → edge_at (flat_map (edges_by verdicts c t) xs) issuer uid ≡
        cond (list_any (same_fpr issuer) xs) (edge_of verdicts c t issuer uid) None
    at_issuers [] = refl
    at_issuers (x ∷ xs) =
        at_append issuer uid (edges_by verdicts c t x) (flat_map (edges_by verdicts c t) xs)
        ∙ ap (λ (o : Option EdgeFacts). option_or o (edge_at (flat_map (edges_by verdicts c t) xs) issuer uid))
        (at_issuer x)
        ∙ ap (option_or (cond (same_fpr issuer x) (edge_of verdicts c t issuer uid) None)) (at_issuers xs)
        ∙ either (same_fpr issuer x) (list_any (same_fpr issuer) xs) (edge_of verdicts c t issuer uid)

    each_exact : OnlyCounting verdicts t →
        edge_at (edges_of verdicts c t) issuer uid ≡ edge_of verdicts c t issuer uid
    each_exact only =
        at_issuers (issuers_of verdicts c)
        ∙ ap (λ (b : Bool). cond b (edge_of verdicts c t issuer uid) None)
        (any_in_order issuer (filter_map (issuer_of verdicts) (sigs_on c.user_ids))
        ∙ any_issuer verdicts issuer (sigs_on c.user_ids))
        ∙ by (list_any (counts_by verdicts issuer) (sigs_on c.user_ids)) refl
      where
        by : (b : Bool) → list_any (counts_by verdicts issuer) (sigs_on c.user_ids) ≡ b →
            cond b (edge_of verdicts c t issuer uid) None ≡ edge_of verdicts c t issuer uid
        by true e = refl
        by false e = sym (no_edge only issuer uid e)

  -- ---- in order

  -- what holds of an issuer's edges on the user IDs from a place on
  abbrev IsOnwards : Fpr → ℕ → EdgeFacts → Type 0
  IsOnwards x a e = (e.issuer ≡ x) × (a ≤ e.uid)

  all_onwards : (x : Fpr) (a n : ℕ) →
      AllByRecursion (IsOnwards x a) (filter_map (edge_of verdicts c t x) (range_with_len a n))
  all_onwards x a zero = tt
  all_onwards x a (suc n) =
      by (edge_of verdicts c t x a) refl
      (all_then (IsOnwards x (a + 1)) (IsOnwards x a)
      (λ e h. let above : a + 1 ≤ e.uid = h.1 in (h.0, omega (arith, above)))
      (filter_map (edge_of verdicts c t x) (range_with_len (a + 1) n)) (all_onwards x (a + 1) n))
    where
      by : (o : Option EdgeFacts) → edge_of verdicts c t x a ≡ o →
          AllByRecursion (IsOnwards x a) (filter_map (edge_of verdicts c t x) (range_with_len (a + 1) n)) →
          AllByRecursion (IsOnwards x a)
          (cons_option o (filter_map (edge_of verdicts c t x) (range_with_len (a + 1) n)))
      by None e r = r
      by (Some y) e r =
          let is = edge_is x a y e in
          let same : y.uid ≡ a = is.uid_is in
          ((is.issuer_is, omega (arith, same)), r)

  less_uid : (e y : EdgeFacts) → e.issuer ≡ y.issuer → e.uid < y.uid → edge_cmp e y ≡ Less
  less_uid e y same l =
      ap (λ (i : Fpr). ordering_then (fpr_cmp i y.issuer) (nat_cmp e.uid y.uid)) same
      ∙ ap (λ (o : Ordering). ordering_then o (nat_cmp e.uid y.uid)) (tied_itself fpr_total y.issuer)
      ∙ sym (nat_cmp_is e.uid y.uid Less l)

  less_issuer : (e y : EdgeFacts) → fpr_cmp e.issuer y.issuer ≡ Less → edge_cmp e y ≡ Less
  less_issuer e y h = ap (λ (o : Ordering). ordering_then o (nat_cmp e.uid y.uid)) h

  sorted_by : (x : Fpr) (a n : ℕ) → Sorted edge_cmp (filter_map (edge_of verdicts c t x) (range_with_len a n))
  sorted_by x a zero = none_sorted edge_cmp
  sorted_by x a (suc n) = by (edge_of verdicts c t x a) refl (sorted_by x (a + 1) n)
    where
      by : (o : Option EdgeFacts) → edge_of verdicts c t x a ≡ o →
          Sorted edge_cmp (filter_map (edge_of verdicts c t x) (range_with_len (a + 1) n)) →
          Sorted edge_cmp (cons_option o (filter_map (edge_of verdicts c t x) (range_with_len (a + 1) n)))
      by None e r = r
      by (Some y) e r =
          let is = edge_is x a y e in
          sorted_more edge_cmp y (filter_map (edge_of verdicts c t x) (range_with_len (a + 1) n))
          (all_then (IsOnwards x (a + 1)) (λ z. edge_cmp y z ≡ Less)
          (λ z h. let above : a + 1 ≤ z.uid = h.1 in let same : y.uid ≡ a = is.uid_is in
          less_uid y z (is.issuer_is ∙ sym h.0) (omega (arith, above, same)))
          (filter_map (edge_of verdicts c t x) (range_with_len (a + 1) n)) (all_onwards x (a + 1) n)) r

  all_by : (x : Fpr) → AllByRecursion (λ e. e.issuer ≡ x) (edges_by verdicts c t x)
  all_by x =
      all_filter_map (λ e. e.issuer ≡ x) (edge_of verdicts c t x) (λ u e h. (edge_is x u e h).issuer_is)
      (user_id_places c)

  all_above : (x : Fpr) (ys : List Fpr) → IsLeast x ys →
      AllByRecursion (λ e. fpr_cmp x e.issuer ≡ Less) (flat_map (edges_by verdicts c t) ys)
  all_above x [] h = tt
  all_above x (y ∷ ys) h =
      all_append (λ e. fpr_cmp x e.issuer ≡ Less) (λ e. e.issuer ≡ y)
      (λ e same. ap (λ (i : Fpr). fpr_cmp x i) same ∙ h.0) (edges_by verdicts c t y)
      (flat_map (edges_by verdicts c t) ys) (all_by y) (all_above x ys h.1)

  sorted_append : (es fs : List EdgeFacts) → Sorted edge_cmp es → Sorted edge_cmp fs →
      AllByRecursion (λ e. IsBelow e fs) es → Sorted edge_cmp (es ++ fs)
  sorted_append [] fs a b h = b
  sorted_append (e ∷ es) fs a b h =
      sorted_more edge_cmp e (es ++ fs) (all_append (λ y. edge_cmp e y ≡ Less) (λ y. edge_cmp e y ≡ Less) (λ y l. l) es
      fs (sorted_head edge_cmp e es a) h.0) (sorted_append es fs (sorted_tail edge_cmp e es a) b h.1)

  sorted_each : (xs : List Fpr) → Sorted fpr_cmp xs → Sorted edge_cmp (flat_map (edges_by verdicts c t) xs)
  sorted_each [] h = none_sorted edge_cmp
  sorted_each (x ∷ xs) h =
      sorted_append (edges_by verdicts c t x) (flat_map (edges_by verdicts c t) xs) (sorted_by x 0 (length c.user_ids))
      (sorted_each xs (sorted_tail fpr_cmp x xs h))
      (all_then (λ e. e.issuer ≡ x) (λ e. IsBelow e (flat_map (edges_by verdicts c t) xs))
      (λ e same. all_then (λ y. fpr_cmp x y.issuer ≡ Less) (λ y. edge_cmp e y ≡ Less)
      (λ y l. less_issuer e y (ap (λ (i : Fpr). fpr_cmp i y.issuer) same ∙ l)) (flat_map (edges_by verdicts c t) xs)
      (all_above x xs (sorted_head fpr_cmp x xs h))) (edges_by verdicts c t x) (all_by x))

  pub edges_rows : OnlyCounting verdicts t → AreRows verdicts c t (edges_of verdicts c t)
  edges_rows only = record {
    sorted = sorted_each (issuers_of verdicts c)
        (sorted_in_order (filter_map (issuer_of verdicts) (sigs_on c.user_ids)));
    exact = λ issuer uid. each_exact issuer uid only;
  }

  -- ---- into the certificate

  all_into : (xs : List Fpr) → AllByRecursion (λ e. e.target ≡ own c) (flat_map (edges_by verdicts c t) xs)
  all_into [] = tt
  all_into (x ∷ xs) =
      all_append (λ e. e.target ≡ own c) (λ e. e.target ≡ own c) (λ e h. h) (edges_by verdicts c t x)
      (flat_map (edges_by verdicts c t) xs)
      (all_filter_map (λ e. e.target ≡ own c) (edge_of verdicts c t x) (λ u e h. (edge_is x u e h).target_is)
      (user_id_places c)) (all_into xs)

  all_has : (P : EdgeFacts → Type 0) (es : List EdgeFacts) → AllByRecursion P es → (e : EdgeFacts) → Has es e → P e
  all_has P [] h e i = absurd i
  all_has P (y ∷ ys) h e (inl same) = subst P (sym same) h.0
  all_has P (y ∷ ys) h e (inr later) = all_has P ys h.1 e later

  pub edges_into : AreInto (own c) (edges_of verdicts c t)
  edges_into e i = all_has (λ x. x.target ≡ own c) (edges_of verdicts c t) (all_into (issuers_of verdicts c)) e i
