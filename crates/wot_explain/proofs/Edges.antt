-- The word is 0 if and only if the certification is a usable edge.
use Rattle.std.proofs.Common.{◌≡◌, inl, inr, ℕ, ◌+◌, Bool, true, false, cond, ◌&&◌, List, [], ◌∷◌, Option, Some, None}
use Rattle.std.proofs.Common.{refl, sym, ap, ◌∙◌, arith}
use Rattle.std.specs.Prelude.{filter}
use Rattle.std.specs.declared.cmp.Ordering.{Ordering}
use Rattle.std.specs.declared.cmp.Ordering.TheVariants.{Less, Equal, Greater}
use Rattle.std.specs.Cmp.{IsTotalOrder, Equal-is}
use Rattle.std.specs.List.{slice_get}
use Rattle.std.specs.Map.{lookup}
use Rattle.std.specs.Option.{option_and_then, option_map, option_map_or}
use Rattle.std.specs.Ordering.{is_eq, nat_cmp}
use Rattle.std.specs.Cmp.Lexicographic.{slice_cmp}
use Rattle.std.proofs.lemmas.Bool.{and_parts}
use Rattle.std.proofs.lemmas.Cmp.{nat_list_cmp_total, on_total, tied_itself}
use Rattle.std.proofs.lemmas.Map.Lookups.{exact_bytes}
use Rattle.wot_types.specs.declared.fpr.Fpr.{Fpr}
use Rattle.wot_types.specs.Fpr.{same_fpr}
use Rattle.wot_types.specs.FprLaws.{same_fpr-true}
use Rattle.wot_signature.specs.declared.facts.SigFacts.{SigFacts}
use Rattle.wot_signature.specs.Signature.{facts_of}
use Rattle.wot_verdict.specs.Verdicts.{Entries, verdict_at}
use Rattle.wot_component.specs.Certificate.{Signature, Component, Certificate, said_by, sig_cmp}
use Rattle.wot_cert.specs.Issuer.{allows, good_by, issuer_with, counts_by}
use Rattle.wot_component.specs.Ranked.{IsRising, IsBelow, greatest, higher, higher_of}
use Rattle.wot_cert.specs.Revoked.{is_unrevoked}
use Rattle.wot_cert.specs.Time.{is_live, newness}
use Rattle.wot_edge.specs.declared.edge.EdgeFacts.{EdgeFacts}
use Rattle.wot_edge.specs.declared.path.Step.{Step}
use Rattle.wot_edge.specs.Path.{step_of}
use Rattle.wot_edge.specs.Record.{Has}
use Rattle.wot_keyring_spec.specs.Keyring.{Certificates, is_fpr}
use Rattle.wot_live.specs.Edge.{edge_facts, edge_by, edge_on, edge_of, signature_place}
use Rattle.wot_network.specs.Records.{is_usable_by}
use Rattle.wot_standing.specs.declared.status.Standing.{Standing}
use Rattle.wot_standing.specs.Kinds.{is_certification}
use Rattle.wot_standing.specs.Standing.{own, newest_certification, standing_of}
use Rattle.wot_standing.specs.Usable.{is_usable}
use Rattle.wot_explain.specs.Words.{is_so}
use Rattle.wot_explain.specs.Reasons.{reason_word, step_by}
use Rattle.wot_explain.specs.Usable.{IsOnUserId, IsUsableEdge}
use Rattle.wot_explain.proofs.Clear.{IsClear, so_of, clear_where, zero_where}

-- ---- signatures by their bodies

sig_total : IsTotalOrder sig_cmp
sig_total = on_total (λ (s : Signature). s.body) nat_list_cmp_total

same_body : (a b : Signature) → is_eq (sig_cmp a b) ≡ true → a.body ≡ b.body
same_body a b e = exact_bytes a.body b.body ((Equal-is (sig_cmp a b)).0 e)

place_same : (a b : Signature) (ss : List Signature) → a.body ≡ b.body → signature_place a ss ≡ signature_place b ss
place_same a b [] e = refl
place_same a b (x ∷ xs) e =
    ap (λ (body : List ℕ). cond (is_eq (slice_cmp nat_cmp body x.body)) 0 (signature_place a xs + 1)) e
    ∙ ap (λ (n : ℕ). cond (is_eq (sig_cmp b x)) 0 (n + 1)) (place_same a b xs e)

below_in : (x a : Signature) (xs : List Signature) → IsBelow sig_cmp x xs → Has xs a → sig_cmp x a ≡ Less
below_in x a [] h g = absurd g
below_in x a (y ∷ ys) h (inl e) = ap (sig_cmp x) e ∙ h.0
below_in x a (y ∷ ys) h (inr g) = below_in x a ys h.1 g

-- the element of a sorted list that has the first one's body is the first one
first_in : (x a : Signature) (xs : List Signature) → IsBelow sig_cmp x xs → Has (x ∷ xs) a →
    is_eq (sig_cmp a x) ≡ true → a ≡ x
first_in x a xs h (inl e) f = e
first_in x a xs h (inr g) f =
    let less : sig_cmp x a ≡ Less = below_in x a xs h g in
    let body = same_body a x f in
    let tied : sig_cmp x a ≡ Equal = ap (slice_cmp nat_cmp x.body) body ∙ tied_itself sig_total x in
    absurd (cc (less, tied))

later_in : (x a : Signature) (xs : List Signature) → Has (x ∷ xs) a → is_eq (sig_cmp a x) ≡ false → Has xs a
later_in x a xs (inl e) f =
    let tied : is_eq (sig_cmp a x) ≡ true = ap (λ (y : Signature). is_eq (sig_cmp y x)) e
    ∙ ap is_eq (tied_itself sig_total x) in
    absurd (cc (f, tied))
later_in x a xs (inr g) f = g

-- two elements of a sorted list at one place are equal
one_place : (ss : List Signature) (a b : Signature) → IsRising sig_cmp ss → Has ss a → Has ss b →
    signature_place a ss ≡ signature_place b ss → a ≡ b
one_place [] a b h f g e = absurd f
one_place (x ∷ xs) a b h f g e = by (is_eq (sig_cmp a x)) (is_eq (sig_cmp b x)) refl refl (one_place xs a b h.1) e
  where
    by : (p q : Bool) → is_eq (sig_cmp a x) ≡ p → is_eq (sig_cmp b x) ≡ q →
        (Has xs a → Has xs b → signature_place a xs ≡ signature_place b xs → a ≡ b)
        → cond p 0 (signature_place a xs + 1) ≡ cond q 0 (signature_place b xs + 1) → a ≡ b
    by true true ep eq more e = first_in x a xs h.0 f ep ∙ sym (first_in x b xs h.0 g eq)
    by true false ep eq more e = absurd (omega (arith, e))
    by false true ep eq more e = absurd (omega (arith, e))
    by false false ep eq more e = more (later_in x a xs f ep) (later_in x b xs g eq) (omega (arith, e))

-- ---- the newest

-- a certification that counts for this issuer, is live and unrevoked
abbrev is_valid : Entries → Fpr → ℕ → List Signature → Signature → Bool
is_valid verdicts fpr t sigs s =
    is_certification s && (counts_by verdicts fpr s && (is_live t s && is_unrevoked verdicts fpr t sigs s))

greatest_in : (R : Signature → Signature → Ordering) (p : Signature → Bool) (ss : List Signature) (n : Signature) →
    greatest R (filter p ss) ≡ Some n → Has ss n × (p n ≡ true)
greatest_in R p [] n e = absurd cc
greatest_in R p (s ∷ ss) n e = by (p s) refl (greatest_in R p ss n) e
  where
    later : (greatest R (filter p ss) ≡ Some n → Has ss n × (p n ≡ true)) → greatest R (filter p ss) ≡ Some n →
        Has (s ∷ ss) n × (p n ≡ true)
    later more e = let h = more e in (inr h.0, h.1)

    this : p s ≡ true → n ≡ s → Has (s ∷ ss) n × (p n ≡ true)
    this h e = (inl e, ap p e ∙ h)

    higher_is : (o : Ordering) (y : Signature) → (greatest R (filter p ss) ≡ Some n → Has ss n × (p n ≡ true)) →
        p s ≡ true → greatest R (filter p ss) ≡ Some y → higher o s y ≡ n → Has (s ∷ ss) n × (p n ≡ true)
    higher_is Less y more h g e = later more (g ∙ ap Some e)
    higher_is Equal y more h g e = this h (sym e)
    higher_is Greater y more h g e = this h (sym e)

    of : (best : Option Signature) → (greatest R (filter p ss) ≡ Some n → Has ss n × (p n ≡ true)) → p s ≡ true →
        greatest R (filter p ss) ≡ best → higher_of R s best ≡ Some n → Has (s ∷ ss) n × (p n ≡ true)
    of None more h g e = this h (let q : s ≡ n = cc in sym q)
    of (Some y) more h g e = higher_is (R s y) y more h g (let q : higher (R s y) s y ≡ n = cc in q)

    by : (b : Bool) → p s ≡ b → (greatest R (filter p ss) ≡ Some n → Has ss n × (p n ≡ true)) →
        greatest R (cond b (s ∷ filter p ss) (filter p ss)) ≡ Some n → Has (s ∷ ss) n × (p n ≡ true)
    by true h more e = of (greatest R (filter p ss)) more h refl e
    by false h more e = later more e

-- ---- usable

usable_by : (f : Certificate → Standing) (found : Option Certificate) (i : Standing) (made : ℕ) →
    option_map f found ≡ Some i → is_usable i made ≡ true
    → option_map_or (λ (c : Certificate). is_usable (f c) made) found false ≡ true
usable_by f None i made e h = absurd cc
usable_by f (Some c) i made e h = let same : f c ≡ i = cc in ap (λ (j : Standing). is_usable j made) same ∙ h

found_usable : (f : Certificate → Standing) (found : Option Certificate) (made : ℕ) →
    option_map_or (λ (c : Certificate). is_usable (f c) made) found false ≡ true
    → (i : Standing) × (option_map f found ≡ Some i) × (is_usable i made ≡ true)
found_usable f None made h = absurd cc
found_usable f (Some c) made h = (f c, refl, h)

module _ (verdicts : Entries) (certs : Certificates) (t : ℕ) (c : Certificate) (place : ℕ) (uid : Component)
    (s : Signature) where
  edge_at_place : (issuer : Fpr) → slice_get c.user_ids place ≡ Some uid →
      edge_of verdicts c t issuer place ≡ edge_on verdicts (own c) t issuer place uid
  edge_at_place issuer here = ap (λ (o : Option Component). option_and_then (edge_on verdicts (own c) t issuer place) o)
      here

  pub is_usable_where : IsOnUserId c place uid s → reason_word verdicts certs t uid s ≡ 0 →
      (step : Step) × IsUsableEdge verdicts certs t c place (signature_place s uid.sigs) step
  is_usable_where on h =
      let w = clear_where verdicts certs t uid s h in
      let newest = so_of (λ (n : Signature). is_eq (sig_cmp s n)) (newest_certification verdicts w.issuer t uid)
      w.newest in
      let body = same_body s newest.0 newest.2 in
      let edge = edge_facts w.issuer (own c) place (signature_place s uid.sigs) w.facts in (
        step_of edge,
        record {
          issuer = w.issuer;
          edge = edge;
          made = edge_at_place w.issuer on.here
              ∙ ap (option_and_then (edge_by w.issuer (own c) place uid.sigs)) newest.1
              ∙ ap (λ (k : ℕ). option_map (edge_facts w.issuer (own c) place k) (said_by newest.0))
              (sym (place_same s newest.0 uid.sigs body))
              ∙ ap (λ (b : List ℕ). option_map (edge_facts w.issuer (own c) place (signature_place s uid.sigs)) (facts_of b))
              (sym body)
              ∙ ap (option_map (edge_facts w.issuer (own c) place (signature_place s uid.sigs))) w.read;
          place = refl;
          usable = usable_by (λ (x : Certificate). standing_of verdicts x t) (lookup (is_fpr w.issuer) certs) w.standing
              w.facts.made w.kept w.usable;
          shown = refl;
        },
      )

  -- what makes a signature count
  record Counts (issuer : Fpr) (f : SigFacts) : Type 0 where
    said : good_by (verdict_at verdicts s.number) ≡ Some issuer
    sound : f.sound ≡ true
    allowed : allows f.issuer issuer ≡ true
    admitted : s.admitted ≡ true

  counting : (issuer : Fpr) (f : SigFacts) → said_by s ≡ Some f → counts_by verdicts issuer s ≡ true → Counts issuer f
  counting issuer f e h = by (good_by (verdict_at verdicts s.number)) s.admitted refl refl
      (ap (λ (o : Option SigFacts). option_map_or (same_fpr issuer)
      (issuer_with o s.admitted (good_by (verdict_at verdicts s.number))) false) (sym e) ∙ h)
    where
      of : (other : Fpr) (b : Bool) → (f.sound && allows f.issuer other) ≡ b →
          good_by (verdict_at verdicts s.number) ≡ Some other → s.admitted ≡ true →
          option_map_or (same_fpr issuer) (cond b (Some other) None) false ≡ true → Counts issuer f
      of other true g said admitted h =
          let same : other ≡ issuer = sym (same_fpr-true issuer other h) in
          let parts = and_parts f.sound (allows f.issuer other) g in
          record {
            said = said ∙ ap Some same;
            sound = parts.0;
            allowed = ap (allows f.issuer) (sym same) ∙ parts.1;
            admitted = admitted;
          }
      of other false g said admitted h = absurd cc

      by : (good : Option Fpr) (a : Bool) → good_by (verdict_at verdicts s.number) ≡ good → s.admitted ≡ a →
          option_map_or (same_fpr issuer) (issuer_with (Some f) a good) false ≡ true → Counts issuer f
      by None true said admitted h = absurd cc
      by None false said admitted h = absurd cc
      by (Some other) true said admitted h = of other (f.sound && allows f.issuer other) refl said admitted h
      by (Some other) false said admitted h = absurd cc

  -- the edge of the newest
  made_by : (issuer : Fpr) (edge : EdgeFacts) (n : Signature) (f : Option SigFacts) → said_by n ≡ f →
      option_map (edge_facts issuer (own c) place (signature_place n uid.sigs)) f ≡ Some edge
      → (g : SigFacts) × (said_by n ≡ Some g) × (edge_facts issuer (own c) place (signature_place n uid.sigs) g ≡ edge)
  made_by issuer edge n None e h = absurd cc
  made_by issuer edge n (Some f) e h = (f, e, cc)

  newest_of : (issuer : Fpr) (edge : EdgeFacts) (best : Option Signature) →
      newest_certification verdicts issuer t uid ≡ best → option_and_then (edge_by issuer (own c) place uid.sigs)
      best ≡ Some edge
      → (n : Signature) × (newest_certification verdicts issuer t uid ≡ Some n) × (edge_by issuer (own c) place uid.sigs
      n ≡ Some edge)
  newest_of issuer edge None e h = absurd cc
  newest_of issuer edge (Some n) e h = (n, e, h)

  -- for a usable edge: no word applies, and its step is the one returned
  clear_edge : (step : Step) → IsOnUserId c place uid s → IsUsableEdge verdicts certs t c place (signature_place s uid.sigs)
      step → IsClear verdicts certs t uid s × (step_by verdicts (own c) place uid s ≡ Some step)
  clear_edge step on u =
      let newest = newest_of u.issuer u.edge (newest_certification verdicts u.issuer t uid) refl
      (sym (edge_at_place u.issuer on.here) ∙ u.made) in
      let n = newest.0 in
      let made = made_by u.issuer u.edge n (said_by n) refl newest.2 in
      let found = greatest_in newness (is_valid verdicts u.issuer t uid.sigs) uid.sigs n newest.1 in
      let places : signature_place n uid.sigs ≡ signature_place s uid.sigs = ap (λ (e : EdgeFacts). e.sig) made.2 ∙ u.place in
      let same : n ≡ s = one_place uid.sigs n s on.rises found.0 on.there places in
      let valid : is_valid verdicts u.issuer t uid.sigs s ≡ true = ap (is_valid verdicts u.issuer t uid.sigs) (sym same)
      ∙ found.1 in
      let v1 = and_parts (is_certification s)
      (counts_by verdicts u.issuer s && (is_live t s && is_unrevoked verdicts u.issuer t uid.sigs s)) valid in
      let v2 = and_parts (counts_by verdicts u.issuer s) (is_live t s && is_unrevoked verdicts u.issuer t uid.sigs s)
      v1.1 in
      let v3 = and_parts (is_live t s) (is_unrevoked verdicts u.issuer t uid.sigs s) v2.1 in
      let read : said_by s ≡ Some made.0 = ap (λ (x : Signature). said_by x) (sym same) ∙ made.1 in
      let counts = counting u.issuer made.0 read v2.0 in
      let by : is_usable_by verdicts certs t u.issuer made.0.made ≡ true =
      ap (λ (e : EdgeFacts). is_usable_by verdicts certs t e.issuer e.made) made.2 ∙ u.usable in
      let usable = found_usable (λ (x : Certificate). standing_of verdicts x t) (lookup (is_fpr u.issuer) certs)
      made.0.made by in (
        record {
          issuer = u.issuer;
          facts = made.0;
          standing = usable.0;
          said = counts.said;
          read = read;
          sound = counts.sound;
          allowed = counts.allowed;
          admitted = counts.admitted;
          live = v3.0;
          unrevoked = v3.1;
          newest = ap (λ (o : Option Signature). is_so (λ (n : Signature). is_eq (sig_cmp s n)) o)
              (newest.1 ∙ ap Some same) ∙ ap is_eq (tied_itself sig_total s);
          kept = usable.1;
          usable = usable.2;
        },
        ap (λ (o : Option Fpr). option_map step_of
            (option_and_then (λ (issuer : Fpr). edge_by issuer (own c) place uid.sigs s) o)) counts.said
            ∙ ap (λ (x : Signature). option_map step_of (edge_by u.issuer (own c) place uid.sigs x)) (sym same)
            ∙ ap (option_map step_of) newest.2
            ∙ ap Some u.shown,
      )

  pub zero_is : IsOnUserId c place uid s → (step : Step) → IsUsableEdge verdicts certs t c place (signature_place s uid.sigs)
      step → reason_word verdicts certs t uid s ≡ 0
  zero_is on step u = zero_where verdicts certs t uid s (clear_edge step on u).0

  pub step_is : IsOnUserId c place uid s → (step : Step) → IsUsableEdge verdicts certs t c place (signature_place s uid.sigs)
      step → step_by verdicts (own c) place uid s ≡ Some step
  step_is on step u = (clear_edge step on u).1
