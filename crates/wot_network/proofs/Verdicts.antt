-- What verdicts make of a certificate depends only on the verdicts on its signatures.
use Rattle.std.proofs.Common.{◌≡◌, ℕ, zero, suc, ◌+◌, Bool, false, List, [], ◌∷◌, ◌++◌, map, Option}
use Rattle.std.proofs.Common.{refl, ap, subst, ◌∙◌}
use Rattle.std.specs.Prelude.{◌&&◌, ◌||◌, not, nat_lt, filter, is_some}
use Rattle.std.specs.List.{AllByRecursion, list_all, list_any, filter_map, flat_map, slice_get}
use Rattle.std.specs.Option.{option_or, option_map_or, option_and_then}
use Rattle.std.proofs.lemmas.Grind.{flat_map-append}
use Rattle.wot_types.specs.declared.fpr.Fpr.{Fpr}
use Rattle.wot_types.specs.Fpr.{same_fpr}
use Rattle.wot_types.specs.PlainLaws.{all_prefix, all_back, all_each}
use Rattle.wot_verdict.specs.Verdicts.{Entries}
use Rattle.wot_verdict.specs.declared.verdict.Verdict.{Verdict}
use Rattle.wot_component.specs.Certificate.{Signature, Component, Certificate, said_by}
use Rattle.wot_component.specs.Counts.{all_sigs, parts_in, sigs_on}
use Rattle.wot_cert.specs.Issuer.{good_by, issuer_with, issuer_of, counts_by}
use Rattle.wot_component.specs.Ranked.{greatest}
use Rattle.wot_cert.specs.Revoked.{has_kind, revokes_by, is_unrevoked, is_revocable}
use Rattle.wot_cert.specs.Span.{created_of}
use Rattle.wot_cert.specs.Time.{is_live, made_of, newness}
use Rattle.wot_standing.specs.declared.status.Standing.{Standing}
use Rattle.wot_standing.specs.Kinds.{is_certification, is_soft}
use Rattle.wot_standing.specs.Own.{is_own_revoked}
use Rattle.wot_standing.specs.Standing.{own, primacy, newest_certification, primary_among, governing, end_by}
use Rattle.wot_standing.specs.Standing.{is_hard_revocation, is_hard_revoked, is_soft_revocation, least_of, soft_moment}
use Rattle.wot_standing.specs.Standing.{standing_of}
use Rattle.wot_standing.specs.Usable.{is_key_in_order, is_in_order}
use Rattle.wot_live.specs.Edge.{edge_by, edge_on, edge_of}
use Rattle.wot_live.specs.Rows.{edges_of, places_where, revoked_of, edges_by, fprs_in_order, issuers_of, user_id_places}
use Rattle.wot_keyring_spec.specs.Later.{SaysSame}
use Rattle.wot_network.specs.Standings.{GiveSame}

-- ---- lists

filter_same : {A : Type 0} (P : A → Type 0) (p q : A → Bool) → ((x : A) → P x → p x ≡ q x) → (xs : List A) →
    AllByRecursion P xs → filter p xs ≡ filter q xs
filter_same P p q f [] h = refl
filter_same P p q f (x ∷ xs) h = rw (f x h.0, filter_same P p q f xs h.1) refl

list_all_same : {A : Type 0} (P : A → Type 0) (p q : A → Bool) → ((x : A) → P x → p x ≡ q x) → (xs : List A) →
    AllByRecursion P xs → list_all p xs ≡ list_all q xs
list_all_same P p q f [] h = refl
list_all_same P p q f (x ∷ xs) h = rw (f x h.0, list_all_same P p q f xs h.1) refl

list_any_same : {A : Type 0} (P : A → Type 0) (p q : A → Bool) → ((x : A) → P x → p x ≡ q x) → (xs : List A) →
    AllByRecursion P xs → list_any p xs ≡ list_any q xs
list_any_same P p q f [] h = refl
list_any_same P p q f (x ∷ xs) h = rw (f x h.0, list_any_same P p q f xs h.1) refl

filter_map_same : {A B : Type 0} (P : A → Type 0) (p q : A → Option B) → ((x : A) → P x → p x ≡ q x) → (xs : List A) →
    AllByRecursion P xs → filter_map p xs ≡ filter_map q xs
filter_map_same P p q f [] h = refl
filter_map_same P p q f (x ∷ xs) h = rw (f x h.0, filter_map_same P p q f xs h.1) refl

map_each : {A B : Type 0} (p q : A → Option B) → ((x : A) → p x ≡ q x) → (xs : List A) →
    filter_map p xs ≡ filter_map q xs
map_each p q f [] = refl
map_each p q f (x ∷ xs) = rw (f x, map_each p q f xs) refl

join_each : {A B : Type 0} (p q : A → List B) → ((x : A) → p x ≡ q x) → (xs : List A) → flat_map p xs ≡ flat_map q xs
join_each p q f [] = refl
join_each p q f (x ∷ xs) = rw (f x, join_each p q f xs) refl

-- the newest valid signature of some types at a place: of certifications, and of direct key signatures
abbrev is_valid : Entries → (Signature → Bool) → Fpr → ℕ → List Signature → Signature → Bool
is_valid verdicts kind fpr t place s =
    kind s && (counts_by verdicts fpr s && (is_live t s && is_unrevoked verdicts fpr t place s))

abbrev newest : Entries → (Signature → Bool) → Fpr → ℕ → List Signature → Option Signature
newest verdicts kind fpr t place = greatest newness (filter (is_valid verdicts kind fpr t place) place)

module _ (v w : Entries) where
  abbrev Same : Signature → Type 0
  Same s = SaysSame v w s

  abbrev SameOn : Component → Type 0
  SameOn p = AllByRecursion Same p.sigs

  -- ---- one signature

  issuer_same : (s : Signature) → Same s → issuer_of v s ≡ issuer_of w s
  issuer_same s h = ap (λ (o : Option Verdict). issuer_with (said_by s) s.admitted (good_by o)) h

  counts_same : (fpr : Fpr) (s : Signature) → Same s → counts_by v fpr s ≡ counts_by w fpr s
  counts_same fpr s h = ap (λ (o : Option Fpr). option_map_or (same_fpr fpr) o false) (issuer_same s h)

  revokes_same : (fpr : Fpr) (t : ℕ) (s : Signature) → Same s → revokes_by v fpr t s ≡ revokes_by w fpr t s
  revokes_same fpr t s h = ap (λ (b : Bool). has_kind 48 s && (b && is_live t s)) (counts_same fpr s h)

  -- ---- one place

  unrevoked_same : (fpr : Fpr) (t : ℕ) (place : List Signature) → AllByRecursion Same place → (s : Signature) →
      is_unrevoked v fpr t place s ≡ is_unrevoked w fpr t place s
  unrevoked_same fpr t place h s =
      ap (λ (b : Bool). not (is_revocable s) || b)
      (list_all_same Same (λ r. not (revokes_by v fpr t r) || nat_lt (made_of r) (made_of s))
      (λ r. not (revokes_by w fpr t r) || nat_lt (made_of r) (made_of s))
      (λ r e. ap (λ (b : Bool). not b || nat_lt (made_of r) (made_of s)) (revokes_same fpr t r e)) place h)

  valid_same : (kind : Signature → Bool) (fpr : Fpr) (t : ℕ) (place : List Signature) → AllByRecursion Same place →
      (s : Signature) → Same s → is_valid v kind fpr t place s ≡ is_valid w kind fpr t place s
  valid_same kind fpr t place h s e =
      ap (λ (b : Bool). kind s && (b && (is_live t s && is_unrevoked v fpr t place s))) (counts_same fpr s e)
      ∙ ap (λ (b : Bool). kind s && (counts_by w fpr s && (is_live t s && b))) (unrevoked_same fpr t place h s)

  newest_same : (kind : Signature → Bool) (fpr : Fpr) (t : ℕ) (place : List Signature) → AllByRecursion Same place →
      newest v kind fpr t place ≡ newest w kind fpr t place
  newest_same kind fpr t place h =
      ap (greatest newness) (filter_same Same (is_valid v kind fpr t place) (is_valid w kind fpr t place)
      (valid_same kind fpr t place h) place h)

  own_revoked_same : (fpr : Fpr) (t : ℕ) (uid : Component) → SameOn uid →
      is_own_revoked v fpr t uid ≡ is_own_revoked w fpr t uid
  own_revoked_same fpr t uid h =
      ap (λ (b : Bool). b && not (is_some (newest_certification v fpr t uid))) (list_any_same Same (revokes_by v fpr t)
      (revokes_by w fpr t) (revokes_same fpr t) uid.sigs h)
      ∙ ap (λ (o : Option Signature). list_any (revokes_by w fpr t) uid.sigs && not (is_some o))
      (newest_same is_certification fpr t uid.sigs h)

  pub uid_same : (fpr : Fpr) (t : ℕ) (uid : Component) → SameOn uid → GiveSame v w fpr t uid
  uid_same fpr t uid h = record {
    newest = newest_same is_certification fpr t uid.sigs h;
    unrevoked = unrevoked_same fpr t uid.sigs h;
    revoked = own_revoked_same fpr t uid h;
  }

  -- ---- standing

  governing_same : (c : Certificate) (t : ℕ) → AllByRecursion Same c.direct → AllByRecursion SameOn c.user_ids →
      governing v c t ≡ governing w c t
  governing_same c t direct uids =
      ap (λ (o : Option Signature). option_or o (primary_among v (own c) t c.user_ids))
      (newest_same (has_kind 31) (own c) t c.direct direct)
      ∙ ap (λ (o : Option Signature). option_or (newest w (has_kind 31) (own c) t c.direct) o)
      (ap (greatest primacy) (filter_map_same SameOn (newest_certification v (own c) t)
      (newest_certification w (own c) t) (λ p e. newest_same is_certification (own c) t p.sigs e) c.user_ids uids))

  hard_same : (c : Certificate) → AllByRecursion Same c.direct → is_hard_revoked v c ≡ is_hard_revoked w c
  hard_same c h =
      list_any_same Same (is_hard_revocation v (own c)) (is_hard_revocation w (own c))
      (λ s e. ap (λ (b : Bool). (has_kind 32 s && b) && not (is_soft s)) (counts_same (own c) s e)) c.direct h

  soft_same : (fpr : Fpr) (t : ℕ) (direct : List Signature) → AllByRecursion Same direct →
      soft_moment v fpr t direct ≡ soft_moment w fpr t direct
  soft_same fpr t direct h =
      ap (λ (ss : List Signature). least_of (map made_of ss))
      (filter_same Same (is_soft_revocation v fpr t) (is_soft_revocation w fpr t)
      (λ s e. ap (λ (b : Bool). (has_kind 32 s && b) && (is_soft s && is_live t s)) (counts_same fpr s e)) direct h)

  abbrev standing_by : Certificate → Option Signature → Bool → Option ℕ → Standing
  standing_by c by hard soft = record {
    has = is_some by;
    created = created_of c;
    end = end_by (created_of c) by;
    hard =
        hard;
    soft = soft;
  }

  standing_parts : (c : Certificate) (t : ℕ) → AllByRecursion Same c.direct → AllByRecursion SameOn c.user_ids →
      standing_of v c t ≡ standing_of w c t
  standing_parts c t direct uids =
      ap (λ (by : Option Signature). standing_by c by (is_hard_revoked v c) (soft_moment v (own c) t c.direct))
      (governing_same c t direct uids)
      ∙ ap (λ (hard : Bool). standing_by c (governing w c t) hard (soft_moment v (own c) t c.direct))
      (hard_same c direct)
      ∙ ap (λ (soft : Option ℕ). standing_by c (governing w c t) (is_hard_revoked w c) soft)
      (soft_same (own c) t c.direct direct)

  -- ---- edges

  edge_on_same : (target : Fpr) (t : ℕ) (issuer : Fpr) (uid : ℕ) (p : Component) → SameOn p →
      edge_on v target t issuer uid p ≡ edge_on w target t issuer uid p
  edge_on_same target t issuer uid p h = ap (option_and_then (edge_by issuer target uid p.sigs))
      (newest_same is_certification issuer t p.sigs h)

  edge_at_same : (target : Fpr) (t : ℕ) (issuer : Fpr) (uid : ℕ) (ps : List Component) (k : ℕ) →
      AllByRecursion SameOn ps → option_and_then (edge_on v target t issuer uid) (slice_get ps k) ≡ option_and_then
      (edge_on w target t issuer uid) (slice_get ps k)
  edge_at_same target t issuer uid [] k h = refl
  edge_at_same target t issuer uid (p ∷ ps) zero h = edge_on_same target t issuer uid p h.0
  edge_at_same target t issuer uid (p ∷ ps) (suc k) h = edge_at_same target t issuer uid ps k h.1

  edges_by_same : (c : Certificate) (t : ℕ) → AllByRecursion SameOn c.user_ids → (issuer : Fpr) →
      edges_by v c t issuer ≡ edges_by w c t issuer
  edges_by_same c t h issuer =
      map_each (edge_of v c t issuer) (edge_of w c t issuer)
      (λ uid. edge_at_same (own c) t issuer uid c.user_ids uid h) (user_id_places c)

  -- ---- of a certificate with these verdicts on all its signatures

  direct_in : (c : Certificate) → AllByRecursion Same (all_sigs c) → AllByRecursion Same c.direct
  direct_in c h = all_prefix Same c.direct (sigs_on (parts_in c)) h

  uids_in : (c : Certificate) → AllByRecursion Same (all_sigs c) → AllByRecursion SameOn c.user_ids
  uids_in c h =
      let parts = all_each Same (λ (p : Component). p.sigs) (parts_in c)
      (all_back Same c.direct (sigs_on (parts_in c)) h) in
      all_prefix SameOn c.user_ids c.attributes (all_prefix SameOn (c.user_ids ++ c.attributes) c.subkeys parts)

  uid_sigs_in : (c : Certificate) → AllByRecursion Same (all_sigs c) → AllByRecursion Same (sigs_on c.user_ids)
  uid_sigs_in c h =
      let sigs : Component → List Signature = λ p. p.sigs in
      let in_parts = subst (AllByRecursion Same) (flat_map-append sigs (c.user_ids ++ c.attributes) c.subkeys)
      (all_back Same c.direct (sigs_on (parts_in c)) h) in
      let in_front = all_prefix Same (sigs_on (c.user_ids ++ c.attributes)) (sigs_on c.subkeys) in_parts in
      all_prefix Same (sigs_on c.user_ids) (sigs_on c.attributes)
      (subst (AllByRecursion Same) (flat_map-append sigs c.user_ids c.attributes) in_front)

  pub standing_same : (c : Certificate) (t : ℕ) → AllByRecursion Same (all_sigs c) →
      standing_of v c t ≡ standing_of w c t
  standing_same c t h = standing_parts c t (direct_in c h) (uids_in c h)

  pub edges_same : (c : Certificate) (t : ℕ) → AllByRecursion Same (all_sigs c) → edges_of v c t ≡ edges_of w c t
  edges_same c t h =
      join_each (edges_by v c t) (edges_by w c t) (edges_by_same c t (uids_in c h)) (issuers_of v c)
      ∙ ap (λ (ss : List Fpr). flat_map (edges_by w c t) (fprs_in_order ss))
      (filter_map_same Same (issuer_of v) (issuer_of w) issuer_same (sigs_on c.user_ids)
      (uid_sigs_in c h))

  places_same : (fpr : Fpr) (t place : ℕ) (uids : List Component) → AllByRecursion SameOn uids →
      places_where (is_own_revoked v fpr t) place uids ≡ places_where (is_own_revoked w fpr t) place uids
  places_same fpr t place [] h = refl
  places_same fpr t place (uid ∷ uids) h = rw (own_revoked_same fpr t uid h.0, places_same fpr t (place + 1) uids h.1)
      refl

  pub revoked_same : (c : Certificate) (t : ℕ) → AllByRecursion Same (all_sigs c) → revoked_of v c t ≡ revoked_of w c t
  revoked_same c t h = places_same (own c) t 0 c.user_ids (uids_in c h)

  pub in_order_same : (c : Certificate) (t : ℕ) (is_wanted : Component → Bool) → AllByRecursion Same (all_sigs c) →
      is_in_order v c t is_wanted ≡ is_in_order w c t is_wanted
  in_order_same c t is_wanted h =
      ap (λ (s : Standing). is_key_in_order s t && list_any
      (λ uid. is_wanted uid && not (is_own_revoked v (own c) t uid)) c.user_ids) (standing_same c t h)
      ∙ ap (λ (b : Bool). is_key_in_order (standing_of w c t) t && b)
      (list_any_same SameOn (λ uid. is_wanted uid && not (is_own_revoked v (own c) t uid))
      (λ uid. is_wanted uid && not (is_own_revoked w (own c) t uid))
      (λ uid e. ap (λ (b : Bool). is_wanted uid && not b) (own_revoked_same (own c) t uid e)) c.user_ids (uids_in c h))
