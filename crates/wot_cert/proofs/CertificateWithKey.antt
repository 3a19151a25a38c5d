-- A certificate with its key.
use Rattle.std.proofs.Common.{◌≡◌, ℕ, Bool, true, false, cond, List, [], ◌∷◌, map, filter, refl, sym, ap, ◌∙◌, subst}
use Rattle.std.specs.Prelude.{◌==◌}
use Rattle.std.specs.List.{AllByRecursion}
use Rattle.std.specs.declared.cmp.Ordering.{Ordering}
use Rattle.std.specs.declared.cmp.Ordering.TheVariants.{Less, Equal, Greater}
use Rattle.std.specs.Prelude.{Some, None, slice_index}
use Rattle.wot_types.specs.declared.fpr.Fpr.{Fpr}
use Rattle.wot_key.specs.declared.key.Key.{Key}
use Rattle.wot_key.specs.Key.{created_in, is_readable, key_of, fpr_of, fingerprint_of, version_in}
use Rattle.wot_packet.specs.Spelling.{AreShort, Spelled}
use Rattle.wot_cert.specs.Packets.{is_signature, begins_component}
use Rattle.wot_component.specs.Ranked.{put, placed, united, IsBelow, IsRising}
use Rattle.wot_component.specs.Certificate.{Signature, Component, Certificate, fresh, kept, sig_cmp, part_cmp, unite_sigs}
use Rattle.wot_component.specs.Certificate.{unite_part, unite_parts, on_key, on_user_id, on_attribute, on_subkey}
use Rattle.wot_cert.specs.Assembly.{Section, cut_at, sigs_in, part_of, parts_of, certificate_with}
use Rattle.wot_component.specs.Whole.{IsSigAt, AreSigsAt, IsPartOf, ArePartsOf, IsCertificate}
use Rattle.wot_cert.specs.Drafting.{body_cmp, first_stays, unite_bodies, Group, group_cmp, unite_group, sig_bodies}
use Rattle.wot_cert.specs.Drafting.{group_of, groups_of, Sketch, sketched, with_signature, groups_with, with_component}
use Rattle.wot_cert.specs.Drafting.{part_drafted, completed, IsShort, IsShortGroup, IsShortSketch, SigsRise}
use Rattle.wot_cert.specs.Drafting.{IsWholeSketch}
use Rattle.std.proofs.lemmas.Cmp.{nat_list_cmp_total}
use Rattle.std.proofs.lemmas.Map.Lookups.{exact_bytes}
use Rattle.wot_component.proofs.Rank.{united_rises}
use Rattle.wot_cert.proofs.Sketches.{sketched-more, sketched-rises}

-- ---- a change of the items that keeps their ranks keeps unions

module _ {A B : Type 0} (R : A → A → Ordering) (join : A → A → A) (S : B → B → Ordering) (meet : B → B → B) (f : A → B)
    (ranks : (x y : A) → S (f x) (f y) ≡ R x y) (joins : (x y : A) → R y x ≡ Equal → f (join x y) ≡ meet (f x) (f y))
  where
    map-placed : (o : Ordering) (x y : A) (ys rest : List A) → R x y ≡ o
        → map f (placed o join x y ys rest) ≡ placed o meet (f x) (f y) (map f ys) (map f rest)
    map-placed Less x y ys rest e = refl
    map-placed Equal x y ys rest e = ap (λ (z : B). z ∷ map f ys) (joins y x e)
    map-placed Greater x y ys rest e = refl

    map-put : (x : A) (ys : List A) → map f (put R join x ys) ≡ put S meet (f x) (map f ys)
    map-put x [] = refl
    map-put x (y ∷ ys) =
        map-placed (R x y) x y ys (put R join x ys) refl
        ∙ ap (λ (o : Ordering). placed o meet (f x) (f y) (map f ys) (map f (put R join x ys))) (sym (ranks x y))
        ∙ ap (λ (zs : List B). placed (S (f x) (f y)) meet (f x) (f y) (map f ys) zs) (map-put x ys)

    pub map-united : (xs ys : List A) → map f (united R join xs ys) ≡ united S meet (map f xs) (map f ys)
    map-united xs [] = refl
    map-united xs (y ∷ ys) = map-put y (united R join xs ys) ∙ ap (put S meet (f y)) (map-united xs ys)

    below-map : (x : A) (ys : List A) → IsBelow R x ys → IsBelow S (f x) (map f ys)
    below-map x [] h = tt
    below-map x (y ∷ ys) h = (ranks x y ∙ h.0, below-map x ys h.1)

    pub rises-map : (xs : List A) → IsRising R xs → IsRising S (map f xs)
    rises-map [] h = tt
    rises-map (x ∷ xs) h = (below-map x xs h.0, rises-map xs h.1)

map-map : {A B C : Type 0} (f : A → B) (g : B → C) (xs : List A) → map g (map f xs) ≡ map (λ x. g (f x)) xs
map-map f g [] = refl
map-map f g (x ∷ xs) = ap (λ z. g (f x) ∷ z) (map-map f g xs)

pub sigs-completed : (key : List ℕ) (kind : ℕ) (component : List ℕ) (packets : List Spelled)
    → map (fresh key kind component) (sig_bodies packets) ≡ sigs_in key kind component packets
sigs-completed key kind component packets =
    let these = filter (λ (p : Spelled). is_signature p.kind) packets in
    map-united body_cmp first_stays sig_cmp kept (fresh key kind component) (λ x y. refl) (λ x y e. refl) []
    (map (λ (p : Spelled). p.body) these)
    ∙ ap (unite_sigs []) (map-map (λ (p : Spelled). p.body) (fresh key kind component) these)

abbrev part-with : List ℕ → List Signature → Component
part-with body sigs = record { body = body; sigs = sigs }

part-same : (body : List ℕ) (a b : List Signature) → a ≡ b → part-with body a ≡ part-with body b
part-same body a b e = ap (part-with body) e

join-drafted : (key : List ℕ) (kind : ℕ) (x y : Group) → group_cmp y x ≡ Equal
    → part_drafted key kind (unite_group x y) ≡ unite_part (part_drafted key kind x) (part_drafted key kind y)
join-drafted key kind x y e =
    let same : x.0 ≡ y.0 = sym (exact_bytes y.0 x.0 e) in
    part-same x.0 (map (fresh key kind x.0) (unite_bodies x.1 y.1))
    (unite_sigs (map (fresh key kind x.0) x.1) (map (fresh key kind y.0) y.1)) (
    map-united body_cmp first_stays sig_cmp kept (fresh key kind x.0) (λ a b. refl) (λ a b e. refl) x.1 y.1
    ∙ ap (λ (component : List ℕ). unite_sigs (map (fresh key kind x.0) x.1) (map (fresh key kind component) y.1)) same)

section-drafted : (key : List ℕ) (kind : ℕ) (sections : List Section)
    → map (part_drafted key kind) (map group_of sections) ≡ map (part_of key kind) sections
section-drafted key kind [] = refl
section-drafted key kind (s ∷ sections) =
    ap (λ (p : Component). p ∷ map (part_drafted key kind) (map group_of sections))
    (part-same s.0.body (map (fresh key kind s.0.body) (sig_bodies s.1)) (sigs_in key kind s.0.body s.1)
    (sigs-completed key kind s.0.body s.1))
    ∙ ap (λ (ps : List Component). part_of key kind s ∷ ps) (section-drafted key kind sections)

pub parts-completed : (key : List ℕ) (type kind : ℕ) (sections : List Section)
    → map (part_drafted key kind) (groups_of type sections) ≡ parts_of key type kind sections
parts-completed key type kind sections =
    let these = filter (λ (s : Section). s.0.kind == type) sections in
    map-united group_cmp unite_group part_cmp unite_part (part_drafted key kind) (λ x y. refl) (join-drafted key kind)
    [] (map group_of these)
    ∙ ap (unite_parts []) (section-drafted key kind these)

abbrev cert-with : List ℕ → List Signature → List Component → List Component → List Component → Certificate
cert-with key direct user_ids attributes subkeys =
    record { key = key; direct = direct; user_ids = user_ids; attributes = attributes; subkeys = subkeys }

cert-same : (key : List ℕ) (a b : List Signature) (u v w x y z : List Component) → a ≡ b → u ≡ v → w ≡ x → y ≡ z
    → cert-with key a u w y ≡ cert-with key b v x z
cert-same key a b u v w x y z e f g h = λ i. cert-with key (e i) (f i) (g i) (h i)

-- what the packets after a key draft, with the key, is the certificate
pub completed-is : (key : List ℕ) (packets : List Spelled)
    → completed key (sketched packets) ≡ certificate_with key (cut_at begins_component packets)
completed-is key packets =
    let cut = cut_at begins_component packets in
    cert-same key (map (fresh key on_key []) (sig_bodies cut.0)) (sigs_in key on_key [] cut.0)
    (map (part_drafted key on_user_id) (groups_of 13 cut.1)) (parts_of key 13 on_user_id cut.1)
    (map (part_drafted key on_attribute) (groups_of 17 cut.1)) (parts_of key 17 on_attribute cut.1)
    (map (part_drafted key on_subkey) (groups_of 14 cut.1)) (parts_of key 14 on_subkey cut.1)
    (sigs-completed key on_key [] cut.0) (parts-completed key 13 on_user_id cut.1)
    (parts-completed key 17 on_attribute cut.1) (parts-completed key 14 on_subkey cut.1)

-- ---- short bodies stay short

module _ {A : Type 0} (R : A → A → Ordering) (join : A → A → A) (P : A → Type 0)
    (joins : (x y : A) → P x → P y → P (join x y)) where
  all-placed : (o : Ordering) (x y : A) (ys rest : List A) → P x → P y → AllByRecursion P ys → AllByRecursion P rest
      → AllByRecursion P (placed o join x y ys rest)
  all-placed Less x y ys rest p q a b = (p, (q, a))
  all-placed Equal x y ys rest p q a b = (joins y x q p, a)
  all-placed Greater x y ys rest p q a b = (q, b)

  pub all-put : (x : A) (ys : List A) → P x → AllByRecursion P ys → AllByRecursion P (put R join x ys)
  all-put x [] p a = (p, tt)
  all-put x (y ∷ ys) p a = all-placed (R x y) x y ys (put R join x ys) p a.0 a.1 (all-put x ys p a.1)

  pub all-united : (xs ys : List A) → AllByRecursion P xs → AllByRecursion P ys → AllByRecursion P (united R join xs ys)
  all-united xs [] a b = a
  all-united xs (y ∷ ys) a b = all-put y (united R join xs ys) b.0 (all-united xs ys a b.1)

short-body : (body : List ℕ) (bodies : List (List ℕ)) → IsShort body → AllByRecursion IsShort bodies
    → AllByRecursion IsShort (put body_cmp first_stays body bodies)
short-body = all-put body_cmp first_stays IsShort (λ x y p q. p)

short-join : (x y : Group) → IsShortGroup x → IsShortGroup y → IsShortGroup (unite_group x y)
short-join x y p q = (p.0, all-united body_cmp first_stays IsShort (λ x y p q. p) x.1 y.1 p.1 q.1)

short-groups : (here : Bool) (g : Group) (gs : List Group) → IsShortGroup g → AllByRecursion IsShortGroup gs
    → AllByRecursion IsShortGroup (groups_with here g gs)
short-groups true g gs p a = all-put group_cmp unite_group IsShortGroup short-join g gs p a
short-groups false g gs p a = a

short-component : (type : ℕ) (body : List ℕ) (s : Sketch) → IsShort body → IsShortSketch s
    → IsShortSketch (with_component type body s)
short-component type body s p a = record {
  sigs = tt;
  user_ids = short-groups (type == 13) (body, s.sigs) s.user_ids (p, a.sigs) a.user_ids;
  attributes = short-groups (type == 17) (body, s.sigs) s.attributes (p, a.sigs) a.attributes;
  subkeys = short-groups (type == 14) (body, s.sigs) s.subkeys (p, a.sigs) a.subkeys;
}

short-signature : (body : List ℕ) (s : Sketch) → IsShort body → IsShortSketch s → IsShortSketch (with_signature body s)
short-signature body s p a =
    record {
      sigs = short-body body s.sigs p a.sigs;
      user_ids = a.user_ids;
      attributes = a.attributes;
      subkeys = a.subkeys;
    }

short-packet : (begins signs : Bool) (p : Spelled) (s : Sketch) → IsShort p.body → IsShortSketch s
    → IsShortSketch (cond begins (with_component p.kind p.body s) (cond signs (with_signature p.body s) s))
short-packet true signs p s h a = short-component p.kind p.body s h a
short-packet false true p s h a = short-signature p.body s h a
short-packet false false p s h a = a

pub sketched-short : (packets : List Spelled) → AreShort packets → IsShortSketch (sketched packets)
sketched-short [] h = record { sigs = tt; user_ids = tt; attributes = tt; subkeys = tt }
sketched-short (p ∷ packets) h =
    subst (λ (s : Sketch). IsShortSketch s) (sym (sketched-more p packets))
    (short-packet (begins_component p.kind) (is_signature p.kind) p (sketched packets) h.0 (sketched-short packets h.1))

-- ---- the signatures on each component rise

rise-groups : (sections : List Section) → SigsRise (map group_of sections)
rise-groups [] = tt
rise-groups (s ∷ sections) = (
  united_rises body_cmp first_stays nat_list_cmp_total (λ x y e z. refl) []
      (map (λ (p : Spelled). p.body) (filter (λ (p : Spelled). is_signature p.kind) s.1)) tt,
  rise-groups sections,
)

pub groups-rise : (type : ℕ) (sections : List Section) → SigsRise (groups_of type sections)
groups-rise type sections =
    all-united group_cmp unite_group (λ (g : Group). IsRising body_cmp g.1)
    (λ x y p q. united_rises body_cmp first_stays nat_list_cmp_total (λ x y e z. refl) x.1 y.1 p)
    [] (map group_of (filter (λ (s : Section). s.0.kind == type) sections)) tt
    (rise-groups (filter (λ (s : Section). s.0.kind == type) sections))

-- ---- a whole certificate

sigs-at : (key : List ℕ) (kind : ℕ) (component : List ℕ) (bodies : List (List ℕ)) → AllByRecursion IsShort bodies
    → AllByRecursion (IsSigAt key kind component) (map (fresh key kind component) bodies)
sigs-at key kind component [] h = tt
sigs-at key kind component (b ∷ bodies) h = ((h.0, refl), sigs-at key kind component bodies h.1)

pub sigs-rise : (key : List ℕ) (kind : ℕ) (component : List ℕ) (bodies : List (List ℕ)) → IsRising body_cmp bodies
    → IsRising sig_cmp (map (fresh key kind component) bodies)
sigs-rise key kind component bodies h =
    rises-map body_cmp first_stays sig_cmp kept (fresh key kind component) (λ x y. refl) (λ x y e. refl) bodies h

sigs-whole : (key : List ℕ) (kind : ℕ) (component : List ℕ) (bodies : List (List ℕ)) → AllByRecursion IsShort bodies
    → IsRising body_cmp bodies → AreSigsAt key kind component (map (fresh key kind component) bodies)
sigs-whole key kind component bodies short rise =
    (sigs-rise key kind component bodies rise, sigs-at key kind component bodies short)

parts-at : (key : List ℕ) (kind : ℕ) (groups : List Group) → AllByRecursion IsShortGroup groups → SigsRise groups
    → AllByRecursion (IsPartOf key kind) (map (part_drafted key kind) groups)
parts-at key kind [] h r = tt
parts-at key kind (g ∷ groups) h r = ((h.0.0, sigs-whole key kind g.0 g.1 h.0.1 r.0), parts-at key kind groups h.1 r.1)

parts-whole : (key : List ℕ) (kind : ℕ) (groups : List Group) → AllByRecursion IsShortGroup groups → SigsRise groups
    → IsRising group_cmp groups → ArePartsOf key kind (map (part_drafted key kind) groups)
parts-whole key kind groups short sigs rise = (
  rises-map group_cmp unite_group part_cmp unite_part (part_drafted key kind) (λ x y. refl) (join-drafted key kind)
      groups rise,
  parts-at key kind groups short sigs,
)

pub sketched-whole : (packets : List Spelled) → AreShort packets → IsWholeSketch (sketched packets)
sketched-whole packets h =
    let cut = cut_at begins_component packets in
    record {
      order = sketched-rises packets;
      short = sketched-short packets h;
      user_ids = groups-rise 13 cut.1;
      attributes = groups-rise 17 cut.1;
      subkeys = groups-rise 14 cut.1;
    }

pub completed-whole : (key : List ℕ) (s : Sketch) → is_readable key ≡ true → IsWholeSketch s
    → IsCertificate (completed key s)
completed-whole key s readable w = record {
  readable = readable;
  direct = sigs-whole key on_key [] s.sigs w.short.sigs w.order.sigs;
  user_ids = parts-whole key on_user_id s.user_ids w.short.user_ids w.user_ids w.order.user_ids;
  attributes = parts-whole key on_attribute s.attributes w.short.attributes w.attributes w.order.attributes;
  subkeys = parts-whole key on_subkey s.subkeys w.short.subkeys w.subkeys w.order.subkeys;
}

-- ---- a certificate that was made

chosen : {A : Type 0} (b : Bool) (x y : A) → Some y ≡ cond b (Some x) None → (b ≡ true) × (y ≡ x)
chosen true x y e = (refl, cc)
chosen false x y e = absurd cc

-- what is known of its fields, before they are put together
pub record IsMade (key : Key) (fpr : Fpr) (body : List ℕ) (s : Sketch) (octets : List ℕ) (direct : List Signature)
    (user_ids attributes subkeys : List Component) : Type 0 where
  pub key_is : Some key ≡ key_of body
  pub fpr_is : Some fpr ≡ fingerprint_of body
  pub sketch_is : IsWholeSketch s
  pub octets_are : octets ≡ body
  pub direct_are : direct ≡ map (fresh body on_key []) s.sigs
  pub user_ids_are : user_ids ≡ map (part_drafted body on_user_id) s.user_ids
  pub attributes_are : attributes ≡ map (part_drafted body on_attribute) s.attributes
  pub subkeys_are : subkeys ≡ map (part_drafted body on_subkey) s.subkeys

pub made-readable : (key : Key) (body : List ℕ) → Some key ≡ key_of body → is_readable body ≡ true
made-readable key body e =
    (chosen (is_readable body)
    (record { version = version_in body; created = created_in body; algorithm = slice_index body 5 }) key e).0

made-is : (body : List ℕ) (s : Sketch) (octets : List ℕ) (direct : List Signature)
    (user_ids attributes subkeys : List Component)
    → octets ≡ body → direct ≡ map (fresh body on_key []) s.sigs
    → user_ids ≡ map (part_drafted body on_user_id) s.user_ids
    → attributes ≡ map (part_drafted body on_attribute) s.attributes
    → subkeys ≡ map (part_drafted body on_subkey) s.subkeys
    → cert-with octets direct user_ids attributes subkeys ≡ completed body s
made-is body s octets direct user_ids attributes subkeys e f g h k = λ i. cert-with (e i) (f i) (g i) (h i) (k i)

pub made-equal : (key : Key) (fpr : Fpr) (body : List ℕ) (s : Sketch) (octets : List ℕ) (direct : List Signature)
    (user_ids attributes subkeys : List Component)
    → IsMade key fpr body s octets direct user_ids attributes subkeys
    → cert-with octets direct user_ids attributes subkeys ≡ completed body s
made-equal key fpr body s octets direct user_ids attributes subkeys m =
    made-is body s octets direct user_ids attributes subkeys m.octets_are m.direct_are m.user_ids_are m.attributes_are
    m.subkeys_are

pub made-whole : (key : Key) (fpr : Fpr) (body : List ℕ) (s : Sketch) (octets : List ℕ) (direct : List Signature)
    (user_ids attributes subkeys : List Component)
    → IsMade key fpr body s octets direct user_ids attributes subkeys
    → (Some key ≡ key_of octets) × (fpr ≡ fpr_of octets)
    × IsCertificate (cert-with octets direct user_ids attributes subkeys)
made-whole key fpr body s octets direct user_ids attributes subkeys m = (
  m.key_is ∙ ap key_of (sym m.octets_are),
  (chosen (is_readable body) (fpr_of body) fpr m.fpr_is).1 ∙ ap fpr_of (sym m.octets_are),
  subst (λ (c : Certificate). IsCertificate c)
      (sym (made-equal key fpr body s octets direct user_ids attributes subkeys m))
      (completed-whole body s (made-readable key body m.key_is) m.sketch_is),
)
