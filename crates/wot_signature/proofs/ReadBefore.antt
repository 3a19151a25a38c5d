-- A body of version 4 is read as it was before version 6.
use Rattle.std.proofs.Common.{◌≡◌, ℕ, Bool, true, false, cond, not, ◌&&◌, ◌||◌, List, [], ◌∷◌, map, Option, Some, None}
use Rattle.std.proofs.Common.{refl, sym, ap, ◌∙◌, subst}
use Rattle.std.specs.Prelude.{◌==◌, drop, filter, if◌then◌else◌, is_some, length, nat_le, slice_index}
use Rattle.std.specs.List.{AllByRecursion, list_any}
use Rattle.std.specs.Option.{option_and_then, option_map, option_map_or, option_or}
use Rattle.std.proofs.lemmas.Bool.{eqb-true}
use Rattle.wot_types.specs.declared.fpr.Fpr.TheVariants.{V4, V6}
use Rattle.wot_subpacket.specs.Subpacket.{Subpacket}
use Rattle.wot_subpacket.specs.Area.{list_of}
use Rattle.wot_signature.specs.Facts.{facts_in, is_refused, is_set, issuer_in, number_in}
use Rattle.wot_signature.specs.Known.{bodies_of, effectless, fits, is_issuer, is_known, is_known_of, last_of}
use Rattle.wot_signature.specs.Signature.{ReadBody, hint_in, texts_in, trimmed}
use Rattle.wot_signature.specs.VersionFour.{bodies_v4, facts_said, fitted, names_v6, was_known}

-- ---- which subpackets are known

abbrev KnownBut : Bool → ℕ → List ℕ → Bool
KnownBut issuer kind body =
    if (kind == 2 || kind == 3) || kind == 9 then length body == 4
    else if kind == 5 then length body == 2
    else if kind == 7 || kind == 25 then length body == 1
    else if kind == 16 then length body == 8
    else if kind == 29 then nat_le 1 (length body)
    else if kind == 33 then issuer
    else kind == 6 || list_any (λ other. kind == other) effectless

or_false : (a b : Bool) → b ≡ false → a || b ≡ a
or_false true b e = refl
or_false false b e = e

-- all types but the issuer fingerprint, if that is one of version 6
known_but : (kind : ℕ) (body : List ℕ)
    → (kind == 33) && ((length body == 33) && (slice_index body 0 == 6)) ≡ false → fits kind body ≡ fitted kind body
known_but kind body free = by (kind == 33) refl free
  where
    by : (b : Bool) → (kind == 33) ≡ b → b && ((length body == 33) && (slice_index body 0 == 6)) ≡ false
        → fits kind body ≡ fitted kind body
    by true e none = ap (λ issuer. KnownBut issuer kind body)
        (or_false ((length body == 21) && (slice_index body 0 == 4)) ((length body == 33) && (slice_index body 0 == 6))
        none)
    by false e none = ap (λ (b : Bool).
        if (kind == 2 || kind == 3) || kind == 9 then length body == 4
        else if kind == 5 then length body == 2
        else if kind == 7 || kind == 25 then length body == 1
        else if kind == 16 then length body == 8
        else if kind == 29 then nat_le 1 (length body)
        else if b then is_issuer body
        else kind == 6 || list_any (λ other. kind == other) effectless) e
        ∙ ap (λ (b : Bool).
        if (kind == 2 || kind == 3) || kind == 9 then length body == 4
        else if kind == 5 then length body == 2
        else if kind == 7 || kind == 25 then length body == 1
        else if kind == 16 then length body == 8
        else if kind == 29 then nat_le 1 (length body)
        else if b then (length body == 21) && (slice_index body 0 == 4)
        else kind == 6 || list_any (λ other. kind == other) effectless) (sym e)

known_same : (s : Subpacket) → names_v6 s ≡ false → is_known s ≡ was_known s
known_same s free = known_but s.kind s.body free

bodies_same : (kind : ℕ) (ss : List Subpacket) → AllByRecursion (λ (s : Subpacket). names_v6 s ≡ false) ss
    → bodies_of kind ss ≡ bodies_v4 kind ss
bodies_same kind [] free = refl
bodies_same kind (s ∷ ss) free =
    let rest = bodies_same kind ss free.1 in
    let same : is_known_of kind s ≡ (was_known s && (s.kind == kind)) =
    ap (λ (b : Bool). b && (s.kind == kind)) (known_same s free.0) in
    step (is_known_of kind s) (was_known s && (s.kind == kind)) same rest
  where
    step : (b c : Bool) → b ≡ c → bodies_of kind ss ≡ bodies_v4 kind ss
        → map (λ (t : Subpacket). t.body) (cond b (s ∷ filter (is_known_of kind) ss) (filter (is_known_of kind) ss))
        ≡ map (λ (t : Subpacket). t.body) (cond c (s ∷ filter (λ (t : Subpacket). was_known t && (t.kind == kind)) ss)
        (filter (λ (t : Subpacket). was_known t && (t.kind == kind)) ss))
    step true true e rest = ap (λ (xs : List (List ℕ)). s.body ∷ xs) rest
    step true false e rest = absurd cc
    step false true e rest = absurd cc
    step false false e rest = rest

refused_same : (ss : List Subpacket) → AllByRecursion (λ (s : Subpacket). names_v6 s ≡ false) ss
    → list_any is_refused ss ≡ list_any (λ (s : Subpacket). not (was_known s) && s.critical) ss
refused_same [] free = refl
refused_same (s ∷ ss) free =
    let here : is_refused s ≡ (not (was_known s) && s.critical) =
    ap (λ (b : Bool). not b && s.critical) (known_same s free.0) in
    ap (λ (b : Bool). b || list_any is_refused ss) here
    ∙ ap (λ (b : Bool). (not (was_known s) && s.critical) || b) (refused_same ss free.1)

-- ---- the issuer

and_left : (a b : Bool) → a && b ≡ true → a ≡ true
and_left true b e = refl
and_left false b e = absurd cc

and_right : (a b : Bool) → a && b ≡ true → b ≡ true
and_right true b e = e
and_right false b e = absurd cc

abbrev Named : List ℕ → Type 0
Named body = Some (issuer_in body) ≡ Some (V4 (drop 1 body))

of_four : (body : List ℕ) (n : ℕ) → slice_index body 0 ≡ n → n ≡ 4 → Named body
of_four body n is e =
    ap (λ (m : ℕ). Some (if m == 6 then V6 (drop 1 body) else V4 (drop 1 body))) (is ∙ e)

last_same : {A B : Type 0} (f g : A → B) (xs : List A) → AllByRecursion (λ (x : A). f x ≡ g x) xs → (d : B)
    → option_map_or f (last_of xs) d ≡ option_map_or g (last_of xs) d
last_same f g [] all d = refl
last_same f g (x ∷ []) all d = all.0
last_same f g (x ∷ y ∷ xs) all d = last_same f g (y ∷ xs) all.1 d

each_named : (ss : List Subpacket) → AllByRecursion Named (bodies_v4 33 ss)
each_named [] = tt
each_named (s ∷ ss) = by (was_known s && (s.kind == 33)) refl (each_named ss)
  where
    named : (was_known s && (s.kind == 33)) ≡ true → Named s.body
    named e =
        let at : (s.kind == 33) ≡ true = and_right (was_known s) (s.kind == 33) e in
        let kind : s.kind ≡ 33 = eqb-true s.kind 33 at in
        let known : fitted 33 s.body ≡ true =
        subst (λ (k : ℕ). fitted k s.body ≡ true) kind (and_left (was_known s) (s.kind == 33) e) in
        of_four s.body (slice_index s.body 0) refl
        (eqb-true (slice_index s.body 0) 4 (and_right (length s.body == 21) (slice_index s.body 0 == 4) known))

    by : (b : Bool) → (was_known s && (s.kind == 33)) ≡ b → AllByRecursion Named (bodies_v4 33 ss)
        → AllByRecursion Named (map (λ (t : Subpacket). t.body)
        (cond b (s ∷ filter (λ (t : Subpacket). was_known t && (t.kind == 33)) ss)
        (filter (λ (t : Subpacket). was_known t && (t.kind == 33)) ss)))
    by true e rest = (named e, rest)
    by false e rest = rest

-- ---- bodies

module _ (r : ReadBody) (free : AllByRecursion (λ (s : Subpacket). names_v6 s ≡ false) r.hashed) where
  last_as : {A : Type 0} (kind : ℕ) (meaning : List ℕ → A) (d : A)
      → option_map_or meaning (last_of (bodies_of kind r.hashed)) d
      ≡ option_map_or meaning (last_of (bodies_v4 kind r.hashed)) d
  last_as kind meaning d =
      ap (λ (xs : List (List ℕ)). option_map_or meaning (last_of xs) d) (bodies_same kind r.hashed free)

  some_as : (kind : ℕ) → is_some (last_of (bodies_of kind r.hashed)) ≡ is_some (last_of (bodies_v4 kind r.hashed))
  some_as kind = ap (λ (xs : List (List ℕ)). is_some (last_of xs)) (bodies_same kind r.hashed free)

  pub facts_as : facts_in r.kind r.hash r.hashed ≡ facts_said r
  facts_as = λ i. record {
    kind = r.kind;
    hash = r.hash;
    made = last_as 2 number_in 0 i;
    lasts = last_as 3 number_in 0 i;
    key_lasts = last_as 9 number_in 0 i;
    depth = last_as 5 (λ body. slice_index body 0) 0 i;
    amount = last_as 5 (λ body. slice_index body 1) 120 i;
    scoped = some_as 6 i;
    revocable = last_as 7 (λ body. is_set (slice_index body 0)) true i;
    primary = last_as 25 (λ body. is_set (slice_index body 0)) false i;
    reason = last_as 29 (λ body. Some (slice_index body 0)) None i;
    issuer = (last_as 33 (λ body. Some (issuer_in body)) None ∙ last_same (λ body. Some (issuer_in body))
        (λ body. Some (V4 (drop 1 body))) (bodies_v4 33 r.hashed) (each_named r.hashed) None) i;
    sound = (ap (λ (b : Bool). b && not (list_any is_refused r.hashed)) (some_as 2)
        ∙ ap (λ (b : Bool). is_some (last_of (bodies_v4 2 r.hashed)) && not b) (refused_same r.hashed free)) i;
  }

pub facts_before : (o : Option ReadBody)
    → ((r : ReadBody) → o ≡ Some r → AllByRecursion (λ (s : Subpacket). names_v6 s ≡ false) r.hashed)
    → option_map (λ (r : ReadBody). facts_in r.kind r.hash r.hashed) o ≡ option_map facts_said o
facts_before None free = refl
facts_before (Some r) free = ap Some (facts_as r (free r refl))

-- ---- types other than the issuer fingerprint, whatever issuers are named

known_of : (kind : ℕ) → (kind == 33) ≡ false → (s : Subpacket)
    → is_known_of kind s ≡ (was_known s && (s.kind == kind))
known_of kind apart s = by (s.kind == kind) refl
  where
    by : (b : Bool) → (s.kind == kind) ≡ b → (is_known s && b) ≡ (was_known s && b)
    by true e =
        let same : s.kind ≡ kind = eqb-true s.kind kind e in
        let free : (s.kind == 33) ≡ false = ap (λ (k : ℕ). k == 33) same ∙ apart in
        ap (λ (b : Bool). b && true) (known_but s.kind s.body
        (ap (λ (b : Bool). b && ((length s.body == 33) && (slice_index s.body 0 == 6))) free))
    by false e = none (is_known s) (was_known s)
      where
        none : (a b : Bool) → (a && false) ≡ (b && false)
        none true true = refl
        none true false = refl
        none false true = refl
        none false false = refl

filtered : {A : Type 0} (f g : A → Bool) → ((x : A) → f x ≡ g x) → (xs : List A) → filter f xs ≡ filter g xs
filtered f g same [] = refl
filtered f g same (x ∷ xs) =
    ap (λ (b : Bool). cond b (x ∷ filter f xs) (filter f xs)) (same x)
    ∙ ap (λ (ys : List _). cond (g x) (x ∷ ys) ys) (filtered f g same xs)

bodies_apart : (kind : ℕ) → (kind == 33) ≡ false → (ss : List Subpacket) → bodies_of kind ss ≡ bodies_v4 kind ss
bodies_apart kind apart ss =
    ap (map (λ (s : Subpacket). s.body))
    (filtered (is_known_of kind) (λ (s : Subpacket). was_known s && (s.kind == kind)) (known_of kind apart) ss)

pub scopes_before : (o : Option ReadBody) → option_map_or (λ (r : ReadBody). texts_in r.hashed) o []
    ≡ option_map_or (λ (r : ReadBody). map trimmed (bodies_v4 6 r.hashed)) o []
scopes_before None = refl
scopes_before (Some r) = ap (map trimmed) (bodies_apart 6 refl r.hashed)

pub hint_before : (o : Option ReadBody) → option_and_then hint_in o
    ≡ option_and_then (λ (r : ReadBody). option_or (last_of (bodies_v4 16 r.hashed))
    (last_of (bodies_v4 16 (list_of r.unhashed)))) o
hint_before None = refl
hint_before (Some r) =
    ap (λ (xs : List (List ℕ)). option_or (last_of xs) (last_of (bodies_of 16 (list_of r.unhashed))))
    (bodies_apart 16 refl r.hashed)
    ∙ ap (λ (xs : List (List ℕ)). option_or (last_of (bodies_v4 16 r.hashed)) (last_of xs))
    (bodies_apart 16 refl (list_of r.unhashed))
