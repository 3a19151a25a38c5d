-- One more subpacket at the end.
use Rattle.std.proofs.Common.{◌≡◌, ℕ, Bool, true, false, cond, ◌||◌, List, [], ◌∷◌, ◌++◌, map, Option, Some, None, refl}
use Rattle.std.proofs.Common.{ap, ◌∙◌}
use Rattle.std.specs.Prelude.{filter, slice_index, is_some}
use Rattle.std.specs.List.{list_any}
use Rattle.std.specs.Option.{option_map_or, option_or}
use Rattle.std.proofs.lemmas.List.{append-nil}
use Rattle.wot_subpacket.specs.Subpacket.{Subpacket}
use Rattle.wot_signature.specs.Known.{is_known_of, bodies_of, last_of, last_body_of}
use Rattle.wot_signature.specs.Facts.{says, is_refused, number_in, is_set, issuer_in}
use Rattle.wot_signature.specs.Notes.{notes_in, note_more}

last_of-cons : {A : Type 0} (x : A) (xs : List A) (y : A) → last_of (x ∷ (xs ++ y ∷ [])) ≡ Some y
last_of-cons x [] y = refl
last_of-cons x (z ∷ xs) y = last_of-cons z xs y

last_of-push : {A : Type 0} (xs : List A) (y : A) → last_of (xs ++ y ∷ []) ≡ Some y
last_of-push [] y = refl
last_of-push (x ∷ xs) y = last_of-cons x xs y

bodies_of-push : (k : ℕ) (ss : List Subpacket) (s : Subpacket)
    → bodies_of k (ss ++ s ∷ []) ≡ bodies_of k ss ++ cond (is_known_of k s) (s.body ∷ []) []
bodies_of-push k [] s =
    elim (is_known_of k s) as (λ b. map (λ (t : Subpacket). t.body) (cond b (s ∷ []) []) ≡ cond b (s.body ∷ []) [])
    [ true ↦ refl | false ↦ refl ]
bodies_of-push k (t ∷ ss) s =
    elim (is_known_of k t) as
    (λ b.
    map (λ (u : Subpacket). u.body)
    (cond b (t ∷ filter (is_known_of k) (ss ++ s ∷ [])) (filter (is_known_of k) (ss ++ s ∷ [])))
    ≡ map (λ (u : Subpacket). u.body) (cond b (t ∷ filter (is_known_of k) ss) (filter (is_known_of k) ss)) ++ cond
    (is_known_of k s) (s.body ∷ []) [])
    [ true ↦ ap (λ zs. t.body ∷ zs) (bodies_of-push k ss s) | false ↦ bodies_of-push k ss s ]

last_of-more : {A : Type 0} (b : Bool) (xs : List A) (y : A)
    → last_of (xs ++ cond b (y ∷ []) []) ≡ cond b (Some y) (last_of xs)
last_of-more true xs y = last_of-push xs y
last_of-more false xs y = ap last_of (append-nil xs)

-- the last body of a type, with one more subpacket
pub last_body_of-push : (k : ℕ) (ss : List Subpacket) (s : Subpacket)
    → last_body_of k (ss ++ s ∷ []) ≡ cond (is_known_of k s) (Some s.body) (last_body_of k ss)
last_body_of-push k ss s = ap last_of (bodies_of-push k ss s) ∙ last_of-more (is_known_of k s) (bodies_of k ss) s.body

said : {A B : Type 0} (b : Bool) (f : A → B) (y : A) (o : Option A) (d : B)
    → option_map_or f (cond b (Some y) o) d ≡ cond b (f y) (option_map_or f o d)
said true f y o d = refl
said false f y o d = refl

is_said : {A : Type 0} (b : Bool) (y : A) (o : Option A) → is_some (cond b (Some y) o) ≡ cond b true (is_some o)
is_said true y o = refl
is_said false y o = refl

-- what a type says, with one more subpacket
says-push :
    {A : Type 0} (k : ℕ) (meaning : List ℕ → A) (otherwise : A) (ss : List Subpacket) (s : Subpacket) →
    says k meaning otherwise (ss ++ s ∷ []) ≡ cond (is_known_of k s) (meaning s.body) (says k meaning otherwise ss)
says-push k meaning otherwise ss s =
    ap (λ o. option_map_or meaning o otherwise) (last_body_of-push k ss s)
    ∙ said (is_known_of k s) meaning s.body (last_body_of k ss) otherwise

-- whether there is one of a type, with one more subpacket
has-push : (k : ℕ) (ss : List Subpacket) (s : Subpacket)
    → is_some (last_body_of k (ss ++ s ∷ [])) ≡ cond (is_known_of k s) true (is_some (last_body_of k ss))
has-push k ss s = ap is_some (last_body_of-push k ss s) ∙ is_said (is_known_of k s) s.body (last_body_of k ss)

or_to_prefix : (a b c : Bool) → (a || (b || c)) ≡ (b || (a || c))
or_to_prefix true true c = refl
or_to_prefix true false c = refl
or_to_prefix false b c = refl

-- one more at the end, asked first
any-push : {A : Type 0} (p : A → Bool) (xs : List A) (y : A) → list_any p (xs ++ y ∷ []) ≡ (p y || list_any p xs)
any-push p [] y = refl
any-push p (x ∷ xs) y = ap (λ b. p x || b) (any-push p xs y) ∙ or_to_prefix (p x) (p y) (list_any p xs)

-- the notes of one more subpacket
pub notes_in-push : (kind hash : ℕ) (ss : List Subpacket) (s : Subpacket)
    → notes_in kind hash (ss ++ s ∷ []) ≡ note_more (notes_in kind hash ss) s
notes_in-push kind hash ss s =
    λ i. record {
      facts = record {
        kind = kind;
        hash = hash;
        made = says-push 2 number_in 0 ss s i;
        lasts = says-push 3 number_in 0 ss s i;
        key_lasts = says-push 9 number_in 0 ss s i;
        depth = says-push 5 (λ body. slice_index body 0) 0 ss s i;
        amount = says-push 5 (λ body. slice_index body 1) 120 ss s i;
        scoped = has-push 6 ss s i;
        revocable = says-push 7 (λ body. is_set (slice_index body 0)) true ss s i;
        primary = says-push 25 (λ body. is_set (slice_index body 0)) false ss s i;
        reason = says-push 29 (λ body. Some (slice_index body 0)) None ss s i;
        issuer = says-push 33 (λ body. Some (issuer_in body)) None ss s i;
        sound = false;
      };
      dated = has-push 2 ss s i;
      refused = any-push is_refused ss s i;
    }

one_or : {A : Type 0} (b : Bool) (x : A) (o : Option A) → cond b (Some x) o ≡ option_or (cond b (Some x) None) o
one_or true x o = refl
one_or false x o = refl

-- the last body of a type: that of the further subpacket, or else the one before
pub last_body_of-or :
    (k : ℕ) (ss : List Subpacket) (s : Subpacket) →
    last_body_of k (ss ++ s ∷ []) ≡ option_or (cond (is_known_of k s) (Some s.body) None) (last_body_of k ss)
last_body_of-or k ss s = last_body_of-push k ss s ∙ one_or (is_known_of k s) s.body (last_body_of k ss)
