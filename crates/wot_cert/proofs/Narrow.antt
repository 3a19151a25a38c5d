-- Moments one after another.
use Rattle.std.proofs.Common.{◌≡◌, ℕ, ◌+◌, ◌≤◌, ◌<◌, ◌^◌, Bool, true, false, cond, List, [], ◌∷◌, ◌++◌, length, take}
use Rattle.std.proofs.Common.{get_or, refl, sym, ap, ◌∙◌, arith, max, min, append_assoc}
use Rattle.std.specs.Prelude.{nat_le, nat_lt, filter}
use Rattle.std.specs.List.{flat_map}
use Rattle.std.proofs.lemmas.List.{take_more, append-nil}
use Rattle.std.proofs.lemmas.Bool.Decides.{nat_tests}
use Rattle.wot_cert.specs.declared.spans.Bounds.{Bounds}
use Rattle.wot_component.specs.Certificate.{Signature, Component, Certificate}
use Rattle.wot_cert.specs.Span.{most, least, begin_of, sig_moments, moments_of, created_of}
use Rattle.wot_cert.specs.Narrowed.{Narrowed}

passed : (t m : ℕ) → nat_lt t m ≡ true → t < m
passed t m h = grind (arith, nat_tests)

filter-append : {A : Type 0} (p : A → Bool) (xs ys : List A) → filter p (xs ++ ys) ≡ filter p xs ++ filter p ys
filter-append p [] ys = refl
filter-append p (x ∷ xs) ys =
    elim (p x) as
    (λ b. cond b (x ∷ filter p (xs ++ ys)) (filter p (xs ++ ys)) ≡ cond b (x ∷ filter p xs) (filter p xs) ++ filter p
    ys) [ true ↦ ap (λ zs. x ∷ zs) (filter-append p xs ys) | false ↦ filter-append p xs ys ]

most-append : (xs ys : List ℕ) → most (xs ++ ys) ≡ max (most xs) (most ys)
most-append [] ys = omega arith
most-append (x ∷ xs) ys = omega (arith, most-append xs ys)

least-min : (x top : ℕ) (ys : List ℕ) → least (min x top) ys ≡ min x (least top ys)
least-min x top [] = refl
least-min x top (y ∷ ys) = omega (arith, least-min x top ys)

least-append : (top : ℕ) (xs ys : List ℕ) → least top (xs ++ ys) ≡ least (least top xs) ys
least-append top [] ys = refl
least-append top (x ∷ xs) ys = ap (min x) (least-append top xs ys) ∙ sym (least-min x (least top xs) ys)

begin-append : (xs ys : List ℕ) (t : ℕ) → begin_of (xs ++ ys) t ≡ max (begin_of xs t) (begin_of ys t)
begin-append xs ys t = ap most (filter-append (λ m. nat_le m t) xs ys) ∙ most-append _ _

until-append : (top : ℕ) (xs ys : List ℕ) (t : ℕ)
    → least top (filter (λ m. nat_lt t m) (xs ++ ys)) ≡ least (least top (filter (λ m. nat_lt t m) xs))
    (filter (λ m. nat_lt t m) ys)
until-append top xs ys t = ap (least top) (filter-append (λ m. nat_lt t m) xs ys) ∙ least-append top _ _

-- Some moments, and then others.
pub narrowed-append : (a b c : Bounds) (xs ys : List ℕ) (t : ℕ) → Narrowed a b xs t → Narrowed b c ys t
    → Narrowed a c (xs ++ ys) t
narrowed-append a b c xs ys t h k =
    let f = begin-append xs ys t in
    record {
      from = omega (arith, h.from, k.from, f);
      until = k.until ∙ ap (λ n. least n (filter (λ m. nat_lt t m) ys)) h.until ∙ sym (until-append a.until xs ys t);
    }

flat_map-append : {A B : Type 0} (f : A → List B) (xs ys : List A)
    → flat_map f (xs ++ ys) ≡ flat_map f xs ++ flat_map f ys
flat_map-append f [] ys = refl
flat_map-append f (x ∷ xs) ys =
    ap (λ zs. f x ++ zs) (flat_map-append f xs ys) ∙ sym (append_assoc (f x) (flat_map f xs) (flat_map f ys))

-- one element more
pub flat_map-more : {A B : Type 0} (f : A → List B) (xs : List A) (i : ℕ) (d : A) → i < length xs
    → flat_map f (take (i + 1) xs) ≡ flat_map f (take i xs) ++ f (get_or xs i d)
flat_map-more f xs i d h =
    ap (flat_map f) (take_more xs i d h) ∙ flat_map-append f (take i xs) (get_or xs i d ∷ [])
    ∙ ap (λ zs. flat_map f (take i xs) ++ zs) (append-nil (f (get_or xs i d)))

parts-append : (k : ℕ) (ps qs : List Component)
    → flat_map (sig_moments k) (flat_map (λ p. p.sigs) (ps ++ qs)) ≡ flat_map (sig_moments k)
    (flat_map (λ p. p.sigs) ps) ++ flat_map (sig_moments k) (flat_map (λ p. p.sigs) qs)
parts-append k ps qs =
    ap (flat_map (sig_moments k)) (flat_map-append (λ p. p.sigs) ps qs)
    ∙ flat_map-append (sig_moments k) (flat_map (λ p. p.sigs) ps) (flat_map (λ p. p.sigs) qs)

-- one part more
pub parts-more : (k : ℕ) (ps : List Component) (i : ℕ) (d : Component) → i < length ps
    → flat_map (sig_moments k) (flat_map (λ p. p.sigs) (take (i + 1) ps)) ≡ flat_map (sig_moments k)
    (flat_map (λ p. p.sigs) (take i ps)) ++ flat_map (sig_moments k) (get_or ps i d).sigs
parts-more k ps i d h =
    ap (flat_map (sig_moments k)) (flat_map-more (λ p. p.sigs) ps i d h)
    ∙ flat_map-append (sig_moments k) (flat_map (λ p. p.sigs) (take i ps)) (get_or ps i d).sigs

-- Bounds that started wide, and are narrowed by all moments.
pub record Whole (c : Certificate) (t : ℕ) (b : Bounds) : Type 0 where
  pub from : b.from ≡ begin_of (moments_of c) t
  pub until : b.until ≡ least (2 ^ 32) (filter (λ m. nat_lt t m) (moments_of c))

pub whole : (c : Certificate) (t k : ℕ) (ds : List Signature) (us as' ks : List Component) (z a b d e f : Bounds)
    → k ≡ created_of c → ds ≡ c.direct → us ≡ c.user_ids → as' ≡ c.attributes → ks ≡ c.subkeys
    → z.from ≡ 0 → z.until ≡ 2 ^ 32
    → Narrowed z a (k ∷ []) t → Narrowed a b (flat_map (sig_moments k) ds) t
    → Narrowed b d (flat_map (sig_moments k) (flat_map (λ p. p.sigs) us)) t
    → Narrowed d e (flat_map (sig_moments k) (flat_map (λ p. p.sigs) as')) t
    → Narrowed e f (flat_map (sig_moments k) (flat_map (λ p. p.sigs) ks)) t
    → Whole c t f
whole c t k ds us as' ks z a b d e f ek ed eu ea es zf zu ha hb hd he hf =
    let g = flat_map (sig_moments k) in
    let sigs = flat_map {X = Component} (λ p. p.sigs) in
    let two = narrowed-append b d e (g (sigs us)) (g (sigs as')) t hd he in
    let three = narrowed-append b e f (g (sigs us) ++ g (sigs as')) (g (sigs ks)) t two hf in
    let ps : (g (sigs us) ++ g (sigs as')) ++ g (sigs ks) ≡ g (sigs ((us ++ as') ++ ks)) =
    sym (parts-append k (us ++ as') ks ∙ ap (λ xs. xs ++ g (sigs ks)) (parts-append k us as')) in
    let three' : Narrowed b f (g (sigs ((us ++ as') ++ ks))) t = rw ps at three in
    let four = narrowed-append a b f (g ds) (g (sigs ((us ++ as') ++ ks))) t hb three' in
    let all : g ds ++ g (sigs ((us ++ as') ++ ks)) ≡ g (ds ++ sigs ((us ++ as') ++ ks)) =
    sym (flat_map-append (sig_moments k) ds (sigs ((us ++ as') ++ ks))) in
    let five : Narrowed z f (k ∷ g (ds ++ sigs ((us ++ as') ++ ks))) t =
    narrowed-append z a f (k ∷ []) (g (ds ++ sigs ((us ++ as') ++ ks))) t ha (rw all at four) in
    let six : Narrowed z f (moments_of c) t = rw (ek, ed, eu, ea, es) at five in
    record {
      from = omega (arith, six.from);
      until = six.until ∙ ap (λ n. least n (filter (λ m. nat_lt t m) (moments_of c))) zu;
    }

above : (t top : ℕ) (ms : List ℕ) → t < top → t < least top (filter (λ m. nat_lt t m) ms)
above t top [] h = h
above t top (m ∷ ms) h =
    elim (nat_lt t m) as
    (λ b. nat_lt t m ≡ b → t < least top (cond b (m ∷ filter (λ m. nat_lt t m) ms) (filter (λ m. nat_lt t m) ms)))
    [ true ↦ λ e. (let l : t < m = passed t m e in omega (arith, above t top ms h)) | false ↦ λ _. above t top ms h ]
    refl

at_most : (top : ℕ) (ms : List ℕ) → least top ms ≤ top
at_most top [] = omega arith
at_most top (m ∷ ms) = omega (arith, at_most top ms)

pub whole_ends : (c : Certificate) (t : ℕ) (b : Bounds) → t < 2 ^ 32 → Whole c t b → (1 ≤ b.until) × (b.until ≤ 2 ^ 32)
whole_ends c t b h w = (
  omega (arith, above t (2 ^ 32) (moments_of c) h, w.until),
  omega (arith, at_most (2 ^ 32) (filter (λ m. nat_lt t m) (moments_of c)), w.until),
)
