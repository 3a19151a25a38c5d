-- Laws of orders and plain lists that proofs of several crates cite.
use Rattle.std.specs.Prelude.{◌≡◌, Bool, List, [], ◌∷◌, ◌++◌, map, filter}
use Rattle.std.specs.List.{AllByRecursion, flat_map}
use Rattle.std.specs.declared.cmp.Ordering.{Ordering}
use Rattle.std.specs.declared.cmp.Ordering.TheVariants.{Less, Equal, Greater}
use Rattle.std.specs.Ordering.{is_lt, is_gt, ordering_then}
use Rattle.std.proofs.Common.{cond, refl, ap, ◌∙◌, append_assoc}
use Rattle.std.proofs.lemmas.Bool.{true≢false}

-- ---- orders

pub then-Equal : (o p : Ordering) → ordering_then o p ≡ Equal → (o ≡ Equal) × (p ≡ Equal)
then-Equal Less p e = absurd (true≢false (ap is_lt e))
then-Equal Equal p e = (refl, e)
then-Equal Greater p e = absurd (true≢false (ap is_gt e))

-- ---- lists

-- one element moves from a list's back before what was seen behind it
pub seam : {A : Type 0} (whole rest prefix seen : List A) (x : A) → whole ≡ rest ++ seen → rest ≡ prefix ++ x ∷ []
    → whole ≡ prefix ++ x ∷ seen
seam whole rest prefix seen x e f = e ∙ ap (λ r. r ++ seen) f ∙ append_assoc prefix (x ∷ []) seen

-- ---- all of a list

pub all_prefix : {A : Type 0} (P : A → Type 0) (xs ys : List A) → AllByRecursion P (xs ++ ys) → AllByRecursion P xs
all_prefix P [] ys h = tt
all_prefix P (x ∷ xs) ys h = (h.0, all_prefix P xs ys h.1)

pub all_back : {A : Type 0} (P : A → Type 0) (xs ys : List A) → AllByRecursion P (xs ++ ys) → AllByRecursion P ys
all_back P [] ys h = h
all_back P (x ∷ xs) ys h = all_back P xs ys h.1

pub all_each : {A B : Type 0} (P : B → Type 0) (f : A → List B) (xs : List A)
    → AllByRecursion P (flat_map f xs) → AllByRecursion (λ x. AllByRecursion P (f x)) xs
all_each P f [] h = tt
all_each P f (x ∷ xs) h = (all_prefix P (f x) (flat_map f xs) h, all_each P f xs (all_back P (f x) (flat_map f xs) h))

pub all_then : {A : Type 0} (P Q : A → Type 0) → ((x : A) → P x → Q x) → (xs : List A)
    → AllByRecursion P xs → AllByRecursion Q xs
all_then P Q f [] h = tt
all_then P Q f (x ∷ xs) h = (f x h.0, all_then P Q f xs h.1)

-- ---- functions that agree on a list

pub filter_same : {A : Type 0} (p q : A → Bool) (xs : List A)
    → AllByRecursion (λ x. p x ≡ q x) xs → filter p xs ≡ filter q xs
filter_same p q [] h = refl
filter_same p q (x ∷ xs) h =
    ap (λ b. cond b (x ∷ filter p xs) (filter p xs)) h.0
    ∙ ap (λ ys. cond (q x) (x ∷ ys) ys) (filter_same p q xs h.1)

pub map_same : {A B : Type 0} (f g : A → B) (xs : List A) → AllByRecursion (λ x. f x ≡ g x) xs → map f xs ≡ map g xs
map_same f g [] h = refl
map_same f g (x ∷ xs) h = ap (λ y. y ∷ map f xs) h.0 ∙ ap (λ ys. g x ∷ ys) (map_same f g xs h.1)
