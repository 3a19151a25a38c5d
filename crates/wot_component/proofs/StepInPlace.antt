-- One step of a loop that changes a list in place, next to another list of which a part is left.
use Rattle.std.proofs.Common.{◌≡◌, ℕ, ◌+◌, ◌<◌, List, [], ◌∷◌, ◌++◌, take, drop, get_or, set, length, sym, ap, ◌∙◌}
use Rattle.std.proofs.Common.{add-one, append_assoc, arith}
use Rattle.std.proofs.Math.Seq.{drop-cons}
use Rattle.std.proofs.lemmas.List.{take_more_set, drop-set-lt}

drop_at : {A : Type 0} (xs : List A) (i : ℕ) (y : A) → i < length xs → y ≡ get_or xs i y
    → drop i xs ≡ y ∷ drop (i + 1) xs
drop_at xs i y h e = drop-cons xs i y h ∙ (λ j. sym e j ∷ drop (sym (add-one i) j) xs)

one_more : (i : ℕ) → i < i + 1
one_more i = omega arith

pub step_list : {A B : Type 0} (f : List A → B → List A) (xs : List A) (i : ℕ) (y v : A) (old new : B) (whole : List A)
    → i < length xs → y ≡ get_or xs i y → take i xs ++ f (drop i xs) old ≡ whole
    → ((rest : List A) → f (y ∷ rest) old ≡ v ∷ f rest new)
    → take (i + 1) (set xs i v) ++ f (drop (i + 1) (set xs i v)) new ≡ whole
step_list f xs i y v old new whole h is e s =
    ap (λ t. t ++ f (drop (i + 1) (set xs i v)) new) (take_more_set xs i v h)
    ∙ ap (λ t. (take i xs ++ v ∷ []) ++ f t new) (drop-set-lt (i + 1) xs i v (one_more i))
    ∙ append_assoc (take i xs) (v ∷ []) (f (drop (i + 1) xs) new)
    ∙ ap (λ t. take i xs ++ t) (sym (s (drop (i + 1) xs)))
    ∙ ap (λ t. take i xs ++ f t old) (sym (drop_at xs i y h is))
    ∙ e

added : (k j n a b : ℕ) → k + a ≡ n → a ≡ j + b → (k + j) + b ≡ n
added k j n a b h e = omega arith

pub step_count : {A B : Type 0} (f : List A → B → ℕ) (xs : List A) (i : ℕ) (y v : A) (old new : B) (n k j : ℕ)
    → i < length xs → y ≡ get_or xs i y → k + f (drop i xs) old ≡ n
    → ((rest : List A) → f (y ∷ rest) old ≡ j + f rest new)
    → (k + j) + f (drop (i + 1) (set xs i v)) new ≡ n
step_count f xs i y v old new n k j h is e s =
    ap (λ t. (k + j) + f t new) (drop-set-lt (i + 1) xs i v (one_more i))
    ∙ added k j n _ _ e (ap (λ t. f t old) (drop_at xs i y h is) ∙ s (drop (i + 1) xs))
