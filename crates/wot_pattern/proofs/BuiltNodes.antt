-- The builder's nodes against the state of the parser.
use Rattle.std.specs.Prelude.{◌≡◌, ℕ, zero, suc, ◌+◌, ◌<◌, Bool, List, [], ◌∷◌, ◌++◌, length, Option, is_some}
use Rattle.std.proofs.Common.{refl, sym, ap, ◌∙◌, arith, append_assoc, length-append}
use Rattle.std.proofs.lemmas.List.{append-nil}
use Rattle.wot_pattern.specs.Reading.{Reading}
use Rattle.wot_pattern.specs.Tokens as t
use Rattle.wot_pattern.specs.Tokens.{Token, tokens, tree, tree-tokens}
use Rattle.wot_pattern.specs.Steps.{Level, level_tokens, outer_tokens, outer_flags}

pub tree_is : (ts : List Token) (r : Reading) → ts ≡ tokens r → tree ts ≡ r
tree_is ts r e = ap tree e ∙ tree-tokens r

pub one_tree : (ts : List Token) (r : Reading) → ts ≡ tokens r → ts ≡ tokens (tree ts)
one_tree ts r e = e ∙ ap tokens (sym (tree_is ts r e))

pub length-outer_flags : (fs : List Level) → length (outer_flags fs) ≡ length fs
length-outer_flags [] = refl
length-outer_flags (f ∷ fs) =
    let h = length-outer_flags fs in
    let k : length (outer_flags fs ++ is_some f.earlier ∷ []) ≡ length (outer_flags fs) + 1 =
    length-append (outer_flags fs) (is_some f.earlier ∷ []) in omega arith

pub outer_no_length : (fs : List Level) → length (outer_flags fs) ≡ 0 → fs ≡ []
outer_no_length [] e = refl
outer_no_length (f ∷ fs) e = let h : length (f ∷ fs) ≡ 0 = sym (length-outer_flags (f ∷ fs)) ∙ e in absurd (omega arith)

push_same : (xs ys : List Bool) (a b : Bool) → xs ++ a ∷ [] ≡ ys ++ b ∷ [] → (xs ≡ ys) × (a ≡ b)
push_same [] [] a b e = (refl, cc)
push_same [] (y ∷ ys) a b e =
    let h : 1 ≡ length (y ∷ (ys ++ b ∷ [])) = ap length e in
    let k : length (ys ++ b ∷ []) ≡ length ys + 1 = length-append ys (b ∷ []) in absurd (omega arith)
push_same (x ∷ xs) [] a b e =
    let h : length (x ∷ (xs ++ a ∷ [])) ≡ 1 = ap length e in
    let k : length (xs ++ a ∷ []) ≡ length xs + 1 = length-append xs (a ∷ []) in absurd (omega arith)
push_same (x ∷ xs) (y ∷ ys) a b e =
    let h : x ≡ y = cc in let k : xs ++ a ∷ [] ≡ ys ++ b ∷ [] = cc in
    let (p, q) = push_same xs ys a b k in (ap (λ z. z ∷ xs) h ∙ ap (λ z. y ∷ z) p, q)

pub outer_some :
    (fs : List Level) (bs : List Bool) (b : Bool) → outer_flags fs ≡ bs ++ b ∷ []
    → (f : Level) × (gs : List Level) × (fs ≡ f ∷ gs) × (bs ≡ outer_flags gs) × (b ≡ is_some f.earlier)
outer_some [] bs b e =
    let h : 0 ≡ length (bs ++ b ∷ []) = ap length e in
    let k : length (bs ++ b ∷ []) ≡ length bs + 1 = length-append bs (b ∷ []) in absurd (omega arith)
outer_some (f ∷ fs) bs b e =
    let (p, q) = push_same (outer_flags fs) bs (is_some f.earlier) b e in (f, fs, refl, sym p, sym q)

pub left_nodes :
    (ts : List Token) (outer : List Level) (f : Level) (fs : List Level) (w : Reading)
    → ts ≡ outer_tokens outer ++ tokens w → outer ≡ f ∷ fs
    → ts ≡ outer_tokens fs ++ (level_tokens f.earlier f.branch ++ tokens w)
left_nodes ts outer f fs w e q =
    e ∙ ap (λ x. outer_tokens x ++ tokens w) q
    ∙ append_assoc (outer_tokens fs) (level_tokens f.earlier f.branch) (tokens w)

pub entered_nodes :
    (ts us : List Token) (outer : List Level) (e : Option Reading) (b : Reading)
    → ts ≡ outer_tokens outer ++ (level_tokens e b ++ []) → us ≡ ts ++ t.nothing ∷ []
    → us ≡ (outer_tokens outer ++ level_tokens e b) ++ t.nothing ∷ []
entered_nodes ts us outer e b h k =
    k ∙ ap (λ x. x ++ t.nothing ∷ []) (h ∙ ap (λ x. outer_tokens outer ++ x) (append-nil (level_tokens e b)))

pub positive : (k : ℕ) → 0 < k → (n : ℕ) × (k ≡ suc n)
positive zero h = absurd (omega arith)
positive (suc n) h = (n, refl)

pub outer_empty : (ts : List Token) (outer : List Level) (w : Reading) → ts ≡ outer_tokens outer ++ tokens w
    → outer ≡ [] → ts ≡ tokens w
outer_empty ts outer w e q = e ∙ ap (λ x. outer_tokens x ++ tokens w) q
