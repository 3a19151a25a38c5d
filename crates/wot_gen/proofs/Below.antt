-- What a step returns for 0, for 1, and so on.
use Rattle.std.proofs.Common.{◌≡◌, ℕ, ◌+◌, List, [], ◌∷◌, ◌++◌, sym, ap, ◌∙◌, arith}
use Rattle.std.specs.List.{flat_map, range_with_len}
use Rattle.std.proofs.lemmas.List.{append-nil, map-id}
use Rattle.std.proofs.lemmas.List.Concat.{flat_map-append}
use Rattle.std.proofs.lemmas.List.FromFn.{map-range_with_len_more}

range_more : (a n b : ℕ) → a + n ≡ b → range_with_len a (n + 1) ≡ range_with_len a n ++ b ∷ []
range_more a n b e =
    sym (map-id (range_with_len a (n + 1)))
    ∙ map-range_with_len_more (λ (x : ℕ). x) a n b e
    ∙ ap (λ xs. xs ++ b ∷ []) (map-id (range_with_len a n))

-- one more
pub below_more : {A : Type 0} (f : ℕ → List A) (n : ℕ)
    → flat_map f (range_with_len 0 (n + 1)) ≡ flat_map f (range_with_len 0 n) ++ f n
below_more f n =
    ap (flat_map f) (range_more 0 n n (omega arith))
    ∙ flat_map-append f (range_with_len 0 n) (n ∷ [])
    ∙ ap (λ xs. flat_map f (range_with_len 0 n) ++ xs) (append-nil (f n))
