-- The keys that the loop has made so far.
use Rattle.std.proofs.Common.{◌≡◌, ◌⊎◌, ℕ, zero, suc, ◌+◌, ◌*◌, List, [], ◌∷◌, ◌++◌, length, Some, inl, inr, refl, sym}
use Rattle.std.proofs.Common.{ap, subst, ◌∙◌}
use Rattle.std.specs.List.{slice_get}
use Rattle.std.proofs.lemmas.List.{length_push}
use Rattle.std.proofs.lemmas.Option.{none-some, same_Some}
use Rattle.wot_random.specs.Identities.{AreIdentities, IsIdentity}
use Rattle.wot_random.specs.declared.identity.Identity.{Identity}
use Rattle.wot_random.specs.declared.words.Words.{Words}

-- the keys below an index, each of four words
pub record MadeSoFar (start index : ℕ) (words : Words) (made : List Identity) : Type 0 where
  pub start_kept : words.start ≡ start
  pub drawn : words.drawn ≡ 4 * index
  pub made_all : AreIdentities start index made

-- what is in a list with one more
last_or_before : {X : Type 0} (xs : List X) (x y : X) (i : ℕ) → slice_get (xs ++ x ∷ []) i ≡ Some y
    → (slice_get xs i ≡ Some y) ⊎ ((i ≡ length xs) × (x ≡ y))
last_or_before [] x y zero e = inr (refl, same_Some x y e)
last_or_before [] x y (suc i) e = absurd (none-some y e)
last_or_before (z ∷ xs) x y zero e = inl e
last_or_before (z ∷ xs) x y (suc i) e =
    elim (last_or_before xs x y i e) [
      | inl before ↦ inl before
      | inr last ↦ inr (ap suc last.0, last.1)
    ]

-- one more key
pub more_identities : (start index : ℕ) (made : List Identity) (one : Identity)
    → AreIdentities start index made → IsIdentity start index one → AreIdentities start (index + 1) (made ++ one ∷ [])
more_identities start index made one all is = record {
  many = length_push made one ∙ ap (λ n. n + 1) all.many;
  each = λ at identity found.
      elim (last_or_before made one identity at found) [
        | inl before ↦ all.each at identity before
        | inr last ↦ subst (λ n. IsIdentity start n identity) (sym (last.0 ∙ all.many))
            (subst (IsIdentity start index) last.1 is)
      ];
}
