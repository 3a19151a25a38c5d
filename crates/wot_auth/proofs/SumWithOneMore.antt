-- The sum of an answer of which all paths but the last are known, and of the last one the amount.
use Rattle.std.proofs.Common.{◌≡◌, ◌⊎◌, inl, inr, ℕ, ◌+◌, ◌<◌, ◌≤◌, List, [], ◌∷◌, ◌++◌, refl, sym, ap, subst, ◌∙◌}
use Rattle.std.proofs.Common.{arith, append_assoc}
use Rattle.std.proofs.lemmas.List.{append-nil}
use Rattle.std.proofs.lemmas.List.Sums.{sum_by-cons}
use Rattle.wot_edge.specs.declared.path.Path.{Path}
use Rattle.wot_edge.specs.Path.{Question, Use, use_of, IsNextPath, IsSpent}
use Rattle.wot_edge.specs.Answer.{EachNext, amount_of, but_last, IsAnswer}
use Rattle.wot_edge.specs.Sums.{Sums, use_in}
use Rattle.wot_search.specs.Below.{IsNextAmount, IsNextBelow}
use Rattle.wot_search.specs.declared.below.Next.{Next}
use Rattle.wot_search.specs.declared.below.Next.TheVariants.{Path as IsPath}
use Rattle.wot_auth.specs.Sum.{IsSumOf}
use Rattle.wot_auth.proofs.OnePathMore.{amount_more}

amount_cons : (path : Path) (paths : List Path) → amount_of (path ∷ paths) ≡ path.amount + amount_of paths
amount_cons path paths = sum_by-cons (λ p. p.amount) path paths

amount_append : (xs ys : List Path) → amount_of (xs ++ ys) ≡ amount_of xs + amount_of ys
amount_append [] ys = let e : amount_of [] ≡ 0 = refl in omega (arith, e)
amount_append (x ∷ xs) ys =
    let a = amount_cons x (xs ++ ys) in let b = amount_cons x xs in let ih = amount_append xs ys in
    omega (arith, a, b, ih)

-- what comes before the last has the amounts of the first ones
long_but_last : (ps : List Path) (m n : Path) (rest : List Path)
    → amount_of ps + m.amount ≤ amount_of (but_last (ps ++ m ∷ n ∷ rest))
long_but_last [] m n rest = let a = amount_cons m (but_last (n ∷ rest)) in omega (arith, a)
long_but_last (p ∷ []) m n rest =
    let a = amount_cons p (but_last (m ∷ n ∷ rest)) in
    let b = amount_cons p [] in
    let c = amount_cons m (but_last (n ∷ rest)) in
    omega (arith, a, b, c)
long_but_last (p ∷ x ∷ ps) m n rest =
    let a = amount_cons p (but_last (x ∷ ps ++ m ∷ n ∷ rest)) in
    let b = amount_cons p (x ∷ ps) in
    let ih = long_but_last (x ∷ ps) m n rest in
    omega (arith, a, b, ih)

module _ (q : Question) (one : (used : Use) (a b : Path) → IsNextPath q used a → IsNextPath q used b → a ≡ b)
    (wanted : ℕ) where
  abbrev Ends : List Path → Type 0
  Ends paths = (wanted ≤ amount_of paths) ⊎ IsSpent q (use_of paths)

  -- An answer begins with all next paths whose sum is short of what is wanted.
  begins : (earlier ps qs : List Path) → EachNext q earlier ps → EachNext q earlier qs
      → amount_of (earlier ++ ps) < wanted → Ends (earlier ++ qs)
      → (more : List Path) × (qs ≡ ps ++ more) × EachNext q (earlier ++ ps) more
  begins earlier [] qs e f lt ends =
      (qs, refl, subst (λ (xs : List Path). EachNext q xs qs) (sym (append-nil earlier)) f)
  begins earlier (p ∷ ps) [] e f lt ends = absurd (elim (subst Ends (append-nil earlier) ends) [
    | inl le ↦ let a = amount_append earlier (p ∷ ps) in omega (arith, a, le, lt)
    | inr spent ↦ spent p.steps e.0.steps.0
  ])
  begins earlier (p ∷ ps) (r ∷ qs) e f lt ends =
      let same = one (use_of earlier) p r e.0 f.0 in
      let f' = subst (λ (x : Path). EachNext q (earlier ++ x ∷ []) qs) (sym same) f.1 in
      let lt' = subst (λ (xs : List Path). amount_of xs < wanted) (sym (append_assoc earlier (p ∷ []) ps)) lt in
      let ends' = subst Ends (sym (append_assoc earlier (p ∷ []) qs))
      (subst (λ (x : Path). Ends (earlier ++ x ∷ qs)) (sym same) ends) in
      let ih = begins (earlier ++ p ∷ []) ps qs e.1 f' lt' ends' in (
        ih.0,
        ap (λ (xs : List Path). r ∷ xs) ih.1 ∙ ap (λ (x : Path). x ∷ ps ++ ih.0) (sym same),
        subst (λ (xs : List Path). EachNext q xs ih.0) (append_assoc earlier (p ∷ []) ps) ih.2,
      )

  -- If the next path's amount is enough, it is the last one.
  pub enough_sum : (ps : List Path) (sum amount : ℕ) → EachNext q [] ps → sum ≡ amount_of ps → sum < wanted
      → IsNextAmount q (use_of ps) amount → wanted ≤ sum + amount
      → (paths : List Path) → IsAnswer q wanted paths → sum + amount ≡ amount_of paths
  enough_sum ps sum amount each e lt next le paths answer =
      let b = begins [] ps paths each answer.each (omega (arith, e, lt)) answer.ends in
      by b.0 b.1 b.2
    where
      by : (more : List Path) → paths ≡ ps ++ more → EachNext q ps more → sum + amount ≡ amount_of paths
      by [] same f = absurd (elim (subst Ends (same ∙ append-nil ps) answer.ends) [
        | inl full ↦ omega (arith, full, e, lt)
        | inr spent ↦ next.left spent
      ])
      by (m ∷ []) same f =
          let a = next.amount m f.0 in
          let b = amount_more ps m in
          let c = ap amount_of same in
          omega (arith, a, b, c, e)
      by (m ∷ n ∷ rest) same f =
          let a = next.amount m f.0 in
          let b = long_but_last ps m n rest in
          let c = subst (λ (xs : List Path). amount_of (but_last xs) < wanted) same answer.short in
          absurd (omega (arith, a, b, c, e, le))

pub next_here : (q : Question) (sums : Sums) (paths : List Path) (enough : ℕ) (next : Next) (path : Path)
    → use_in sums ≡ use_of paths → IsNextBelow q (use_in sums) enough next → next ≡ IsPath path
    → IsNextPath q (use_of paths) path
next_here q sums paths enough next path e n f =
    subst (λ (u : Use). IsNextPath q u path) e (subst (IsNextBelow q (use_in sums) enough) f n)

-- the paths are the answer
pub sum_of : (q : Question) (wanted : ℕ) → ((a b : List Path) → IsAnswer q wanted a → IsAnswer q wanted b → a ≡ b)
    → (paths : List Path) (sum : ℕ) → IsAnswer q wanted paths → sum ≡ amount_of paths → IsSumOf q wanted sum
sum_of q wanted one paths sum answer e =
    record { paths = paths; answer = answer; one = λ others a. one others paths a answer; sum = e }
