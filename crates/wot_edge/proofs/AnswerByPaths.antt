-- An answer, path by path.
use Rattle.std.proofs.Common.{◌≡◌, ◌⊎◌, inl, inr, ℕ, zero, suc, ◌+◌, ◌<◌, ◌≤◌, ◌-◌, List, [], ◌∷◌, ◌++◌, Option, Some}
use Rattle.std.proofs.Common.{None, refl, sym, ap, subst, ◌∙◌, arith, append_assoc}
use Rattle.std.proofs.lemmas.List.{append-nil}
use Rattle.std.proofs.lemmas.List.Sums.{sum_by-cons}
use Rattle.wot_edge.specs.declared.path.Path.{Path}
use Rattle.wot_edge.specs.declared.path.Step.{Step}
use Rattle.wot_edge.specs.Record.{IsRecord}
use Rattle.wot_edge.specs.Path.{Question, use_of, start, path_amount, IsNextPath, IsSpent}
use Rattle.wot_edge.specs.Answer.{EachNext, amount_of, but_last, IsAnswer}
use Rattle.wot_edge.proofs.Layers.{next_of, total}
use Rattle.wot_edge.proofs.Exists.{AreNextOrSpent, next_of_is, root_le}
use Rattle.wot_edge.proofs.One.{next_path_one}

-- Next paths after earlier ones, until the wanted amount is reached or no path is left.
abbrev pub CompletesAnswer : Question → ℕ → List Path → List Path → Type 0
CompletesAnswer q wanted earlier [] = (wanted ≡ 0) ⊎ IsSpent q (use_of earlier)
CompletesAnswer q wanted earlier (path ∷ paths) =
    (0 < wanted) × IsNextPath q (use_of earlier) path × CompletesAnswer q (wanted - path.amount) (earlier ++ path ∷ []) paths

amount-cons : (path : Path) (paths : List Path) → amount_of (path ∷ paths) ≡ path.amount + amount_of paths
amount-cons path paths = sum_by-cons (λ p. p.amount) path paths

-- ---- an answer is one, path by path

module _ (q : Question) where
  taken : (wanted : ℕ) (earlier paths : List Path) → EachNext q earlier paths → amount_of (but_last paths) < wanted
      → (wanted ≤ amount_of paths) ⊎ IsSpent q (use_of (earlier ++ paths)) → CompletesAnswer q wanted earlier paths
  taken wanted earlier [] n short (inl le) = inl (omega (arith, le))
  taken wanted earlier [] n short (inr s) =
      inr (subst (λ (ps : List Path). IsSpent q (use_of ps)) (append-nil earlier) s)
  taken wanted earlier (path ∷ []) n short (inl le) =
      let e = amount-cons path [] in
      (short, n.0, inl (omega (arith, le, e)))
  taken wanted earlier (path ∷ []) n short (inr s) = (short, n.0, inr s)
  taken wanted earlier (path ∷ next ∷ paths) n short ends =
      let e = amount-cons path (but_last (next ∷ paths)) in
      let short' : amount_of (but_last (next ∷ paths)) < wanted - path.amount = omega (arith, short, e) in (
        omega (arith, short),
        n.0,
        taken (wanted - path.amount) (earlier ++ path ∷ []) (next ∷ paths) n.1 short' (by ends),
      )
    where
      by : (wanted ≤ amount_of (path ∷ next ∷ paths)) ⊎ IsSpent q (use_of (earlier ++ path ∷ next ∷ paths))
          → (wanted - path.amount ≤ amount_of (next ∷ paths))
          ⊎ IsSpent q (use_of ((earlier ++ path ∷ []) ++ next ∷ paths))
      by (inl le) = inl (let e = amount-cons path (next ∷ paths) in omega (arith, le, e))
      by (inr s) = inr
          (subst (λ (ps : List Path). IsSpent q (use_of ps)) (sym (append_assoc earlier (path ∷ []) (next ∷ paths))) s)

  pub answer_taken : (wanted : ℕ) (paths : List Path) → IsAnswer q wanted paths → CompletesAnswer q wanted [] paths
  answer_taken wanted paths a = taken wanted [] paths a.each a.short a.ends

  pub taken_each : (wanted : ℕ) (earlier paths : List Path) → CompletesAnswer q wanted earlier paths → EachNext q earlier paths
  taken_each wanted earlier [] a = tt
  taken_each wanted earlier (path ∷ paths) a = (a.1, taken_each (wanted - path.amount) (earlier ++ path ∷ []) paths a.2)

  taken_short : (wanted : ℕ) (earlier paths : List Path) → 0 < wanted → CompletesAnswer q wanted earlier paths
      → amount_of (but_last paths) < wanted
  taken_short wanted earlier [] pos a = pos
  taken_short wanted earlier (path ∷ []) pos a = pos
  taken_short wanted earlier (path ∷ next ∷ paths) pos a =
      let e = amount-cons path (but_last (next ∷ paths)) in
      let more = taken_short (wanted - path.amount) (earlier ++ path ∷ []) (next ∷ paths) a.2.0 a.2 in
      omega (arith, e, more)

  taken_ends : (wanted : ℕ) (earlier paths : List Path) → CompletesAnswer q wanted earlier paths
      → (wanted ≤ amount_of paths) ⊎ IsSpent q (use_of (earlier ++ paths))
  taken_ends wanted earlier [] (inl e) = inl (omega (arith, e))
  taken_ends wanted earlier [] (inr s) =
      inr (subst (λ (ps : List Path). IsSpent q (use_of ps)) (sym (append-nil earlier)) s)
  taken_ends wanted earlier (path ∷ paths) a = by (taken_ends (wanted - path.amount) (earlier ++ path ∷ []) paths a.2)
    where
      by : (wanted - path.amount ≤ amount_of paths) ⊎ IsSpent q (use_of ((earlier ++ path ∷ []) ++ paths))
          → (wanted ≤ amount_of (path ∷ paths)) ⊎ IsSpent q (use_of (earlier ++ path ∷ paths))
      by (inl le) = inl (let e = amount-cons path paths in omega (arith, le, e))
      by (inr s) = inr (subst (λ (ps : List Path). IsSpent q (use_of ps)) (append_assoc earlier (path ∷ []) paths) s)

  pub taken_answer : (wanted : ℕ) (paths : List Path) → 0 < wanted → CompletesAnswer q wanted [] paths → IsAnswer q wanted paths
  taken_answer wanted paths pos a = record {
    each = taken_each wanted [] paths a;
    short = taken_short wanted [] paths pos a;
    ends = taken_ends wanted [] paths a;
  }

-- ---- there is one answer

taken_one : (q : Question) → IsRecord q.network → (wanted : ℕ) (earlier a b : List Path) → CompletesAnswer q wanted earlier a
    → CompletesAnswer q wanted earlier b → a ≡ b
taken_one q r wanted earlier [] [] m n = refl
taken_one q r wanted earlier [] (y ∷ b) (inl e) n = absurd (omega (arith, e, n.0))
taken_one q r wanted earlier [] (y ∷ b) (inr s) n = absurd (s y.steps n.1.steps.0)
taken_one q r wanted earlier (x ∷ a) [] m (inl e) = absurd (omega (arith, e, m.0))
taken_one q r wanted earlier (x ∷ a) [] m (inr s) = absurd (s x.steps m.1.steps.0)
taken_one q r wanted earlier (x ∷ a) (y ∷ b) m n =
    let first : x ≡ y = next_path_one q (use_of earlier) r x y m.1 n.1 in
    let n' : CompletesAnswer q (wanted - x.amount) (earlier ++ x ∷ []) b =
    subst (λ (z : Path). CompletesAnswer q (wanted - z.amount) (earlier ++ z ∷ []) b) (sym first) n.2 in
    ap (λ (z : Path). z ∷ a) first
    ∙ ap (λ (z : List Path). y ∷ z) (taken_one q r (wanted - x.amount) (earlier ++ x ∷ []) a b m.2 n')

pub answer_one : (q : Question) → IsRecord q.network → (wanted : ℕ) (a b : List Path) → IsAnswer q wanted a
    → IsAnswer q wanted b → a ≡ b
answer_one q r wanted a b m n = taken_one q r wanted [] a b (answer_taken q wanted a m) (answer_taken q wanted b n)

-- ---- there is an answer

taken_exists : (q : Question) (most wanted : ℕ) (earlier : List Path) → wanted ≤ most
    → (paths : List Path) × CompletesAnswer q wanted earlier paths
taken_exists q zero wanted earlier le = ([], inl (omega arith))
taken_exists q (suc n) zero earlier le = ([], inl refl)
taken_exists q (suc n) (suc w) earlier le =
    by (λ path m. taken_exists q n (suc w - path.amount) (earlier ++ path ∷ []) m)
    (next_of (total q.roots) q (use_of earlier)) (next_of_is q (use_of earlier) (total q.roots) (root_le q.roots))
  where
    by : ((path : Path) → suc w - path.amount ≤ n
        → (paths : List Path) × CompletesAnswer q (suc w - path.amount) (earlier ++ path ∷ []) paths) → (o : Option (List Step))
        → AreNextOrSpent q (use_of earlier) o → (paths : List Path) × CompletesAnswer q (suc w) earlier paths
    by ih None s = ([], inr s)
    by ih (Some steps) s =
        let path : Path =
        record { amount = path_amount q (use_of earlier) steps; root = start q.target steps; steps = steps } in
        let pos = s.0.1 in
        let more = ih path (omega (arith, pos, le)) in
        (path ∷ more.0, (omega arith, record { steps = s; root = refl; amount = refl }, more.1))

pub answer_exists : (q : Question) (wanted : ℕ) → 1 ≤ wanted → (paths : List Path) × IsAnswer q wanted paths
answer_exists q wanted pos =
    let a = taken_exists q wanted wanted [] (omega arith) in (a.0, taken_answer q wanted a.0 (omega (arith, pos)) a.1)

-- ---- the amount is 0 if and only if there is no valid path of positive amount at all

pub zero_spent : (q : Question) (wanted : ℕ) (paths : List Path) → 1 ≤ wanted → IsAnswer q wanted paths
    → amount_of paths ≡ 0 → IsSpent q (use_of [])
zero_spent q wanted [] pos a z = elim a.ends [ inl le ↦ absurd (omega (arith, le, pos)) | inr s ↦ s ]
zero_spent q wanted (path ∷ paths) pos a z =
    let e = amount-cons path paths in
    let n = a.each.0 in
    let p : 0 < path_amount q (use_of []) path.steps = n.steps.0.1 in
    absurd (omega (arith, e, z, n.amount, p))

pub spent_zero : (q : Question) (wanted : ℕ) (paths : List Path) → IsAnswer q wanted paths → IsSpent q (use_of [])
    → amount_of paths ≡ 0
spent_zero q wanted [] a s = refl
spent_zero q wanted (path ∷ paths) a s = absurd (s path.steps a.each.0.steps.0)
