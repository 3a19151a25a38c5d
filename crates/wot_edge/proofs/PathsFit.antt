-- Paths use no more than there is.
use Rattle.std.proofs.Common.{◌≡◌, inl, inr, ℕ, ◌+◌, ◌*◌, ◌<◌, ◌≤◌, Bool, true, false, cond, List, [], ◌∷◌, ◌++◌}
use Rattle.std.proofs.Common.{length, Some, refl, sym, ap, subst, ◌∙◌, arith, append_assoc}
use Rattle.std.proofs.lemmas.List.Sums.{sum_by-cons, sum_by-append, sum_by_push}
use Rattle.std.specs.Option.{unwrap_or}
use Rattle.std.specs.Map.{lookup}
use Rattle.std.specs.BTreeMap.{is_at}
use Rattle.wot_types.specs.declared.fpr.Fpr.{Fpr}
use Rattle.wot_types.specs.Fpr.{fpr_cmp, same_fpr}
use Rattle.wot_types.specs.FprLaws.{same_fpr-true, same_fpr-sym}
use Rattle.wot_edge.specs.declared.path.Path.{Path}
use Rattle.wot_edge.specs.declared.path.Step.{Step}
use Rattle.wot_edge.specs.Record.{Has}
use Rattle.wot_edge.specs.Roots.{root_amount}
use Rattle.wot_edge.specs.Path.{Question, Use, use_of, start, path_root, root_left, step_left, least_left, IsNextPath}
use Rattle.wot_edge.specs.Answer.{EachNext, amount_of}
use Rattle.wot_edge.specs.Capacity.{Fits, AllFit}

-- ---- by pair

least_step : (used : Use) (most amount : ℕ) (steps : List Step) → amount ≤ least_left used most steps → (step : Step)
    → Has steps step → amount ≤ step_left used step
least_step used most amount [] le step h = absurd h
least_step used most amount (x ∷ steps) le step (inl e) =
    subst (λ (s : Step). amount ≤ step_left used s) (sym e) (omega (arith, le))
least_step used most amount (x ∷ steps) le step (inr h) = least_step used most amount steps (omega (arith, le)) step h

least_most : (used : Use) (most amount : ℕ) (steps : List Step) → amount ≤ least_left used most steps → amount ≤ most
least_most used most amount [] le = le
least_most used most amount (x ∷ steps) le = least_most used most amount steps (omega (arith, le))

next_positive : (q : Question) (used : Use) (path : Path) → IsNextPath q used path → 0 < path.amount
next_positive q used path n = let pos = n.steps.0.1 in omega (arith, n.amount, pos)

next_fits : (q : Question) (used : Use) (path : Path) → IsNextPath q used path → Fits used path
next_fits q used path n step h =
    let le = least_step used (root_left q used (start q.target path.steps)) path.amount path.steps
    (omega (arith, n.amount)) step h in
    let pos = next_positive q used path n in
    omega (arith, le, pos)

pub each_fit : (q : Question) (earlier paths : List Path) → EachNext q earlier paths → AllFit earlier paths
each_fit q earlier [] n = tt
each_fit q earlier (path ∷ paths) n =
    (next_fits q (use_of earlier) path n.0, each_fit q (earlier ++ path ∷ []) paths n.1)

-- ---- by root

next_root : (q : Question) (earlier : List Path) (path : Path) (fpr : Fpr) → IsNextPath q (use_of earlier) path
    → (use_of earlier).root fpr ≤ root_amount q.roots fpr
    → (use_of earlier).root fpr + path_root fpr path ≤ root_amount q.roots fpr
next_root q earlier path fpr n le = by (same_fpr fpr path.root) refl
  where
    by : (b : Bool) → same_fpr fpr path.root ≡ b
        → (use_of earlier).root fpr + cond b path.amount 0 ≤ root_amount q.roots fpr
    by false f = omega (arith, le)
    by true f =
        let same : start q.target path.steps ≡ fpr = sym n.root ∙ sym (same_fpr-true fpr path.root f) in
        let most = least_most (use_of earlier) (root_left q (use_of earlier) (start q.target path.steps)) path.amount
        path.steps (omega (arith, n.amount)) in
        let most' : path.amount ≤ root_left q (use_of earlier) fpr =
        subst (λ (x : Fpr). path.amount ≤ root_left q (use_of earlier) x) same most in
        let pos = next_positive q (use_of earlier) path n in
        omega (arith, most', pos, le)

each_root : (q : Question) (earlier paths : List Path) (fpr : Fpr) → EachNext q earlier paths
    → (use_of earlier).root fpr ≤ root_amount q.roots fpr
    → (use_of (earlier ++ paths)).root fpr ≤ root_amount q.roots fpr
each_root q earlier [] fpr n le = let e = sum_by-append (path_root fpr) earlier [] in omega (arith, e, le)
each_root q earlier (path ∷ paths) fpr n le =
    let p = next_root q earlier path fpr n.0 le in
    let e = sum_by_push (path_root fpr) earlier path in
    let le' : (use_of (earlier ++ path ∷ [])).root fpr ≤ root_amount q.roots fpr = omega (arith, e, p) in
    subst (λ (xs : List Path). (use_of xs).root fpr ≤ root_amount q.roots fpr) (append_assoc earlier (path ∷ []) paths)
    (each_root q (earlier ++ path ∷ []) paths fpr n.1 le')

pub roots_fit : (q : Question) (paths : List Path) (fpr : Fpr) → EachNext q [] paths
    → (use_of paths).root fpr ≤ root_amount q.roots fpr
roots_fit q paths fpr n = each_root q [] paths fpr n (omega arith)

-- ---- all together

-- what some paths, and one path, use of these roots together
abbrev roots_use : List Path → List (Fpr × ℕ) → ℕ
roots_use paths [] = 0
roots_use paths (root ∷ roots) = (use_of paths).root root.0 + roots_use paths roots

abbrev roots_part : Path → List (Fpr × ℕ) → ℕ
roots_part path [] = 0
roots_part path (root ∷ roots) = path_root root.0 path + roots_part path roots

roots_use-cons : (path : Path) (paths : List Path) (roots : List (Fpr × ℕ))
    → roots_use (path ∷ paths) roots ≡ roots_part path roots + roots_use paths roots
roots_use-cons path paths [] = refl
roots_use-cons path paths (root ∷ roots) =
    let e = sum_by-cons (path_root root.0) path paths in
    let more = roots_use-cons path paths roots in
    omega (arith, e, more)

-- a path uses its amount of one of the roots
part_rooted : (path : Path) (roots : List (Fpr × ℕ)) → 0 < root_amount roots path.root
    → path.amount ≤ roots_part path roots
part_rooted path [] pos = absurd (omega (arith, pos))
part_rooted path (root ∷ roots) pos = by (part_rooted path roots) (same_fpr path.root root.0) refl pos
  where
    by : (0 < root_amount roots path.root → path.amount ≤ roots_part path roots) → (b : Bool)
        → same_fpr path.root root.0 ≡ b
        → 0 < unwrap_or (cond b (Some root.1) (lookup (is_at (fpr_cmp path.root)) roots)) 0
        → path.amount ≤ path_root root.0 path + roots_part path roots
    by ih true e p =
        let t : same_fpr root.0 path.root ≡ true = same_fpr-sym root.0 path.root ∙ e in
        let f : path_root root.0 path ≡ path.amount = ap (λ (b : Bool). cond b path.amount 0) t in
        omega (arith, f)
    by ih false e p = let le = ih p in omega (arith, le)

next_rooted : (q : Question) (used : Use) (path : Path) → IsNextPath q used path → 0 < root_amount q.roots path.root
next_rooted q used path n = subst (λ (fpr : Fpr). 0 < root_amount q.roots fpr) (sym n.root) n.steps.0.0.root

amount_used : (q : Question) (earlier paths : List Path) → EachNext q earlier paths
    → amount_of paths ≤ roots_use paths q.roots
amount_used q earlier [] n = let e : amount_of [] ≡ 0 = refl in omega (arith, e)
amount_used q earlier (path ∷ paths) n =
    let first = part_rooted path q.roots (next_rooted q (use_of earlier) path n.0) in
    let more = amount_used q (earlier ++ path ∷ []) paths n.1 in
    let e = sum_by-cons (λ p. p.amount) path paths in
    let f = roots_use-cons path paths q.roots in
    omega (arith, first, more, e, f)

roots_use_le : (paths : List Path) (roots : List (Fpr × ℕ)) → ((fpr : Fpr) → (use_of paths).root fpr ≤ 255)
    → roots_use paths roots ≤ 255 * length roots
roots_use_le paths [] le = omega arith
roots_use_le paths (root ∷ roots) le =
    let one = le root.0 in let more = roots_use_le paths roots le in omega (arith, one, more)

pub sum_fits : (q : Question) (paths : List Path) → EachNext q [] paths → ((fpr : Fpr) → root_amount q.roots fpr ≤ 255)
    → amount_of paths ≤ 255 * length q.roots
sum_fits q paths n le =
    let a = amount_used q [] paths n in
    let b = roots_use_le paths q.roots
    (λ fpr. let x = roots_fit q paths fpr n in let y = le fpr in omega (arith, x, y)) in
    omega (arith, a, b)
