-- One path more.
use Rattle.std.proofs.Common.{◌≡◌, inl, inr, ℕ, ◌+◌, ◌*◌, ◌<◌, ◌≤◌, Bool, true, false, cond, List, [], ◌∷◌, ◌++◌}
use Rattle.std.proofs.Common.{length, Option, Some, None, refl, sym, ap, subst, ◌∙◌, arith, append_assoc}
use Rattle.std.specs.Option.{unwrap_or}
use Rattle.std.specs.Map.{lookup}
use Rattle.std.specs.BTreeMap.{is_at}
use Rattle.std.specs.List.{list_any}
use Rattle.std.proofs.lemmas.List.{append-nil}
use Rattle.std.proofs.lemmas.List.Sums.{sum_by-cons, sum_by_push}
use Rattle.wot_types.specs.declared.fpr.Fpr.{Fpr}
use Rattle.wot_types.specs.Fpr.{fpr_cmp, same_fpr}
use Rattle.wot_edge.specs.declared.path.Path.{Path}
use Rattle.wot_edge.specs.Roots.{root_amount, AreAmounts}
use Rattle.wot_edge.specs.Path.{Question, Use, use_of, path_pair, path_root, is_of, IsNextPath, IsSpent}
use Rattle.wot_edge.specs.Sums.{Sums, pair_sum, root_sum, use_in}
use Rattle.wot_edge.specs.Answer.{EachNext, amount_of, but_last, IsAnswer, IsNextOrSpent}
use Rattle.wot_search.specs.Offers.{IsLater, AreOffers}

-- ---- one path more

each_after : (q : Question) (earlier paths : List Path) (path : Path) → EachNext q earlier paths
    → IsNextPath q (use_of (earlier ++ paths)) path → EachNext q earlier (paths ++ path ∷ [])
each_after q earlier [] path e n =
    (subst (λ (ps : List Path). IsNextPath q (use_of ps) path) (append-nil earlier) n, tt)
each_after q earlier (p ∷ paths) path e n = (
  e.0,
  each_after q (earlier ++ p ∷ []) paths path e.1
      (subst (λ (ps : List Path). IsNextPath q (use_of ps) path) (sym (append_assoc earlier (p ∷ []) paths)) n),
)

pub each_more : (q : Question) (paths : List Path) (path : Path) → EachNext q [] paths
    → IsNextPath q (use_of paths) path → EachNext q [] (paths ++ path ∷ [])
each_more q paths path e n = each_after q [] paths path e n

but_last-more : (paths : List Path) (path : Path) → but_last (paths ++ path ∷ []) ≡ paths
but_last-more [] path = refl
but_last-more (p ∷ []) path = refl
but_last-more (p ∷ r ∷ paths) path = ap (λ (ps : List Path). p ∷ ps) (but_last-more (r ∷ paths) path)

pub short_more : (wanted : ℕ) (paths : List Path) (path : Path) → amount_of paths < wanted
    → amount_of (but_last (paths ++ path ∷ [])) < wanted
short_more wanted paths path lt = subst (λ (ps : List Path). amount_of ps < wanted) (sym (but_last-more paths path)) lt

-- ---- what is used

pub use_none : (sums : Sums) → ((issuer target : Fpr) → pair_sum sums issuer target ≡ 0)
    → ((fpr : Fpr) → root_sum sums fpr ≡ 0) → use_in sums ≡ use_of []
use_none sums pairs roots = λ i. record { pair = λ issuer target. pairs issuer target i; root = λ fpr. roots fpr i }

pub use_more : (old new : Sums) (paths : List Path) (path : Path) → use_in old ≡ use_of paths
    → ((issuer target : Fpr) → pair_sum new issuer target ≡ pair_sum old issuer target + path_pair issuer target path)
    → ((fpr : Fpr) → root_sum new fpr ≡ root_sum old fpr + path_root fpr path)
    → use_in new ≡ use_of (paths ++ path ∷ [])
use_more old new paths path e pairs roots =
    λ i. record { pair = λ issuer target. pair issuer target i; root = λ fpr. root fpr i }
  where
    pair : (issuer target : Fpr) → pair_sum new issuer target ≡ (use_of (paths ++ path ∷ [])).pair issuer target
    pair issuer target =
        pairs issuer target ∙ ap (λ (u : Use). u.pair issuer target + path_pair issuer target path) e
        ∙ sym (sum_by_push (path_pair issuer target) paths path)

    root : (fpr : Fpr) → root_sum new fpr ≡ (use_of (paths ++ path ∷ [])).root fpr
    root fpr = roots fpr ∙ ap (λ (u : Use). u.root fpr + path_root fpr path) e
        ∙ sym (sum_by_push (path_root fpr) paths path)

-- after one path more at least as much is used
pub later_more : (old new : Sums) (path : Path)
    → ((issuer target : Fpr) → pair_sum new issuer target ≡ pair_sum old issuer target + path_pair issuer target path)
    → ((fpr : Fpr) → root_sum new fpr ≡ root_sum old fpr + path_root fpr path)
    → IsLater (use_in old) (use_in new)
later_more old new path pairs roots = record {
  pair = λ issuer target. (let e = pairs issuer target in omega (arith, e));
  root = λ fpr. (let e = roots fpr in omega (arith, e));
}

later_trans : (a b c : Use) → IsLater a b → IsLater b c → IsLater a c
later_trans a b c m n = record {
  pair = λ issuer target. (let x = m.pair issuer target in let y = n.pair issuer target in omega (arith, x, y));
  root = λ fpr. (let x = m.root fpr in let y = n.root fpr in omega (arith, x, y));
}

-- offers stay offers
pub offers_later : (roots : List (Fpr × ℕ)) (q : Question) (used later : Use) (paths : List Path) → IsLater used later
    → AreOffers roots q used paths → AreOffers roots q later paths
offers_later roots q used later [] l o = tt
offers_later roots q used later (path ∷ paths) l o = (
  λ last m le left. o.0 last (later_trans used later last l m) le left,
  λ last m lt. o.1 last (later_trans used later last l m) lt,
)

part_le : (b : Bool) (n : ℕ) → cond b n 0 ≤ n
part_le true n = omega arith
part_le false n = omega arith

pair_le : (issuer target : Fpr) (paths : List Path) → (use_of paths).pair issuer target ≤ amount_of paths
pair_le issuer target [] = omega arith
pair_le issuer target (path ∷ paths) =
    let e = sum_by-cons (path_pair issuer target) path paths in
    let f = sum_by-cons (λ p. p.amount) path paths in
    let one = part_le (list_any (is_of issuer target) path.steps) path.amount in
    let more = pair_le issuer target paths in
    omega (arith, e, f, one, more)

root_le : (fpr : Fpr) (paths : List Path) → (use_of paths).root fpr ≤ amount_of paths
root_le fpr [] = omega arith
root_le fpr (path ∷ paths) =
    let e = sum_by-cons (path_root fpr) path paths in
    let f = sum_by-cons (λ p. p.amount) path paths in
    let one = part_le (same_fpr fpr path.root) path.amount in
    let more = root_le fpr paths in
    omega (arith, e, f, one, more)

-- what a path adds to what is used stays within the sum of all
pub pair_fits : (sums : Sums) (paths : List Path) (path : Path) (issuer target : Fpr) → use_in sums ≡ use_of paths
    → pair_sum sums issuer target + path_pair issuer target path ≤ amount_of (paths ++ path ∷ [])
pair_fits sums paths path issuer target e =
    let f : pair_sum sums issuer target ≡ (use_of paths).pair issuer target =
    ap (λ (u : Use). u.pair issuer target) e in
    let p = sum_by_push (path_pair issuer target) paths path in
    let le = pair_le issuer target (paths ++ path ∷ []) in
    omega (arith, f, p, le)

pub root_fits : (sums : Sums) (paths : List Path) (path : Path) (fpr : Fpr) → use_in sums ≡ use_of paths
    → root_sum sums fpr + path_root fpr path ≤ amount_of (paths ++ path ∷ [])
root_fits sums paths path fpr e =
    let f : root_sum sums fpr ≡ (use_of paths).root fpr = ap (λ (u : Use). u.root fpr) e in
    let p = sum_by_push (path_root fpr) paths path in
    let le = root_le fpr (paths ++ path ∷ []) in
    omega (arith, f, p, le)

pub root_small : (roots : List (Fpr × ℕ)) (fpr : Fpr) → AreAmounts roots → root_amount roots fpr ≤ 255
root_small [] fpr all = omega arith
root_small (root ∷ roots) fpr all = by (root_small roots fpr all.1) (same_fpr fpr root.0)
  where
    by : root_amount roots fpr ≤ 255 → (b : Bool)
        → unwrap_or (cond b (Some root.1) (lookup (is_at (fpr_cmp fpr)) roots)) 0 ≤ 255
    by ih true = all.0.1
    by ih false = ih

pub amount_more : (paths : List Path) (path : Path) → amount_of (paths ++ path ∷ []) ≡ amount_of paths + path.amount
amount_more paths path = sum_by_push (λ p. p.amount) paths path

-- ---- the steps of the loop

pub next_found : (q : Question) (sums : Sums) (paths : List Path) (found : Option Path) (path : Path)
    → use_in sums ≡ use_of paths → IsNextOrSpent q (use_in sums) found → found ≡ Some path
    → IsNextPath q (use_of paths) path
next_found q sums paths found path e n f =
    subst (λ (u : Use). IsNextOrSpent q u (Some path)) e (subst (IsNextOrSpent q (use_in sums)) f n)

-- no sum passes 64 roots of 255
pub more_small : ((q : Question) (paths : List Path) → EachNext q [] paths
    → ((fpr : Fpr) → root_amount q.roots fpr ≤ 255) → amount_of paths ≤ 255 * length q.roots)
    → (q : Question) (paths : List Path) (path : Path) → AreAmounts q.roots → length q.roots ≤ 64 → EachNext q [] paths
    → IsNextPath q (use_of paths) path → amount_of (paths ++ path ∷ []) ≤ 16320
more_small law q paths path all few e n =
    let le = law q (paths ++ path ∷ []) (each_more q paths path e n) (λ fpr. root_small q.roots fpr all) in
    omega (arith, le, few)

pub spent_answer : (q : Question) (wanted : ℕ) (sums : Sums) (paths result : List Path) (found : Option Path)
    → EachNext q [] paths → amount_of (but_last paths) < wanted → use_in sums ≡ use_of paths
    → IsNextOrSpent q (use_in sums) found → found ≡ None → result ≡ paths → IsAnswer q wanted result
spent_answer q wanted sums paths result found each short e n f same =
    let spent : IsSpent q (use_of paths) =
    subst (λ (u : Use). IsNextOrSpent q u None) e (subst (IsNextOrSpent q (use_in sums)) f n) in
    subst (IsAnswer q wanted) (sym same) (record { each = each; short = short; ends = inr spent })

pub full_answer : (q : Question) (wanted : ℕ) (paths result : List Path) (sum : ℕ) → EachNext q [] paths
    → amount_of (but_last paths) < wanted → sum ≡ amount_of paths → wanted ≤ sum → result ≡ paths
    → IsAnswer q wanted result
full_answer q wanted paths result sum each short e le same =
    subst (IsAnswer q wanted) (sym same) (record { each = each; short = short; ends = inl (omega (arith, e, le)) })
