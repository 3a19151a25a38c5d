-- Which offer is taken.
use Rattle.std.proofs.Common.{◌≡◌, ℕ, ◌≤◌, true, List, [], ◌∷◌, Option, Some, sym, subst}
use Rattle.std.specs.List.{remove}
use Rattle.std.proofs.lemmas.Bool.{ltb-true}
use Rattle.wot_types.specs.declared.fpr.Fpr.{Fpr}
use Rattle.wot_edge.specs.declared.path.Path.{Path}
use Rattle.wot_edge.specs.Answer.{IsNextOrSpent}
use Rattle.wot_edge.specs.Path.{Question, Use, IsNextPath}
use Rattle.wot_search.specs.Offers.{AreOffers, AreNext, first_path, is_first_spent, is_left, left_at}
use Rattle.wot_search.proofs.PathsAreOffers.{later_refl}

-- without the first one, of whose root too little is left
pub dropped : (roots : List (Fpr × ℕ)) (q : Question) (used : Use) (paths : List Path)
    → is_first_spent roots used paths ≡ true → AreOffers roots q used paths → AreOffers roots q used (remove paths 0)
dropped roots q used [] t o = absurd cc
dropped roots q used (path ∷ paths) t o =
    o.1 used (later_refl used) (ltb-true (left_at roots used path.root) path.amount t)

-- the first one, where enough is left
pub opened : (roots : List (Fpr × ℕ)) (q : Question) (used : Use) (paths : List Path) (path : Path)
    → Some path ≡ first_path paths → AreOffers roots q used paths
    → path.amount ≤ left_at roots used path.root → is_left used path.amount path.steps ≡ true → IsNextPath q used path
opened roots q used [] path e o le left = absurd cc
opened roots q used (p ∷ paths) path e o le left =
    let same : p ≡ path = cc in
    subst (λ (x : Path). x.amount ≤ left_at roots used x.root → is_left used x.amount x.steps ≡ true
    → IsNextPath q used x) same (λ a b. o.0 used (later_refl used) a b) le left

pub next_first : (roots : List (Fpr × ℕ)) (q : Question) (used : Use) (paths : List Path) (found : Option Path)
    → found ≡ first_path paths → AreNext roots q used paths → IsNextOrSpent q used found
next_first roots q used [] found e n = subst (IsNextOrSpent q used) (sym e) n
next_first roots q used (path ∷ paths) found e n = subst (IsNextOrSpent q used) (sym e) n.0

pub next_offers : (roots : List (Fpr × ℕ)) (q : Question) (used : Use) (paths : List Path) → AreNext roots q used paths
    → AreOffers roots q used paths
next_offers roots q used [] n = tt
next_offers roots q used (path ∷ paths) n = n.1
