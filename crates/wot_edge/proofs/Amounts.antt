-- The amounts of the roots stay amounts.
use Rattle.std.proofs.Common.{◌≡◌, ℕ, Bool, true, false, cond, List, [], ◌∷◌, Ordering, refl, Option}
use Rattle.std.specs.declared.cmp.Ordering.TheVariants.{Less, Equal, Greater}
use Rattle.std.specs.Ordering.{match_ordering}
use Rattle.std.specs.Map.{remove_entry}
use Rattle.std.specs.Option.{unwrap_or}
use Rattle.std.specs.BTreeMap.{insert_entry}
use Rattle.std.specs.List.{AllByRecursion}

pub all-insert_entry : {K X : Type 0} (P : X → Type 0) (cmp : K → K → Ordering) (es : List (K × X)) (k : K) (v : X)
    → AllByRecursion (λ e. P e.1) es → P v → AllByRecursion (λ e. P e.1) (insert_entry cmp es k v)
all-insert_entry P cmp [] k v all p = (p, tt)
all-insert_entry P cmp (e ∷ es) k v all p =
    elim (cmp k e.0) as
    (λ o. AllByRecursion (λ e. P e.1)
    (match_ordering o ((k, v) ∷ e ∷ es) ((e.0, v) ∷ es) (e ∷ insert_entry cmp es k v))) [
      | Less ↦ (p, all)
      | Equal ↦ (p, all.1)
      | Greater ↦ (all.0, all-insert_entry P cmp es k v all.1 p)
    ]

pub all-remove_entry : {K X : Type 0} (P : X → Type 0) (test : K → Bool) (es : List (K × X))
    → AllByRecursion (λ e. P e.1) es → AllByRecursion (λ e. P e.1) (remove_entry test es)
all-remove_entry P test [] all = tt
all-remove_entry P test (e ∷ es) all =
    elim (test e.0) as (λ b. AllByRecursion (λ e. P e.1) (cond b es (e ∷ remove_entry test es))) [
      | true ↦ all.1
      | false ↦ (all.0, all-remove_entry P test es all.1)
    ]

-- the number that a choice holds
pub unwrap_cond : (b : Bool) (x y : Option ℕ) → unwrap_or (cond b x y) 0 ≡ cond b (unwrap_or x 0) (unwrap_or y 0)
unwrap_cond true x y = refl
unwrap_cond false x y = refl
