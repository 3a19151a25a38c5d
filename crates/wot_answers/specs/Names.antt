-- Names of views, and what is kept by them.
use Rattle.std.specs.Prelude.{◌≡◌, ℕ, Bool, cond, List, None}
use Rattle.std.specs.BTreeMap.{is_at}
use Rattle.std.specs.Map.{lookup}
use Rattle.wot_types.specs.ViewName.{view_name_cmp}

-- whether two names are equal
abbrev pub is_name : List ℕ → List ℕ → Bool
is_name name = is_at (view_name_cmp name)

-- the entry of this name is gone, and the others are unchanged
abbrev pub IsForgotten : {X : Type 0} → List ℕ → List (List ℕ × X) → List (List ℕ × X) → Type 0
IsForgotten name old new =
    (other : List ℕ) → lookup (is_name other) new ≡ cond (is_name name other) None (lookup (is_name other) old)
