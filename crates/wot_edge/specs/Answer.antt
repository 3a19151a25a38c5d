-- The answer to a wanted amount.
use Rattle.std.specs.Prelude.{◌⊎◌, ℕ, ◌<◌, ◌≤◌, List, [], ◌∷◌, ◌++◌, sum_by, Option, Some, None}
use Rattle.wot_edge.specs.declared.path.Path.{Path}
use Rattle.wot_edge.specs.Path.{Question, Use, use_of, IsNextPath, IsSpent}

-- the next path, or none if no valid path of positive amount is left
abbrev pub IsNextOrSpent : Question → Use → Option Path → Type 0
IsNextOrSpent q used None = IsSpent q used
IsNextOrSpent q used (Some path) = IsNextPath q used path

-- Each is the next path after the earlier ones and those before it.
abbrev pub EachNext : Question → List Path → List Path → Type 0
EachNext q earlier [] = Unit {0}
EachNext q earlier (path ∷ paths) = IsNextPath q (use_of earlier) path × EachNext q (earlier ++ path ∷ []) paths

-- there is no valid path of positive amount at all
abbrev pub NoPath : Question → Type 0
NoPath q = IsSpent q (use_of [])

-- the sum of their amounts
abbrev pub amount_of : List Path → ℕ
amount_of paths = sum_by (λ path. path.amount) paths

-- all but the last
abbrev pub but_last : List Path → List Path
but_last [] = []
but_last (path ∷ []) = []
but_last (path ∷ next ∷ paths) = path ∷ but_last (next ∷ paths)

-- The answer to a wanted amount of at least 1: next paths until their sum reaches what is wanted, or none is left. The
-- last path isn't cut.
pub record IsAnswer (q : Question) (wanted : ℕ) (paths : List Path) : Type 0 where
  pub each : EachNext q [] paths
  pub short : amount_of (but_last paths) < wanted
  pub ends : (wanted ≤ amount_of paths) ⊎ IsSpent q (use_of paths)
