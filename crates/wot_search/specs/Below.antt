-- What comes next, if its amount can be enough.
use Rattle.std.specs.Prelude.{◌≡◌, ℕ, ◌≤◌, Option, Some, None}
use Rattle.wot_edge.specs.declared.path.Path.{Path as ThePath}
use Rattle.wot_edge.specs.Path.{Question, Use, IsNextPath, IsSpent}
use Rattle.wot_search.specs.declared.below.Next.{Next}
use Rattle.wot_search.specs.declared.below.Next.TheVariants.{Spent, Enough, Path}

-- a valid path of positive amount is left, and this is the amount of the next one
pub record IsNextAmount (q : Question) (used : Use) (n : ℕ) : Type 0 where
  pub left : IsSpent q used → ⊥
  pub amount : (path : ThePath) → IsNextPath q used path → path.amount ≡ n

abbrev pub IsNextBelow : Question → Use → ℕ → Next → Type 0
IsNextBelow q used enough Spent = IsSpent q used
IsNextBelow q used enough (Enough amount) = (enough ≤ amount) × IsNextAmount q used amount
IsNextBelow q used enough (Path path) = IsNextPath q used path

-- this path, or that none is left
abbrev pub next_of : Option ThePath → Next
next_of None = Spent
next_of (Some path) = Path path
