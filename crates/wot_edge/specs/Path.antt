-- Valid paths, what earlier paths leave, and which path is next. After Sequoia's OpenPGP Web of
-- Trust specification, in outline; the exact rules are this project's own.
use Rattle.std.specs.Prelude.{◌≡◌, ◌≢◌, ◌⊎◌, ℕ, ◌<◌, ◌≤◌, ◌-◌, ◌&&◌, min, Bool}
use Rattle.std.specs.Prelude.{true, List, [], ◌∷◌, length, map, sum_by, Some, if◌then◌else◌}
use Rattle.std.specs.List.{list_any}
use Rattle.std.specs.declared.cmp.Ordering.TheVariants.{Less}
use Rattle.wot_types.specs.declared.fpr.Fpr.{Fpr}
use Rattle.wot_types.specs.Fpr.{same_fpr}
use Rattle.wot_edge.specs.declared.edge.EdgeFacts.{EdgeFacts}
use Rattle.wot_edge.specs.declared.path.Path.{Path}
use Rattle.wot_edge.specs.declared.path.Step.{Step}
use Rattle.wot_edge.specs.Order.{steps_cmp}
use Rattle.wot_edge.specs.Record.{Has, Record, Row, entry_at, rows_into}
use Rattle.wot_edge.specs.Roots.{root_amount}

-- The question to which amount U is authenticated as a user ID of the target, given the record of U and the amounts of
-- the roots.
pub record Question : Type 0 where
  pub network : Record
  pub roots : List (Fpr × ℕ)
  pub target : Fpr

abbrev pub asks : Record → List (Fpr × ℕ) → Fpr → Question
asks network roots target = record { network = network; roots = roots; target = target }

-- ---- valid paths

-- where steps to a target begin: the first issuer, or the target itself
abbrev pub start : Fpr → List Step → Fpr
start target [] = target
start target (step ∷ rest) = step.issuer

-- what a path says about an edge
abbrev pub step_of : EdgeFacts → Step
step_of edge =
    record { issuer = edge.issuer; target = edge.target; uid = edge.uid; depth = edge.depth; amount = edge.amount }

-- What the steps after an edge demand of it. The last edge is on U. Any other has a depth of at least their number, a
-- scope that holds for U, and an issuer other than the target.
abbrev pub Reaches : Question → Row → List Step → Type 0
Reaches q row [] = (entry_at q.network q.target).place ≡ Some row.edge.uid
Reaches q row (next ∷ rest) =
    (length (next ∷ rest) ≤ row.edge.depth) × (row.scope ≡ true) × (row.edge.issuer ≢ q.target)

-- a step that may come before others: a usable edge into where they begin
pub record Stands (q : Question) (step : Step) (rest : List Step) : Type 0 where
  pub row : Row
  pub into : Has (rows_into q.network (start q.target rest)) row
  pub usable : row.usable ≡ true
  pub shown : step_of row.edge ≡ step
  pub reaches : Reaches q row rest

abbrev pub Chain : Question → List Step → Type 0
Chain q [] = Unit {0}
Chain q (step ∷ rest) = Stands q step rest × Chain q rest

abbrev pub issuers : List Step → List Fpr
issuers steps = map (λ step. step.issuer) steps

-- no two are the same
abbrev pub Distinct : List Fpr → Type 0
Distinct [] = Unit {0}
Distinct (x ∷ xs) = (Has xs x → ⊥) × Distinct xs

-- a valid path: of 1 to 255 edges, from a root to the target, which is a valid target for U
pub record IsValid (q : Question) (steps : List Step) : Type 0 where
  pub some : 1 ≤ length steps
  pub few : length steps ≤ 255
  pub chain : Chain q steps
  pub distinct : Distinct (issuers steps)
  pub root : 0 < root_amount q.roots (start q.target steps)
  pub in_order : (entry_at q.network q.target).in_order ≡ true

-- ---- residual amounts

-- what earlier paths use of each pair of issuer and target, and of each root
pub record Use : Type 0 where
  pub pair : Fpr → Fpr → ℕ
  pub root : Fpr → ℕ

-- whether a step is of this pair
abbrev pub is_of : Fpr → Fpr → Step → Bool
is_of issuer target step = same_fpr issuer step.issuer && same_fpr target step.target

-- what these steps use of a pair: the amount, once, if one of them is of it
abbrev pub pair_part : Fpr → Fpr → ℕ → List Step → ℕ
pair_part issuer target amount steps = if list_any (is_of issuer target) steps then amount else 0

-- a path uses its amount of each of its pairs, and of its root
abbrev pub path_pair : Fpr → Fpr → Path → ℕ
path_pair issuer target path = pair_part issuer target path.amount path.steps

abbrev pub path_root : Fpr → Path → ℕ
path_root fpr path = if same_fpr fpr path.root then path.amount else 0

abbrev pub use_of : List Path → Use
use_of paths = record {
  pair = λ issuer target. sum_by (path_pair issuer target) paths;
  root = λ fpr. sum_by (path_root fpr) paths;
}

-- what is left of an edge, and of a root
abbrev pub step_left : Use → Step → ℕ
step_left used step = step.amount - used.pair step.issuer step.target

abbrev pub root_left : Question → Use → Fpr → ℕ
root_left q used fpr = root_amount q.roots fpr - used.root fpr

-- the least of an amount and of what is left of the edges
abbrev pub least_left : Use → ℕ → List Step → ℕ
least_left used amount [] = amount
least_left used amount (step ∷ rest) = min (step_left used step) (least_left used amount rest)

-- a path's amount: the least of what is left of its root and of its edges
abbrev pub path_amount : Question → Use → List Step → ℕ
path_amount q used steps = least_left used (root_left q used (start q.target steps)) steps

-- ---- the next path

-- a valid path of positive amount
abbrev pub IsOpen : Question → Use → List Step → Type 0
IsOpen q used steps = IsValid q steps × (0 < path_amount q used steps)

-- a has fewer edges than b; or as many, and a greater amount; or the same amount too, and is less
abbrev pub Precedes : Question → Use → List Step → List Step → Type 0
Precedes q used a b =
    (length a < length b)
    ⊎ ((length a ≡ length b) × ((path_amount q used b < path_amount q used a)
    ⊎ ((path_amount q used b ≡ path_amount q used a) × (steps_cmp a b ≡ Less))))

-- the steps of the next path: of a valid path of positive amount that no other one precedes
abbrev pub IsNext : Question → Use → List Step → Type 0
IsNext q used steps =
    IsOpen q used steps × ((other : List Step) → IsOpen q used other → Precedes q used other steps → ⊥)

-- the next path, with its root and its amount
pub record IsNextPath (q : Question) (used : Use) (path : Path) : Type 0 where
  pub steps : IsNext q used path.steps
  pub root : path.root ≡ start q.target path.steps
  pub amount : path.amount ≡ path_amount q used path.steps

-- no valid path of positive amount is left
abbrev pub IsSpent : Question → Use → Type 0
IsSpent q used = (steps : List Step) → IsOpen q used steps → ⊥
