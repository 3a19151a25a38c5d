-- Suffixes: lists of edges to the target that all have the wanted residual amount; and those that a search keeps.
use Rattle.std.specs.Prelude.{◌≡◌, ℕ, ◌<◌, ◌≤◌, List, [], ◌∷◌, length, Option, Some}
use Rattle.wot_types.specs.declared.fpr.Fpr.{Fpr}
use Rattle.wot_edge.specs.declared.path.Step.{Step}
use Rattle.wot_edge.specs.Path.{Use, Stands, step_left, least_left}
use Rattle.wot_first_path.specs.declared.node.Node.{Node}
use Rattle.wot_first_path.specs.Quest.{Quest}

-- a step that may come before others, has the wanted residual amount, and whose issuer is within its reach
pub record Serves (quest : Quest) (step : Step) (rest : List Step) : Type 0 where
  pub usable_edge : Stands quest.question step rest
  pub left : quest.least ≤ step_left quest.used step
  pub high : length rest < quest.reach step.issuer

abbrev pub Suffix : Quest → List Step → Type 0
Suffix quest [] = Unit {0}
Suffix quest (step ∷ rest) = Serves quest step rest × Suffix quest rest

-- the least residual amount of its edges, none of which has more than 255
abbrev pub width : Use → List Step → ℕ
width used steps = least_left used 255 steps

-- the node of a suffix, kept for its first issuer
abbrev pub node_of : Use → Step → List Step → Node
node_of used step rest = record { step = step; size = length (step ∷ rest); width = width used (step ∷ rest) }

-- what was found for each issuer
abbrev pub Found : Type 0
Found = Fpr → Option Node

-- a suffix that was found: its first edge for its first issuer, and so on
abbrev pub Kept : Quest → Found → List Step → Type 0
Kept quest found [] = Unit {0}
Kept quest found (step ∷ rest) =
    (found step.issuer ≡ Some (node_of quest.used step rest)) × Serves quest step rest × Kept quest found rest
