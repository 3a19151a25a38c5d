-- Which root of a layer is taken.
use Rattle.std.specs.Prelude.{ℕ, nat_lt, nat_le, min, Bool, List, [], ◌∷◌, Option, Some, None, cond}
use Rattle.std.specs.Ordering.{is_lt}
use Rattle.wot_types.specs.declared.fpr.Fpr.{Fpr}
use Rattle.wot_types.specs.Fpr.{fpr_cmp}
use Rattle.wot_edge.specs.Path.{root_left}
use Rattle.wot_first_path.specs.declared.node.Node.{Node}
use Rattle.wot_first_path.specs.declared.node.Choice.{Choice}
use Rattle.wot_first_path.specs.declared.node.Goal.{Goal}
use Rattle.wot_first_path.specs.declared.node.Goal.TheVariants.{Widest, Least}
use Rattle.wot_first_path.specs.Quest.{Quest}
use Rattle.wot_first_path.specs.Suffix.{Found}

abbrev pub node_width : Option Node → ℕ
node_width None = 0
node_width (Some node) = node.width

-- the amount of a path from here: the least residual amount of the root and of the edges
abbrev pub choice_at : Quest → Found → Fpr → Choice
choice_at quest found fpr =
    record { fpr = fpr; width = min (root_left quest.question quest.used fpr) (node_width (found fpr)) }

abbrev pub is_ahead : Goal → Choice → Choice → Bool
is_ahead Widest a b = nat_lt b.width a.width
is_ahead Least a b = is_lt (fpr_cmp a.fpr b.fpr)

abbrev pub ahead_of : Goal → Choice → Option Choice → Choice
ahead_of goal a None = a
ahead_of goal a (Some b) = cond (is_ahead goal a b) a b

-- the choice so far, and one more fingerprint
abbrev pub taken : Quest → Found → Option Choice → Fpr → Option Choice
taken quest found best fpr =
    cond (nat_le quest.least (root_left quest.question quest.used fpr))
    (Some (ahead_of quest.goal (choice_at quest found fpr) best)) best

abbrev pub chosen : Quest → Found → Option Choice → List Fpr → Option Choice
chosen quest found best [] = best
chosen quest found best (fpr ∷ layer) = chosen quest found (taken quest found best fpr) layer
