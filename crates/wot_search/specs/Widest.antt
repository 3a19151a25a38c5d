-- What a search for the greatest amount finds.
use Rattle.std.specs.Prelude.{◌≡◌, ℕ, true, List, length, Option, Some, None}
use Rattle.wot_types.specs.declared.fpr.Fpr.{Fpr}
use Rattle.wot_edge.specs.declared.path.Path.{Path}
use Rattle.wot_edge.specs.Agree.{Agree}
use Rattle.wot_edge.specs.Path.{Question, IsSpent}
use Rattle.wot_edge.specs.Record.{Record, Has, entry_at}
use Rattle.wot_edge.specs.Sums.{Sums, use_in}
use Rattle.wot_first_path.specs.declared.node.Goal.TheVariants.{Widest}
use Rattle.wot_first_path.specs.Growth.{IsResult}
use Rattle.wot_first_path.specs.Looked.{IsLooked}
use Rattle.wot_first_path.specs.Quest.{Quest}
use Rattle.wot_reach.specs.Reach.{number_at}
use Rattle.wot_first_path.specs.declared.asked.Asked.{Asked}
use Rattle.wot_search.specs.Asked.{question_of, HasAll, IsNextLocally}
use Rattle.wot_search.specs.Offers.{AreNext}

-- the quest of such a search
abbrev pub widest_of : (List ℕ → Record) → Asked → Sums → Quest
widest_of network asked used = record {
  question = question_of network asked;
  used = use_in used;
  reach = number_at asked.reach.now;
  least = 1;
  goal = Widest;
}

-- A path of the greatest amount, one with the fewest edges, to a user ID that is in order.
pub record IsWidest (network : List ℕ → Record) (asked : Asked) (used : Sums) (path : Path) : Type 0 where
  pub in_order : (entry_at (network asked.uid.now) asked.target.now).in_order ≡ true
  pub result : IsResult (widest_of network asked used) (Some path)

-- such a path, or that no path is left
abbrev pub IsWidestOrSpent : (List ℕ → Record) → Asked → Sums → Option Path → Type 0
IsWidestOrSpent network asked used None = IsSpent (question_of network asked) (use_in used)
IsWidestOrSpent network asked used (Some path) = IsWidest network asked used path

-- all that matters for it was noted
abbrev pub IsWidestNoted : (List ℕ → Record) → Asked → Sums → (Fpr → Type 0) → Option Path → Type 0
IsWidestNoted network asked used noted None = IsNextLocally network asked used noted None
IsWidestNoted network asked used noted (Some path) = IsLooked (widest_of network asked used) (length path.steps) noted

-- If the reach leaves nothing out, every question that agrees on a set with all that mattered for the widest path has
-- these next paths too.
abbrev pub AreNextByWidest : (List ℕ → Record) → Asked → Sums → Path → List Path → Type 0
AreNextByWidest network asked used wide paths =
    HasAll asked.reach.now → (other : Question) (set : List Fpr) → Agree (question_of network asked) other set
    → IsLooked (widest_of network asked used) (length wide.steps) (Has set)
    → AreNext asked.roots.now other (use_in used) paths
