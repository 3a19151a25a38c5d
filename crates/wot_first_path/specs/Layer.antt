-- Layers: what is known of the found suffixes with at most this many edges.
use Rattle.std.specs.Prelude.{◌≡◌, ◌≢◌, ◌⊎◌, ℕ, suc, ◌<◌, ◌≤◌, nat_lt, nat_eq, ◌&&◌, Bool, true}
use Rattle.std.specs.Prelude.{List, ◌∷◌, length, Option, Some, None}
use Rattle.std.specs.declared.cmp.Ordering.{Ordering}
use Rattle.std.specs.declared.cmp.Ordering.TheVariants.{Less}
use Rattle.std.specs.Ordering.{is_lt, nat_cmp, ordering_then}
use Rattle.wot_types.specs.declared.fpr.Fpr.{Fpr}
use Rattle.wot_types.specs.Fpr.{fpr_cmp}
use Rattle.wot_edge.specs.declared.path.Step.{Step}
use Rattle.wot_edge.specs.Order.{steps_cmp}
use Rattle.wot_edge.specs.Record.{Has}
use Rattle.wot_edge.specs.Path.{Use, start}
use Rattle.wot_first_path.specs.declared.node.Node.{Node}
use Rattle.wot_first_path.specs.declared.node.Goal.{Goal}
use Rattle.wot_first_path.specs.declared.node.Goal.TheVariants.{Widest, Least}
use Rattle.wot_first_path.specs.Quest.{Quest}
use Rattle.wot_first_path.specs.Suffix.{Suffix, Found, Kept, width}

-- of two suffixes of equal length, the first is at least as good
abbrev pub IsAsGood : Use → Goal → List Step → List Step → Type 0
IsAsGood used Widest a b = width used b ≤ width used a
IsAsGood used Least a b = steps_cmp b a ≢ Less

-- it has fewer edges, or as many and is at least as good
abbrev pub AtMost : Use → Goal → List Step → List Step → Type 0
AtMost used goal a b = (length a < length b) ⊎ ((length a ≡ length b) × IsAsGood used goal a b)

-- a suffix that was found begins where another one begins, and is at most it
pub record Covered (quest : Quest) (found : Found) (other : List Step) : Type 0 where
  pub steps : List Step
  pub kept : Kept quest found steps
  pub some : 1 ≤ length steps
  pub same : start quest.question.target steps ≡ start quest.question.target other
  pub most : AtMost quest.used quest.goal steps other

-- a suffix of this many edges that begins there was found
pub record Begins (quest : Quest) (found : Found) (size : ℕ) (fpr : Fpr) : Type 0 where
  pub steps : List Step
  pub kept : Kept quest found steps
  pub long : length steps ≡ size
  pub there : start quest.question.target steps ≡ fpr

-- what was found for an issuer is the first edge of a found suffix of at most this many edges
pub record IsEntry (quest : Quest) (found : Found) (most : ℕ) (fpr : Fpr) (node : Node) : Type 0 where
  pub rest : List Step
  pub kept : Kept quest found (node.step ∷ rest)
  pub few : node.size ≤ most
  pub there : node.step.issuer ≡ fpr

-- a layer: where the found suffixes of this many edges begin
pub record IsLayer (quest : Quest) (found : Found) (size : ℕ) (layer : List Fpr) : Type 0 where
  pub each : (fpr : Fpr) → Has layer fpr → Begins quest found size fpr
  pub all : (steps : List Step) → Kept quest found steps → length steps ≡ size
      → Has layer (start quest.question.target steps)

-- all suffixes of at most this many edges are covered
abbrev pub IsComplete : Quest → Found → ℕ → Type 0
IsComplete quest found most =
    (other : List Step) → 1 ≤ length other → length other ≤ most → Suffix quest other → Covered quest found other

-- while the layer after this many edges grows
pub record IsGrowing (quest : Quest) (size : ℕ) (found : Found) (next : List Fpr) : Type 0 where
  pub entries : (fpr : Fpr) (node : Node) → found fpr ≡ Some node → IsEntry quest found (suc size) fpr node
  pub complete : IsComplete quest found size
  pub layer : IsLayer quest found (suc size) next

-- what was found later, with unchanged suffixes of at most this many edges, covers everything that was covered
pub record Onward (quest : Quest) (size : ℕ) (old new : Found) : Type 0 where
  pub keeps : (steps : List Step) → length steps ≤ size → Kept quest old steps → Kept quest new steps
  pub kept : (steps : List Step) → length steps ≤ size → Kept quest new steps → Kept quest old steps
  pub covers : (other : List Step) → Covered quest old other → Covered quest new other

-- ---- which of two suffixes from one issuer is kept

-- Two suffixes of one issuer and of equal length compare as their first edges do, by target and user ID.
abbrev pub link_cmp : Step → Step → Ordering
link_cmp a b = ordering_then (fpr_cmp a.target b.target) (nat_cmp a.uid b.uid)

abbrev pub is_better : Goal → Node → Node → Bool
is_better Widest a b = nat_lt b.width a.width
is_better Least a b = is_lt (link_cmp a.step b.step)

-- it is the first one from its issuer, or better than another of equal length
abbrev pub is_kept : Goal → Node → Option Node → Bool
is_kept goal node None = true
is_kept goal node (Some old) = nat_eq old.size node.size && is_better goal node old
