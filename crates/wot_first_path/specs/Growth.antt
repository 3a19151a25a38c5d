-- How a layer grows: by one edge, by the edges into one fingerprint, and by those into each of a layer.
use Rattle.std.specs.Prelude.{◌≡◌, ℕ, ◌<◌, ◌≤◌, nat_eq, ◌&&◌, ◌||◌, ◌++◌, suc, Bool, true}
use Rattle.std.specs.Prelude.{false, is_some, List, [], ◌∷◌, length, Option, Some, None, IfSome, cond, if◌then◌else◌}
use Rattle.wot_types.specs.declared.fpr.Fpr.{Fpr}
use Rattle.wot_types.specs.Fpr.{same_fpr}
use Rattle.wot_edge.specs.declared.demand.Demand.{Demand}
use Rattle.wot_edge.specs.declared.edge.EdgeFacts.{EdgeFacts}
use Rattle.wot_edge.specs.declared.path.Path.{Path}
use Rattle.wot_edge.specs.declared.path.Step.{Step}
use Rattle.wot_edge.specs.Leads.{Leads}
use Rattle.wot_edge.specs.Record.{Record, Row, Has, IsRecord, EachRow, rows_into}
use Rattle.wot_edge.specs.Path.{Reaches, start, step_of, step_left, root_left, path_amount}
use Rattle.wot_first_path.specs.declared.node.Node.{Node}
use Rattle.wot_first_path.specs.declared.node.Goal.{Goal}
use Rattle.wot_first_path.specs.declared.reached.Reached.{Reached}
use Rattle.wot_first_path.specs.declared.quest.Quest.{Quest as Told}
use Rattle.wot_first_path.specs.declared.search.Search.{Search}
use Rattle.wot_first_path.specs.Quest.{Quest, quest_of}
use Rattle.wot_first_path.specs.Suffix.{Serves, Found, Kept, width}
use Rattle.wot_first_path.specs.Layer.{Covered, IsEntry, IsLayer, IsComplete, IsGrowing, Onward, is_kept, Begins}
use Rattle.wot_first_path.specs.Choice.{node_width}
use Rattle.wot_first_path.specs.Demand.{candidate_of}
use Rattle.wot_first_path.specs.Looked.{Gains, IsLooked, IsSeen}
use Rattle.wot_first_path.specs.Reached.{look}
use Rattle.wot_first_path.specs.Rooted.{Rooted, IsFirst}
use Rattle.wot_first_path.specs.Search.{quest_in}

-- ---- one edge

-- the candidate, if it is kept
abbrev pub if_kept : Goal → Found → Option Node → Option Node
if_kept goal found None = None
if_kept goal found (Some node) = cond (is_kept goal node (found node.step.issuer)) (Some node) None

abbrev pub wanted_of : Quest → Found → Demand → ℕ → ℕ → EdgeFacts → Option Node
wanted_of quest found demand size width edge = if_kept quest.goal found (candidate_of quest demand size width edge)

-- whether a row may come before this many edges, if it meets the demand
abbrev pub may_stand_of : ℕ → Row → Bool
may_stand_of size row = row.usable && (nat_eq size 0 || row.scope)

-- a node is kept for its issuer, and a new issuer joins the last layer
abbrev pub PutsNode : Reached → Reached → Node → Type 0
PutsNode old new node =
    (fpr : Fpr) → look new.nodes fpr ≡ (if same_fpr node.step.issuer fpr then Some node else look old.nodes fpr)

abbrev pub PutsIssuer : Reached → Reached → Fpr → Type 0
PutsIssuer old new fpr =
    new.layer.items ≡ (if is_some (look old.nodes fpr) then old.layer.items else old.layer.items ++ fpr ∷ [])

pub record IsPut (old new : Reached) (node : Node) : Type 0 where
  pub nodes : PutsNode old new node
  pub layer : PutsIssuer old new node.step.issuer

abbrev pub IsPutIf : Bool → Reached → Reached → Node → Type 0
IsPutIf true old new node = IsPut old new node
IsPutIf false old new node = old ≡ new

-- a found suffix with this number of edges and this width that begins there
pub record IsRest (quest : Quest) (found : Found) (size : ℕ) (at : Fpr) (wide : ℕ) (rest : List Step) : Type 0 where
  pub kept : Kept quest found rest
  pub long : length rest ≡ size
  pub there : start quest.question.target rest ≡ at
  pub width : width quest.used rest ≡ wide

-- the layer grew
pub record Advances (quest : Quest) (size : ℕ) (old new : Reached) : Type 0 where
  pub growing : IsGrowing quest size (look new.nodes) new.layer.items
  pub onward : Onward quest size (look old.nodes) (look new.nodes)

-- if this edge may come before the rest, it is covered there
abbrev pub IsTaken : Quest → Found → EdgeFacts → List Step → Type 0
IsTaken quest found edge rest =
    (row : Row) → Has (rows_into quest.question.network (start quest.question.target rest)) row → row.edge ≡ edge
    → row.usable ≡ true → Reaches quest.question row rest → quest.least ≤ step_left quest.used (step_of edge)
    → length rest < quest.reach edge.issuer → Covered quest found (step_of edge ∷ rest)

-- if it may come there, usable or not, its issuer was looked at
abbrev pub IsNoted : Quest → (Fpr → Type 0) → EdgeFacts → List Step → Type 0
IsNoted quest set edge rest =
    (row : Row) → Has (rows_into quest.question.network (start quest.question.target rest)) row → row.edge ≡ edge
    → Reaches quest.question row rest → quest.least ≤ step_left quest.used (step_of edge)
    → length rest < quest.reach edge.issuer → set edge.issuer

-- all for which something was found were looked at
abbrev pub AreNoted : Found → (Fpr → Type 0) → Type 0
AreNoted found set = (fpr : Fpr) (node : Node) → found fpr ≡ Some node → set fpr

-- it is kept if it may come there by each row of the edge
abbrev pub PutsIfStands : Record → ℕ → EdgeFacts → Reached → Reached → Node → Type 0
PutsIfStands network size edge old new node = EachRow network edge (λ row. IsPutIf (may_stand_of size row) old new node)

-- An edge was considered in front of the suffixes of this many edges and this width that begin at its target.
pub record ConsidersEdge (quest : Quest) (size wide : ℕ) (edge : EdgeFacts) (old new : Reached)
    (before after : Fpr → Type 0) : Type 0 where
  -- if such a suffix was found, the layer grew, and the edge is taken before each of them
  pub grows : (rest : List Step) → IsRest quest (look old.nodes) size edge.target wide rest
      → IsGrowing quest size (look old.nodes) old.layer.items → Advances quest size old new
  pub taken : (rest : List Step) → IsRest quest (look old.nodes) size edge.target wide rest
      → IsGrowing quest size (look old.nodes) old.layer.items → IsTaken quest (look new.nodes) edge rest
  -- if all that was found was noted, it still is, and so is the edge's issuer
  pub noted : AreNoted (look old.nodes) before → AreNoted (look new.nodes) after
  pub seen : AreNoted (look old.nodes) before → (rest : List Step) → length rest ≡ size
      → IsNoted quest after edge rest

-- ---- all edges into some fingerprints

-- the width of what was found with this many edges; the empty suffix has the greatest
abbrev pub wide_of : ℕ → Option Node → ℕ
wide_of size node = cond (nat_eq size 0) 255 (node_width node)

-- each edge that may come before the rest is covered there
abbrev pub AreTaken : Quest → Found → List Step → Type 0
AreTaken quest found rest = (step : Step) → Serves quest step rest → Covered quest found (step ∷ rest)

-- this fingerprint and no other
abbrev pub Only : Fpr → Fpr → Type 0
Only at fpr = fpr ≡ at

-- a suffix of this many edges that begins at one of these fingerprints
pub record BeginsIn (quest : Quest) (size : ℕ) (from : Fpr → Type 0) (rest : List Step) : Type 0 where
  pub long : length rest ≡ size
  pub there : from (start quest.question.target rest)

-- The layer after this many edges grows, and a suffix of this many edges was found from each of these fingerprints.
pub record IsReady (quest : Quest) (size : ℕ) (from : Fpr → Type 0) (reached : Reached) : Type 0 where
  pub growing : IsGrowing quest size (look reached.nodes) reached.layer.items
  pub begins : (fpr : Fpr) → from fpr → Begins quest (look reached.nodes) size fpr

-- All edges into these fingerprints were considered, in front of all suffixes of this many edges that begin there.
pub record Considers (quest : Quest) (size : ℕ) (from : Fpr → Type 0) (old new : Reached)
    (before after : Fpr → Type 0) : Type 0 where
  -- if such a suffix was found from each, the layer grew, and each edge is taken before each of the suffixes found
  pub grows : IsReady quest size from old → Advances quest size old new
  pub taken : IsReady quest size from old → (rest : List Step) → BeginsIn quest size from rest
      → Kept quest (look old.nodes) rest → AreTaken quest (look new.nodes) rest
  -- if all that was found was noted, it still is, and all that matters before any such suffix was looked at
  pub noted : AreNoted (look old.nodes) before → AreNoted (look new.nodes) after
  pub seen : AreNoted (look old.nodes) before → (rest : List Step) → BeginsIn quest size from rest
      → IsSeen quest after rest

-- ---- the program's forms of both, for one layer of a search, and for what its states have noted

abbrev pub TriesEdge :
    {R S : Type 0} → (S → Fpr → Type 0) → (R → List ℕ → Record) → Search R → ℕ → EdgeFacts → Reached → Reached → S → S
    → Type 0
TriesEdge noted network search wide edge old new before after =
    ConsidersEdge (quest_in network search) search.size wide edge old new (noted before) (noted after)

abbrev pub ConsidersInto :
    {R S : Type 0} → (S → Fpr → Type 0) → (R → List ℕ → Record) → Search R → Fpr → Reached → Reached → S → S → Type 0
ConsidersInto noted network search at old new before after =
    Considers (quest_in network search) search.size (Only at) old new (noted before) (noted after)

abbrev pub ConsidersLayer :
    {R S : Type 0} → (S → Fpr → Type 0) → (R → List ℕ → Record) → Search R → List Fpr → Reached → Reached → S → S
    → Type 0
ConsidersLayer noted network search layer old new before after =
    Considers (quest_in network search) search.size (Has layer) old new (noted before) (noted after)

-- ---- one layer

-- what is known after a layer
pub record IsAfter (quest : Quest) (size : ℕ) (reached : Reached) (set : Fpr → Type 0) : Type 0 where
  pub entries : (fpr : Fpr) (node : Node) → look reached.nodes fpr ≡ Some node
      → IsEntry quest (look reached.nodes) size fpr node
  pub complete : IsComplete quest (look reached.nodes) size
  pub layer : IsLayer quest (look reached.nodes) size reached.layer.items
  pub noted : AreNoted (look reached.nodes) set
  pub looked : IsLooked quest size set

-- no suffix of fewer edges begins at a root with the wanted residual amount
abbrev pub IsUnrooted : Quest → Found → ℕ → Type 0
IsUnrooted quest found size =
    (steps : List Step) → Kept quest found steps → 1 ≤ length steps → suc (length steps) ≤ size
    → quest.least ≤ root_left quest.question quest.used (start quest.question.target steps) → ⊥

-- One more layer: what was known is known for one edge more.
abbrev pub GoesOn : (List ℕ → Record) → Told → ℕ → Reached → Reached → (Fpr → Type 0) → (Fpr → Type 0) → Type 0
GoesOn network quest size old new before after =
    IsAfter (quest_of network quest) size old before → IsAfter (quest_of network quest) (suc size) new after

abbrev pub StaysUnrooted : (List ℕ → Record) → Told → ℕ → Reached → Reached → (Fpr → Type 0) → Type 0
StaysUnrooted network quest size old new before =
    IsAfter (quest_of network quest) size old before → IsUnrooted (quest_of network quest) (look old.nodes) (suc size)
    → IsUnrooted (quest_of network quest) (look new.nodes) (suc size)

abbrev pub GainsAfter : (List ℕ → Record) → Told → ℕ → Reached → (Fpr → Type 0) → (Fpr → Type 0) → Type 0
GainsAfter network quest size old before after =
    IsAfter (quest_of network quest) size old before
    → Gains (Leads (network quest.asked.uid.now) quest.asked.target.now) before after

-- ---- what a search returns

-- no root has more than an octet holds
abbrev pub IsSmall : Quest → Type 0
IsSmall quest = (fpr : Fpr) → root_left quest.question quest.used fpr ≤ 255

-- this is the suffix of this many edges that was found from there, in any quest
abbrev pub IsFoundFrom : Found → Fpr → ℕ → List Step → Type 0
IsFoundFrom found from size made =
    (quest : Quest) → IsRecord quest.question.network → (steps : List Step) → Kept quest found steps
    → length steps ≡ size
    → start quest.question.target steps ≡ from → made ≡ steps

-- a path that is the first with this many edges, with its root and its amount
pub record IsFirstPath (quest : Quest) (size : ℕ) (path : Path) : Type 0 where
  pub first : IsFirst quest path.steps
  pub root : path.root ≡ start quest.question.target path.steps
  pub amount : path.amount ≡ path_amount quest.question quest.used path.steps
  pub long : length path.steps ≡ size

-- the first path of a layer, or that no root with the wanted residual amount is in it
abbrev pub IsTurn : Quest → Found → ℕ → Option Path → Type 0
IsTurn quest found size None = IsUnrooted quest found (suc size)
IsTurn quest found size (Some path) = IsFirstPath quest size path

-- this holds if all that was found is known, and no root is in an earlier layer
abbrev pub TurnsTo : Quest → ℕ → Reached → Option Path → Type 0
TurnsTo quest size reached found =
    IsRecord quest.question.network → IsSmall quest → IsLayer quest (look reached.nodes) size reached.layer.items
    → IsComplete quest (look reached.nodes) size → IsUnrooted quest (look reached.nodes) size
    → IsTurn quest (look reached.nodes) size found

-- the first path, or that there is none
abbrev pub IsResult : Quest → Option Path → Type 0
IsResult quest None = (other : List Step) → Rooted quest other → ⊥
IsResult quest (Some path) = IsFirstPath quest (length path.steps) path

-- if a path was found, what is known after as many layers as it has edges
abbrev pub IsAfterPath : Quest → Reached → (Fpr → Type 0) → Option Path → Type 0
IsAfterPath quest reached set found = IfSome found (λ (path : Path). IsAfter quest (length path.steps) reached set)

-- all that matters was looked at
abbrev pub IsLookedBy : Quest → (Fpr → Type 0) → Option Path → Type 0
IsLookedBy quest set None = IsLooked quest 255 set
IsLookedBy quest set (Some path) = IsLooked quest (length path.steps) set
