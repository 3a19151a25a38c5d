-- How labels are assigned, layer after layer.
use Rattle.std.specs.Prelude.{◌≡◌, ℕ, suc, ◌<◌, ◌≤◌, ◌&&◌, not, is_some, Bool, true, false}
use Rattle.std.specs.Prelude.{List, [], ◌∷◌, ◌++◌, length, Some}
use Rattle.wot_types.specs.declared.fpr.Fpr.{Fpr}
use Rattle.wot_edge.specs.declared.path.Step.{Step}
use Rattle.wot_edge.specs.Record.{Row, Has}
use Rattle.wot_edge.specs.Path.{Question, Use, Stands, start, step_left, root_left}
use Rattle.wot_check.specs.declared.growth.Growth.{Growth}
use Rattle.wot_edge.specs.declared.demand.Demand.{Demand}
use Rattle.wot_check.specs.Table.{GivesLabel, Labels, label_at}
use Rattle.wot_check.specs.Absence.{Closes, RootsSpent}
use Rattle.wot_check.specs.Demand.{Covers, may_stand}

-- ---- one edge

-- a fingerprint gets a label, and is in the next layer
pub record IsGiven (old new : Growth) (fpr : Fpr) (label : ℕ) : Type 0 where
  pub labels : GivesLabel old.table new.table fpr label
  pub layer : new.layer.items ≡ old.layer.items ++ fpr ∷ []

abbrev pub GivesIf : Bool → Growth → Growth → Fpr → ℕ → Type 0
GivesIf true old new fpr label = IsGiven old new fpr label
GivesIf false old new fpr label = old ≡ new

-- an edge that may come there, and whose issuer has no label yet
abbrev pub is_new : Fpr → Use → Demand → Labels → Row → Bool
is_new target used demand table row = not (is_some (label_at table row.edge.issuer)) && may_stand target used demand row

-- the issuer of such an edge gets a label
abbrev pub GivesIfNew : Demand → ℕ → Growth → Growth → Fpr → Use → Row → Type 0
GivesIfNew demand label old new target used row =
    GivesIf (is_new target used demand old.table row) old new row.edge.issuer label

-- ---- what is known

-- Steps to the target that may follow one another, each with a positive residual amount. The label of each issuer is
-- the number of steps from there.
abbrev pub Labelled : Question → Use → Labels → List Step → Type 0
Labelled q used table [] = Unit {0}
Labelled q used table (step ∷ rest) =
    (label_at table step.issuer ≡ Some (length (step ∷ rest))) × Stands q step rest × (0 < step_left used step)
    × Labelled q used table rest

-- `size` such steps lead from there to the target
pub record Leads (q : Question) (used : Use) (table : Labels) (size : ℕ) (fpr : Fpr) : Type 0 where
  pub steps : List Step
  pub labelled : Labelled q used table steps
  pub long : length steps ≡ size
  pub there : start q.target steps ≡ fpr

-- a label is the number of steps from there, and at most `most`
pub record IsLabel (q : Question) (used : Use) (most : ℕ) (table : Labels) (fpr : Fpr) (label : ℕ) : Type 0 where
  pub leads : Leads q used table label fpr
  pub some : 1 ≤ label
  pub few : label ≤ most

-- The labels are the numbers of at most `size` steps, and the layer has all fingerprints from which `size` steps lead
-- to the target.
pub record IsLayered (q : Question) (used : Use) (size : ℕ) (growth : Growth) : Type 0 where
  pub labels : (fpr : Fpr) (label : ℕ) → label_at growth.table fpr ≡ Some label
      → IsLabel q used size growth.table fpr label
  pub each : (fpr : Fpr) → Has growth.layer.items fpr → Leads q used growth.table size fpr
  pub all : (fpr : Fpr) → Leads q used growth.table size fpr → Has growth.layer.items fpr

-- labels of at most `size` steps stay
pub record Extends (size : ℕ) (old new : Labels) : Type 0 where
  pub keeps : (fpr : Fpr) (label : ℕ) → label_at old fpr ≡ Some label → label_at new fpr ≡ Some label
  pub only : (fpr : Fpr) (label : ℕ) → label ≤ size → label_at new fpr ≡ Some label → label_at old fpr ≡ Some label

-- the next layer grew
pub record Advances (q : Question) (used : Use) (size : ℕ) (old new : Growth) : Type 0 where
  pub layered : IsLayered q used (suc size) new
  pub extends : Extends size old.table new.table

-- After the edges into a fingerprint from which `size` steps lead to the target, the next layer grew and the labels
-- cover these edges.
abbrev pub GrowsInto : Question → Use → ℕ → Fpr → Growth → Growth → Type 0
GrowsInto q used size at old new =
    Leads q used old.table size at → IsLayered q used (suc size) old → Advances q used size old new
    × Covers q used size new.table at

abbrev pub CoversLayer : Question → Use → ℕ → List Fpr → Labels → Type 0
CoversLayer q used size layer table = (at : Fpr) → Has layer at → Covers q used size table at

abbrev pub LeadsFromLayer : Question → Use → ℕ → List Fpr → Labels → Type 0
LeadsFromLayer q used size layer table = (at : Fpr) → Has layer at → Leads q used table size at

-- the next layer grew by the edges into each fingerprint of a layer
abbrev pub GrowsByLayer : Question → Use → ℕ → List Fpr → Growth → Growth → Type 0
GrowsByLayer q used size layer old new =
    LeadsFromLayer q used size layer old.table → IsLayered q used (suc size) old
    → Advances q used size old new × CoversLayer q used size layer new.table

-- what is known after a layer
pub record IsAfter (q : Question) (used : Use) (size : ℕ) (growth : Growth) : Type 0 where
  pub layered : IsLayered q used size growth
  pub covered : (fewer : ℕ) (at : Fpr) → fewer < size → Leads q used growth.table fewer at
      → Covers q used fewer growth.table at

abbrev pub GoesOn : Question → Use → ℕ → Growth → Growth → Type 0
GoesOn q used size old new = IsAfter q used size old → IsAfter q used (suc size) new

-- ---- what follows from it

-- a labelled fingerprint is a root with a residual amount
pub record IsRooted (q : Question) (used : Use) (table : Labels) : Type 0 where
  pub fpr : Fpr
  pub label : ℕ
  pub labelled : label_at table fpr ≡ Some label
  pub left : 0 < root_left q used fpr

-- whether no labelled fingerprint is one
abbrev pub AreRootsSpent : Bool → Question → Use → Labels → Type 0
AreRootsSpent true q used table = RootsSpent q used table
AreRootsSpent false q used table = IsRooted q used table

-- the labels meet the first two points, and each is the number of steps from there
pub record IsSettled (q : Question) (used : Use) (table : Labels) : Type 0 where
  pub closes : Closes q used table
  pub labels : (fpr : Fpr) (label : ℕ) → label_at table fpr ≡ Some label → IsLabel q used 255 table fpr label
