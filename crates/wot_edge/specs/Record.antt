-- The record of a user ID U: everything that a network says about U, as finite data.
use Rattle.std.specs.Prelude.{◌≡◌, ◌⊎◌, ℕ, Bool, false, List, [], ◌∷◌, map, Option, None}
use Rattle.std.specs.Option.{unwrap_or}
use Rattle.std.specs.Map.{lookup}
use Rattle.std.specs.BTreeMap.{is_at}
use Rattle.wot_types.specs.declared.fpr.Fpr.{Fpr}
use Rattle.wot_types.specs.Fpr.{fpr_cmp}
use Rattle.wot_edge.specs.declared.edge.EdgeFacts.{EdgeFacts}

-- x is one of the list
abbrev pub Has : {X : Type 0} → List X → X → Type 0
Has [] x = ⊥
Has (y ∷ ys) x = (x ≡ y) ⊎ Has ys x

-- an edge, whether it is usable, and whether its scope holds for U
pub record Row : Type 0 where
  pub edge : EdgeFacts
  pub usable : Bool
  pub scope : Bool

-- what is known of a fingerprint: the edges into it, the place of U among its user IDs, and whether it is a valid
-- target for U
pub record Entry : Type 0 where
  pub rows : List Row
  pub place : Option ℕ
  pub in_order : Bool

-- what is known of a fingerprint that isn't there
abbrev pub blank : Entry
blank = record { rows = []; place = None; in_order = false }

abbrev pub Record : Type 0
Record = List (Fpr × Entry)

-- what a record says about a fingerprint
abbrev pub entry_at : Record → Fpr → Entry
entry_at network fpr = unwrap_or (lookup (is_at (fpr_cmp fpr)) network) blank

-- the rows into a fingerprint
abbrev pub rows_into : Record → Fpr → List Row
rows_into network fpr = (entry_at network fpr).rows

-- the edges of these rows
abbrev pub edges_into : Record → Fpr → List EdgeFacts
edges_into network fpr = map (λ row. row.edge) (rows_into network fpr)

-- what holds for each row of an edge
abbrev pub EachRow : Record → EdgeFacts → (Row → Type 0) → Type 0
EachRow network edge holds = (row : Row) → Has (rows_into network edge.target) row → row.edge ≡ edge → holds row

-- The rows into each fingerprint are of edges into it, at most one for each issuer and user ID.
pub record IsRecord (network : Record) : Type 0 where
  pub into : (fpr : Fpr) (row : Row) → Has (rows_into network fpr) row → row.edge.target ≡ fpr
  pub one : (fpr : Fpr) (x y : Row) → Has (rows_into network fpr) x → Has (rows_into network fpr) y
      → x.edge.issuer ≡ y.edge.issuer → x.edge.uid ≡ y.edge.uid → x ≡ y
