-- Two questions about one user ID, in two states, that agree on a set of fingerprints.
use Rattle.std.specs.Prelude.{◌≡◌, Bool, List, map}
use Rattle.wot_types.specs.declared.fpr.Fpr.{Fpr}
use Rattle.wot_edge.specs.declared.edge.EdgeFacts.{EdgeFacts}
use Rattle.wot_edge.specs.Record.{Row, Has, rows_into, entry_at}
use Rattle.wot_edge.specs.Roots.{root_amount}
use Rattle.wot_edge.specs.Path.{Question}

-- an edge, and whether its scope holds
abbrev pub scoped_edge : Row → EdgeFacts × Bool
scoped_edge row = (row.edge, row.scope)

-- Both ask about one target. For each fingerprint of the set both have the same edges into it with the same scopes, the
-- same place of U, the same validity as a target for U, and the same amount as a root. Each edge between two of the set
-- is usable in both or in neither.
pub record Agree (q other : Question) (set : List Fpr) : Type 0 where
  pub target : q.target ≡ other.target
  pub rows : (fpr : Fpr) → Has set fpr
      → map scoped_edge (rows_into q.network fpr) ≡ map scoped_edge (rows_into other.network fpr)
  pub place : (fpr : Fpr) → Has set fpr → (entry_at q.network fpr).place ≡ (entry_at other.network fpr).place
  pub in_order : (fpr : Fpr) → Has set fpr → (entry_at q.network fpr).in_order ≡ (entry_at other.network fpr).in_order
  pub usable : (fpr : Fpr) → Has set fpr → (x y : Row) → Has (rows_into q.network fpr) x
      → Has (rows_into other.network fpr) y → x.edge ≡ y.edge → Has set x.edge.issuer → x.usable ≡ y.usable
  pub roots : (fpr : Fpr) → Has set fpr → root_amount q.roots fpr ≡ root_amount other.roots fpr
