-- Edges into a fingerprint in the order of issuer and user ID, and a record of such rows.
use Rattle.std.specs.Prelude.{◌≡◌, List, map}
use Rattle.std.specs.List.{AllByRecursion}
use Rattle.std.specs.List.Sorted.{IsStrictlySortedBy}
use Rattle.wot_types.specs.declared.fpr.Fpr.{Fpr}
use Rattle.wot_edge.specs.declared.edge.EdgeFacts.{EdgeFacts}
use Rattle.wot_edge.specs.Order.{edge_cmp}
use Rattle.wot_edge.specs.Record.{Has, Row, Entry, Record}

-- the edges are into a fingerprint, in order
pub record AreRows (fpr : Fpr) (edges : List EdgeFacts) : Type 0 where
  pub into : (edge : EdgeFacts) → Has edges edge → edge.target ≡ fpr
  pub order : IsStrictlySortedBy edge_cmp edges

-- those into each fingerprint are
abbrev pub AreEntries : Record → Type 0
AreEntries network = AllByRecursion (λ (e : Fpr × Entry). AreRows e.0 (map (λ (row : Row). row.edge) e.1.rows)) network
