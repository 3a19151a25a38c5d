-- Networks in memory, for tests and benches. A user ID is one octet, and that octet is its place.
use Rattle.std.specs.Prelude.{◌≡◌, ℕ, ◌&&◌, ◌||◌, not, nat_lt, nat_eq, Bool, true, false}
use Rattle.std.specs.Prelude.{List, [], ◌∷◌, map, Option, Some, None}
use Rattle.std.specs.declared.cmp.Ordering.TheVariants.{Less}
use Rattle.std.specs.BTreeMap.{insert_entry}
use Rattle.std.specs.List.{AllByRecursion}
use Rattle.wot_types.specs.declared.fpr.Fpr.{Fpr}
use Rattle.wot_types.specs.Fpr.{fpr_cmp}
use Rattle.wot_edge.specs.declared.edge.EdgeFacts.{EdgeFacts}
use Rattle.wot_edge.specs.Order.{edge_cmp}
use Rattle.wot_edge.specs.Record.{Row, Entry, Record}
use Rattle.wot_edge.specs.Lawful.{AreRows}

-- the edges into a certificate, and whether it is in order
pub record Line : Type 0 where
  pub edges : List EdgeFacts
  pub in_order : Bool

-- the lines by fingerprint, and the one user ID for which limited scopes hold
pub record Plain : Type 0 where
  pub lines : List (Fpr × Line)
  pub inside : ℕ

abbrev pub octet_place : List ℕ → Option ℕ
octet_place [] = None
octet_place (x ∷ []) = Some x
octet_place (x ∷ y ∷ ys) = None

abbrev pub is_place : Option ℕ → Bool
is_place None = false
is_place (Some x) = true

abbrev pub holds_inside : ℕ → Option ℕ → Bool
holds_inside inside None = false
holds_inside inside (Some x) = nat_eq x inside

-- An edge created at 0 isn't usable.
abbrev pub row_of : ℕ → Option ℕ → EdgeFacts → Row
row_of inside place edge =
    record { edge = edge; usable = nat_lt 0 edge.made; scope = not edge.scoped || holds_inside inside place }

abbrev pub entry_of : ℕ → Option ℕ → Line → Entry
entry_of inside place line = record {
  rows = map (row_of inside place) line.edges;
  place = place;
  in_order = line.in_order && is_place place;
}

abbrev pub network_for : Plain → List ℕ → Record
network_for plain uid = map (λ e. (e.0, entry_of plain.inside (octet_place uid) e.1)) plain.lines

abbrev pub AreLines : List (Fpr × Line) → Type 0
AreLines lines = AllByRecursion (λ e. AreRows e.0 e.1.edges) lines

-- the lines, with another at a fingerprint, in place of an earlier one there
abbrev pub with_line : List (Fpr × Line) → Fpr → Bool → List EdgeFacts → List (Fpr × Line)
with_line lines fpr in_order edges = insert_entry fpr_cmp lines fpr (record { edges = edges; in_order = in_order })

-- an edge into a fingerprint that is less than the first of these
abbrev pub MayPrecede : Fpr → EdgeFacts → List EdgeFacts → Type 0
MayPrecede fpr edge [] = edge.target ≡ fpr
MayPrecede fpr edge (next ∷ rest) = (edge.target ≡ fpr) × (edge_cmp edge next ≡ Less)
