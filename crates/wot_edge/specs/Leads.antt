-- What leads to a target by rows, and how a set of consulted fingerprints grows.
use Rattle.std.specs.Prelude.{◌≡◌, ◌⊎◌, List, [], ◌∷◌}
use Rattle.wot_types.specs.declared.fpr.Fpr.{Fpr}
use Rattle.wot_edge.specs.declared.edge.EdgeFacts.{EdgeFacts}
use Rattle.wot_edge.specs.Record.{Has, Record, edges_into}

-- where edges to a target begin: the first issuer, or the target itself
abbrev pub beginning : Fpr → List EdgeFacts → Fpr
beginning target [] = target
beginning target (edge ∷ rest) = edge.issuer

-- a list of rows, usable or not, that ends at the target: each is one of those into where the rest begins
abbrev pub IsRoute : Record → Fpr → List EdgeFacts → Type 0
IsRoute network target [] = Unit {0}
IsRoute network target (edge ∷ rest) = Has (edges_into network (beginning target rest)) edge
    × IsRoute network target rest

-- the target, or the first issuer of a list of rows that ends at the target
abbrev pub Leads : Record → Fpr → Fpr → Type 0
Leads network target fpr = (route : List EdgeFacts) × IsRoute network target route × (fpr ≡ beginning target route)

-- all of the old set is in the new one
abbrev pub Grows : List Fpr → List Fpr → Type 0
Grows old new = (fpr : Fpr) → Has old fpr → Has new fpr

-- what the new set gained leads to the target
abbrev pub GainsLeads : Record → Fpr → List Fpr → List Fpr → Type 0
GainsLeads network target old new = (fpr : Fpr) → Has new fpr → Has old fpr ⊎ Leads network target fpr
