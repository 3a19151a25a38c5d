-- What is demanded of an edge before this many others, except that it is usable and its scope holds.
use Rattle.std.specs.Prelude.{ℕ, nat_le, nat_eq, ◌&&◌, not, Bool, false, Option, Some, None, cond}
use Rattle.wot_types.specs.declared.fpr.Fpr.{Fpr}
use Rattle.wot_types.specs.Fpr.{same_fpr}
use Rattle.wot_edge.specs.declared.demand.Demand.{Demand}
use Rattle.wot_edge.specs.declared.demand.Demand.TheVariants.{On, Before}
use Rattle.wot_edge.specs.declared.edge.EdgeFacts.{EdgeFacts}
use Rattle.wot_edge.specs.Record.{Record, entry_at}
use Rattle.wot_edge.specs.Path.{Question}

abbrev pub is_place : Option ℕ → ℕ → Bool
is_place None uid = false
is_place (Some place) uid = nat_eq place uid

abbrev pub is_met : Fpr → Demand → EdgeFacts → Bool
is_met target (On place) edge = is_place place edge.uid
is_met target (Before size) edge = nat_le size edge.depth && not (same_fpr edge.issuer target)

-- the demand on edges with this many after them
abbrev pub demand_in : Record → Fpr → ℕ → Demand
demand_in network target size = cond (nat_eq size 0) (On (entry_at network target).place) (Before size)

abbrev pub demand_of : Question → ℕ → Demand
demand_of q size = demand_in q.network q.target size
