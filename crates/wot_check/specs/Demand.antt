-- What is demanded of an edge into a fingerprint that is this many edges from the target.
use Rattle.std.specs.Prelude.{◌≡◌, ℕ, ◌+◌, ◌<◌, nat_le, nat_lt, ◌&&◌, ◌||◌, not, Bool, true, false, Option}
use Rattle.std.specs.Prelude.{Some, None}
use Rattle.wot_types.specs.declared.fpr.Fpr.{Fpr}
use Rattle.wot_edge.specs.declared.demand.Demand.{Demand}
use Rattle.wot_edge.specs.declared.demand.Demand.TheVariants.{On, Before}
use Rattle.wot_edge.specs.declared.edge.EdgeFacts.{EdgeFacts}
use Rattle.wot_edge.specs.Demand.{is_met, demand_of}
use Rattle.wot_edge.specs.Record.{Row, Has, rows_into}
use Rattle.wot_edge.specs.Path.{Question, Use, step_of, step_left}
use Rattle.wot_check.specs.Table.{Labels, label_at}

-- the last edge of a path needs no scope
abbrev pub is_in_scope : Demand → Row → Bool
is_in_scope (On place) row = true
is_in_scope (Before size) row = row.scope

-- the edge meets the demand, and has a positive residual amount
abbrev pub promises : Fpr → Use → Demand → EdgeFacts → Bool
promises target used demand edge = is_met target demand edge && nat_lt 0 (step_left used (step_of edge))

-- an edge may come there
abbrev pub may_stand : Fpr → Use → Demand → Row → Bool
may_stand target used demand row = promises target used demand row.edge && (row.usable && is_in_scope demand row)

-- ---- what a table has to have for an edge

abbrev pub is_within : ℕ → Option ℕ → Bool
is_within most None = false
is_within most (Some label) = nat_le label most

-- the issuer has at most this label, or the edge may not come there
abbrev pub is_covered : Fpr → Use → Demand → ℕ → Labels → Row → Bool
is_covered target used demand most table row =
    is_within most (label_at table row.edge.issuer) || not (may_stand target used demand row)

-- whether an edge is covered, by its target and what is used
abbrev pub is_covered_by : Demand → ℕ → Labels → Fpr → Use → Row → Bool
is_covered_by demand most table target used row = is_covered target used demand most table row

-- each edge into a fingerprint that is this many edges from the target is covered
abbrev pub Covers : Question → Use → ℕ → Labels → Fpr → Type 0
Covers q used size table at =
    (row : Row) → Has (rows_into q.network at) row
    → is_covered q.target used (demand_of q size) (size + 1) table row ≡ true

-- the greatest label demands nothing
abbrev pub CoversBelow : ℕ → Labels → Fpr → Question → Use → Type 0
CoversBelow label table at q used = label < 255 → Covers q used label table at
