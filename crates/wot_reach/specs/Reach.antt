-- Reach: how far before a target an issuer may come, by a table of numbers that serves every question.
use Rattle.std.specs.Prelude.{◌≡◌, ℕ, ◌<◌, ◌≤◌, ◌-◌, min, true, List}
use Rattle.std.specs.Option.{unwrap_or}
use Rattle.std.specs.Map.{lookup}
use Rattle.std.specs.BTreeMap.{is_at}
use Rattle.wot_types.specs.declared.fpr.Fpr.{Fpr}
use Rattle.wot_types.specs.Fpr.{fpr_cmp}
use Rattle.wot_edge.specs.declared.edge.EdgeFacts.{EdgeFacts}
use Rattle.wot_edge.specs.Record.{Record, Row, Has, rows_into}
use Rattle.wot_edge.specs.Roots.{root_amount}
use Rattle.wot_reach.specs.Onward.{AreOnward}
use Rattle.wot_reach.specs.declared.onward.Onward.{Onward}

-- the number of a fingerprint, at most 255; 255 if the table has none
abbrev pub number_of : List (Fpr × ℕ) → Fpr → ℕ
number_of numbers fpr = min 255 (unwrap_or (lookup (is_at (fpr_cmp fpr)) numbers) 255)

-- a table: the number of each fingerprint, and for some fingerprints the places of the edges into it that lead on
pub record Table : Type 0 where
  pub numbers : List (Fpr × ℕ)
  pub onward : List Onward

abbrev pub number_at : Table → Fpr → ℕ
number_at table fpr = number_of table.numbers fpr

-- When a fingerprint has enough: it has 255 if it is a root, and the target of each usable edge of positive amount has
-- at least the lesser of the edge's depth and one less than its issuer's number.
pub record HasEnough (network : List ℕ → Record) (roots : List (Fpr × ℕ)) (number : Fpr → ℕ) (fpr : Fpr) : Type 0 where
  pub root : 0 < root_amount roots fpr → number fpr ≡ 255
  pub edges : (uid : List ℕ) (row : Row) → Has (rows_into (network uid) fpr) row → row.usable ≡ true
      → 0 < row.edge.amount
      → min row.edge.depth (number row.edge.issuer - 1) ≤ number fpr

-- These numbers are the reach for all records, scopes left aside, and for the roots: on a path from a root no issuer
-- comes further before the target than its number.
abbrev pub HaveEnough : (List ℕ → Record) → List (Fpr × ℕ) → (Fpr → ℕ) → Type 0
HaveEnough network roots number = (fpr : Fpr) → HasEnough network roots number fpr

-- the numbers of a table are the reach, and its places are those of all edges that lead on
pub record IsReach (network : List ℕ → Record) (roots : List (Fpr × ℕ)) (table : Table) : Type 0 where
  pub enough : HaveEnough network roots (number_at table)
  pub onward : AreOnward network (number_at table) table.onward

-- an edge asks no more than n of its target
abbrev pub Allows : (List ℕ → Record) → (Fpr → ℕ) → ℕ → EdgeFacts → Type 0
Allows network number n edge =
    (uid : List ℕ) (row : Row) → Has (rows_into (network uid) edge.target) row → row.edge ≡ edge → row.usable ≡ true
    → 0 < row.edge.amount → min row.edge.depth (number row.edge.issuer - 1) ≤ n
