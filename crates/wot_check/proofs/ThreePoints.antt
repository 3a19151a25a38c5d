-- The three points, as they are tested.
use Rattle.std.proofs.Common.{◌≡◌, ◌⊎◌, inl, inr, ℕ, ◌+◌, ◌<◌, true, false, List, [], ◌∷◌, length, sym, subst, arith}
use Rattle.wot_types.specs.declared.fpr.Fpr.{Fpr}
use Rattle.wot_edge.specs.declared.edge.EdgeFacts.{EdgeFacts}
use Rattle.wot_edge.specs.Record.{EachRow, Row, Has, rows_into, edges_into}
use Rattle.wot_edge.specs.Path.{Question, Use}
use Rattle.wot_check.specs.Table.{Labels, IsTable}
use Rattle.wot_check.specs.Absence.{Excludes, OthersLabelled, RootsSpent}
use Rattle.wot_edge.specs.Demand.{demand_of}
use Rattle.wot_check.specs.Demand.{Covers, is_covered}
use Rattle.wot_check.specs.Growth.{IsRooted}
use Rattle.wot_check.proofs.Demands.{covers_at, at_covers, covers_last, last_covers}
use Rattle.wot_check.proofs.Entries.{has_lookup, lookup_has, label_small}
use Rattle.wot_edge.specs.RowLaws.{row_there}
use Rattle.wot_check.proofs.Rows.{first_or_later, none_left}

-- each edge into a fingerprint is covered, or is still to be gone through
abbrev pub CoveredSoFar : Question → Use → ℕ → Labels → Fpr → List EdgeFacts → Type 0
CoveredSoFar q used size table at rest =
    (row : Row) → Has (rows_into q.network at) row
    → (is_covered q.target used (demand_of q size) (size + 1) table row ≡ true) ⊎ Has rest row.edge

module _ (q : Question) (used : Use) where
  pub covered_more : (size : ℕ) (table : Labels) (at : Fpr) (rest later : List EdgeFacts) (edge : EdgeFacts)
      → rest ≡ edge ∷ later → edge.target ≡ at
      → EachRow q.network edge (λ row. is_covered q.target used (demand_of q size) (size + 1) table row ≡ true)
      → CoveredSoFar q used size table at rest → CoveredSoFar q used size table at later
  covered_more size table at rest later edge e t each so row h = elim (so row h) [
    | inl c ↦ inl c
    | inr k ↦ elim (first_or_later rest later edge row.edge e k) [
      | inl same ↦ inl (each row (subst (λ (f : Fpr). Has (rows_into q.network f) row) (sym t) h) same)
      | inr k' ↦ inr k'
    ]
  ]

  pub covered_fails : (size : ℕ) (table : Labels) (at : Fpr) (edge : EdgeFacts) → Has (edges_into q.network at) edge
      → edge.target ≡ at
      → EachRow q.network edge (λ row. is_covered q.target used (demand_of q size) (size + 1) table row ≡ false)
      → Covers q used size table at → ⊥
  covered_fails size table at edge there t each c =
      let r = row_there q.network at edge there in
      let f = each r.0 (subst (λ (x : Fpr). Has (rows_into q.network x) r.0) (sym t) r.1) r.2 in
      let g = c r.0 r.1 in
      cc

  pub covered_all : (size : ℕ) (table : Labels) (at : Fpr) (rest : List EdgeFacts) → length rest ≡ 0
      → CoveredSoFar q used size table at rest → Covers q used size table at
  covered_all size table at rest e so row h =
      elim (so row h) [ inl c ↦ c | inr k ↦ absurd (none_left rest row.edge e k) ]

  -- ---- label by label

  abbrev pub LabelsSoFar : Labels → Labels → Type 0
  LabelsSoFar table rest =
      (at : Fpr) (label : ℕ) → Has table (at, label)
      → (label < 255 → Covers q used label table at) ⊎ Has rest (at, label)

  pub labels_more : (table rest later : Labels) (at : Fpr) (label : ℕ) → rest ≡ (at, label) ∷ later
      → (label < 255 → Covers q used label table at) → LabelsSoFar table rest → LabelsSoFar table later
  labels_more table rest later at label e c so at' label' h = elim (so at' label' h) [
    | inl d ↦ inl d
    | inr k ↦ elim (first_or_later rest later (at, label) (at', label') e k) [
      | inl same ↦ inl (subst (λ (entry : Fpr × ℕ). entry.1 < 255 → Covers q used entry.1 table entry.0) (sym same) c)
      | inr k' ↦ inr k'
    ]
  ]

  pub labels_all : (table : Labels) → IsTable table → LabelsSoFar table [] → OthersLabelled q used table
  labels_all table good so at label row e lt m = elim (so at label (lookup_has table at label e)) [
    | inl c ↦ let some =
        (label_small table good.labels at label e).0 in
        covers_at q used table at label (omega (arith, some)) (c lt) row m
    | inr k ↦ absurd k
  ]

  pub labels_fail : (table : Labels) → IsTable table → (at : Fpr) (label : ℕ) → Has table (at, label)
      → ((label < 255 → Covers q used label table at) → ⊥) → OthersLabelled q used table → ⊥
  labels_fail table good at label h n o =
      let e = has_lookup table good.order at label h in
      let some = (label_small table good.labels at label e).0 in
      n (λ lt. at_covers q used table at label (omega (arith, some)) (λ row m. o at label row e lt m))

  -- ---- the three points

  pub rooted_unspent : (table : Labels) → IsRooted q used table → RootsSpent q used table → ⊥
  rooted_unspent table r s = let z = s r.fpr r.label r.labelled in let left = r.left in omega (arith, z, left)

  pub three_points : (table : Labels) → IsTable table → RootsSpent q used table → Covers q used 0 table q.target
      → OthersLabelled q used table → Excludes q used table
  three_points table good r c o = record {
    closes = record {
      last = covers_last q used table
          (λ fpr label e. let some = (label_small table good.labels fpr label e).0 in omega (arith, some)) c;
      others =
          o;
    };
    roots = r;
  }

  pub last_covered : (table : Labels) → Excludes q used table → Covers q used 0 table q.target
  last_covered table x = last_covers q used table x.closes.last
