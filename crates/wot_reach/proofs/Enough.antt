-- A table that has enough.
use Rattle.std.proofs.Common.{◌≡◌, ◌⊎◌, inl, inr, ℕ, ◌+◌, ◌<◌, ◌≤◌, ◌-◌, min, List, length, get_or, drop, None, refl}
use Rattle.std.proofs.Common.{sym, ap, subst, ◌∙◌, arith}
use Rattle.std.specs.Option.{unwrap_or}
use Rattle.std.specs.Map.{lookup}
use Rattle.std.specs.BTreeMap.{is_at}
use Rattle.std.proofs.lemmas.List.{drop_more, drop_all}
use Rattle.wot_types.specs.declared.fpr.Fpr.{Fpr}
use Rattle.wot_types.specs.Fpr.{fpr_cmp}
use Rattle.wot_edge.specs.declared.edge.EdgeFacts.{EdgeFacts}
use Rattle.wot_edge.specs.Record.{Record, Has, IsRecord, rows_into, edges_into}
use Rattle.wot_edge.specs.Roots.{root_amount}
use Rattle.wot_reach.specs.Reach.{Allows, HasEnough, number_of}
use Rattle.wot_edge.specs.RowLaws.{row_edge}

-- ---- the edges into one fingerprint

module _ (network : List ℕ → Record) (number : Fpr → ℕ) (n : ℕ) where
  -- of these edges those so far ask no more
  abbrev pub AllowedFrom : List EdgeFacts → ℕ → Type 0
  AllowedFrom edges i = (edge : EdgeFacts) → Has edges edge → Has (drop i edges) edge ⊎ Allows network number n edge

  pub allowed_more : (edges : List EdgeFacts) (i : ℕ) (edge : EdgeFacts) → i < length edges → edge ≡ get_or edges i edge
      → AllowedFrom edges i → Allows network number n edge → AllowedFrom edges (i + 1)
  allowed_more edges i edge lt is from a e h = elim (from e h) [
    | inl there ↦ elim (subst (λ (xs : List EdgeFacts). Has xs e) (drop_more edges i edge lt) there) [
      | inl f ↦ inr (subst (Allows network number n) (is ∙ sym f) a)
      | inr k ↦ inl k
    ]
    | inr done ↦ inr done
  ]

  pub allowed_end : (edges : List EdgeFacts) (i : ℕ) → length edges ≤ i → AllowedFrom edges i → (edge : EdgeFacts)
      → Has edges edge → Allows network number n edge
  allowed_end edges i le from e h = elim (from e h) [
    | inl there ↦ absurd (subst (λ (xs : List EdgeFacts). Has xs e) (drop_all i edges le) there)
    | inr done ↦ done
  ]

pub all_allowed : (network : List ℕ → Record) (roots : List (Fpr × ℕ)) (number : Fpr → ℕ) (fpr : Fpr) (n : ℕ)
    (edges : List EdgeFacts) → ((uid : List ℕ) → edges ≡ edges_into (network uid) fpr)
    → ((uid : List ℕ) → IsRecord (network uid))
    → n ≡ number fpr → (0 < root_amount roots fpr → number fpr ≡ 255)
    → ((edge : EdgeFacts) → Has edges edge → Allows network number n edge) → HasEnough network roots number fpr
all_allowed network roots number fpr n edges rows good same root all = record {
  root = root;
  edges = λ uid row has usable some.
      let has' = subst (λ (xs : List EdgeFacts). Has xs row.edge) (sym (rows uid)) (row_edge (network uid) fpr row has) in
      let into = subst (λ (f : Fpr). Has (rows_into (network uid) f) row) (sym ((good uid).into fpr row has)) has in
      subst (λ (m : ℕ). min row.edge.depth (number row.edge.issuer - 1) ≤ m) same
      (all row.edge has' uid row into refl usable some);
}

-- ---- the table

module _ (network : List ℕ → Record) (roots : List (Fpr × ℕ)) (numbers : List (Fpr × ℕ)) where
  absent : (fpr : Fpr) → lookup (is_at (fpr_cmp fpr)) numbers ≡ None → number_of numbers fpr ≡ 255
  absent fpr e = ap (λ (o : _). min 255 (unwrap_or o 255)) e

  -- one that has no number has enough
  pub absent_enough : (fpr : Fpr) → lookup (is_at (fpr_cmp fpr)) numbers ≡ None
      → HasEnough network roots (number_of numbers) fpr
  absent_enough fpr e = record {
    root = λ some. absent fpr e;
    edges = λ uid row has usable some.
        let f = absent fpr e in
        let le : number_of numbers row.edge.issuer ≤ 255 = omega arith in
        omega (arith, f, le);
  }
