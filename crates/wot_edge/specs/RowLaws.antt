-- Laws of rows and edges, for the proofs of all crates: an edge has a row, and each row's edge is among the edges.
use Rattle.std.proofs.Common.{◌≡◌, inl, inr, ℕ, suc, zero, ◌<◌, List, [], ◌∷◌, length, get_or, map, refl, sym, ap}
use Rattle.std.proofs.Common.{subst, ◌∙◌, arith}
use Rattle.wot_types.specs.declared.fpr.Fpr.{Fpr}
use Rattle.wot_edge.specs.declared.edge.EdgeFacts.{EdgeFacts}
use Rattle.wot_edge.specs.Record.{Record, Row, Has, IsRecord, rows_into, edges_into}

pub has_at : {X : Type 0} (xs : List X) (i : ℕ) (d : X) → i < length xs → Has xs (get_or xs i d)
has_at [] i d lt = absurd (omega (arith, lt))
has_at (x ∷ xs) zero d lt = inl refl
has_at (x ∷ xs) (suc i) d lt = inr (has_at xs i d (omega (arith, lt)))

pub row_there : (network : Record) (fpr : Fpr) (edge : EdgeFacts) → Has (edges_into network fpr) edge
    → (row : Row) × Has (rows_into network fpr) row × (row.edge ≡ edge)
row_there network fpr edge h = by (rows_into network fpr) h
  where
    by : (rows : List Row) → Has (map (λ row. row.edge) rows) edge → (row : Row) × Has rows row × (row.edge ≡ edge)
    by [] h = absurd h
    by (x ∷ rows) (inl e) = (x, inl refl, sym e)
    by (x ∷ rows) (inr h) = let r = by rows h in (r.0, inr r.1, r.2)

pub row_edge : (network : Record) (fpr : Fpr) (row : Row) → Has (rows_into network fpr) row
    → Has (edges_into network fpr) row.edge
row_edge network fpr row h = by (rows_into network fpr) h
  where
    by : (rows : List Row) → Has rows row → Has (map (λ r. r.edge) rows) row.edge
    by [] h = absurd h
    by (x ∷ rows) (inl e) = inl (ap (λ (r : Row). r.edge) e)
    by (x ∷ rows) (inr h) = inr (by rows h)

-- an edge into a fingerprint is one of those into its target
pub edge_into : (network : Record) → IsRecord network → (at : Fpr) (edge : EdgeFacts) → Has (edges_into network at) edge
    → Has (edges_into network edge.target) edge × (edge.target ≡ at)
edge_into network good at edge h =
    let r = row_there network at edge h in
    let t : edge.target ≡ at = ap (λ (x : EdgeFacts). x.target) (sym r.2) ∙ good.into at r.0 r.1 in
    (subst (λ (f : Fpr). Has (edges_into network f) edge) (sym t) h, t)

pub edge_known : (network : List ℕ → Record) → ((id : List ℕ) → IsRecord (network id))
    → (at : Fpr) (edges : List EdgeFacts)
    → ((id : List ℕ) → edges ≡ edges_into (network id) at) → (edge : EdgeFacts) → Has edges edge → (id : List ℕ)
    → Has (edges_into (network id) edge.target) edge × (edge.target ≡ at)
edge_known network good at edges e edge h id =
    edge_into (network id) (good id) at edge (subst (λ (xs : List EdgeFacts). Has xs edge) (e id) h)
