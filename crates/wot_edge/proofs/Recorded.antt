-- A record whose rows are in order is lawful.
use Rattle.std.proofs.Common.{◌≡◌, inl, inr, Bool, true, false, cond, List, [], ◌∷◌, map, Some, refl, sym, ap, subst}
use Rattle.std.proofs.Common.{◌∙◌}
use Rattle.std.specs.declared.cmp.Ordering.TheVariants.{Less, Equal}
use Rattle.std.specs.Ordering.{nat_cmp, ordering_then}
use Rattle.std.specs.Option.{unwrap_or}
use Rattle.std.specs.Map.{lookup}
use Rattle.std.specs.BTreeMap.{is_at}
use Rattle.std.specs.List.{AllByRecursion}
use Rattle.std.specs.List.Sorted.{IsStrictlySortedBy}
use Rattle.std.specs.Cmp.{IsTotalOrder}
use Rattle.std.proofs.lemmas.Cmp.{tied_itself, nat_cmp_total, on_total, then_total}
use Rattle.wot_types.specs.declared.fpr.Fpr.{Fpr}
use Rattle.wot_types.specs.Fpr.{fpr_cmp, same_fpr}
use Rattle.wot_types.specs.FprLaws.{same_fpr-true, fpr_total}
use Rattle.wot_edge.specs.declared.edge.EdgeFacts.{EdgeFacts}
use Rattle.wot_edge.specs.Order.{edge_cmp}
use Rattle.wot_edge.specs.Record.{Has, Row, Record, IsRecord, blank, rows_into, edges_into}
use Rattle.wot_edge.specs.Lawful.{AreEntries, AreRows}

pub edge_total : IsTotalOrder edge_cmp
edge_total = then_total (on_total (λ edge. edge.issuer) fpr_total) (on_total (λ edge. edge.uid) nat_cmp_total)

has_edge : (rows : List Row) (row : Row) → Has rows row → Has (map (λ (r : Row). r.edge) rows) row.edge
has_edge [] row h = absurd h
has_edge (x ∷ rows) row (inl e) = inl (ap (λ (r : Row). r.edge) e)
has_edge (x ∷ rows) row (inr h) = inr (has_edge rows row h)

all_has : {X : Type 0} (P : X → Type 0) (xs : List X) (x : X) → AllByRecursion P xs → Has xs x → P x
all_has P [] x all h = absurd h
all_has P (y ∷ xs) x all (inl e) = subst P (sym e) all.0
all_has P (y ∷ xs) x all (inr h) = all_has P xs x all.1 h

apart : (x y : EdgeFacts) → edge_cmp x y ≡ Less → x.issuer ≡ y.issuer → x.uid ≡ y.uid → ⊥
apart x y less e f =
    let same : edge_cmp x x ≡ edge_cmp x y = λ i. ordering_then (fpr_cmp x.issuer (e i)) (nat_cmp x.uid (f i)) in
    let tie = tied_itself edge_total x in
    let clash : Less ≡ Equal = sym less ∙ sym same ∙ tie in cc

-- the first row isn't one of the later ones' issuer and user ID
first_apart : (z : Row) (rows : List Row) (y : Row)
    → AllByRecursion (λ (w : EdgeFacts). edge_cmp z.edge w ≡ Less) (map (λ (r : Row). r.edge) rows) → Has rows y
    → z.edge.issuer ≡ y.edge.issuer → z.edge.uid ≡ y.edge.uid → ⊥
first_apart z rows y all h e f =
    apart z.edge y.edge
    (all_has (λ (w : EdgeFacts). edge_cmp z.edge w ≡ Less) (map (λ (r : Row). r.edge) rows) y.edge all
    (has_edge rows y h)) e f

rows_one : (rows : List Row) → IsStrictlySortedBy edge_cmp (map (λ (r : Row). r.edge) rows) → (x y : Row) → Has rows x
    → Has rows y → x.edge.issuer ≡ y.edge.issuer → x.edge.uid ≡ y.edge.uid → x ≡ y
unfolding IsStrictlySortedBy
rows_one [] s x y h k e f = absurd h
rows_one (z ∷ rows) s x y (inl h) (inl k) e f = h ∙ sym k
rows_one (z ∷ rows) s x y (inl h) (inr k) e f =
    absurd (first_apart z rows y s.0 k (ap (λ (w : Row). w.edge.issuer) (sym h) ∙ e)
    (ap (λ (w : Row). w.edge.uid) (sym h) ∙ f))
rows_one (z ∷ rows) s x y (inr h) (inl k) e f =
    absurd (first_apart z rows x s.0 h (ap (λ (w : Row). w.edge.issuer) (sym k) ∙ sym e)
    (ap (λ (w : Row). w.edge.uid) (sym k) ∙ sym f))
rows_one (z ∷ rows) s x y (inr h) (inr k) e f = rows_one rows s.1 x y h k e f

pub no_rows : (fpr : Fpr) → AreRows fpr []
unfolding IsStrictlySortedBy
no_rows fpr = record { into = λ x h. absurd h; order = tt }

entry_rows : (network : Record) (fpr : Fpr) → AreEntries network → AreRows fpr (edges_into network fpr)
entry_rows [] fpr all = no_rows fpr
entry_rows (t ∷ network) fpr all = by (entry_rows network fpr all.1) (same_fpr fpr t.0) refl
  where
    by : AreRows fpr (edges_into network fpr) → (b : Bool) → same_fpr fpr t.0 ≡ b
        → AreRows fpr
        (map (λ (r : Row). r.edge) (unwrap_or (cond b (Some t.1) (lookup (is_at (fpr_cmp fpr)) network)) blank).rows)
    by ih true f =
        subst (λ (x : Fpr). AreRows x (map (λ (r : Row). r.edge) t.1.rows)) (sym (same_fpr-true fpr t.0 f)) all.0
    by ih false f = ih

pub is_record : (network : Record) → AreEntries network → IsRecord network
is_record network all = record {
  into = λ fpr row h. (entry_rows network fpr all).into row.edge (has_edge (rows_into network fpr) row h);
  one = λ fpr x y h k e f. rows_one (rows_into network fpr) (entry_rows network fpr all).order x y h k e f;
}
