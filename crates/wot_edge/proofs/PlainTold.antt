-- What networks in memory say.
use Rattle.std.proofs.Common.{◌≡◌, inl, inr, ℕ, Bool, true, false, cond, List, [], ◌∷◌, map, Ordering, Option, Some}
use Rattle.std.proofs.Common.{None, refl, sym, ap, subst, ◌∙◌, length, arith}
use Rattle.std.specs.declared.cmp.Ordering.TheVariants.{Less, Equal, Greater}
use Rattle.std.specs.Ordering.{is_lt, match_ordering}
use Rattle.std.specs.Option.{unwrap_or, option_map}
use Rattle.std.specs.Map.{lookup}
use Rattle.std.specs.BTreeMap.{is_at, insert_entry}
use Rattle.std.specs.List.{AllByRecursion, slice_get}
use Rattle.std.specs.List.Sorted.{IsStrictlySortedBy}
use Rattle.std.proofs.lemmas.Map.Made.{lookup-map_values}
use Rattle.wot_types.specs.declared.fpr.Fpr.{Fpr}
use Rattle.wot_types.specs.Fpr.{fpr_cmp, same_fpr}
use Rattle.wot_types.specs.FprLaws.{same_fpr-true, same_fpr-refl, fpr_exact}
use Rattle.wot_edge.specs.declared.edge.EdgeFacts.{EdgeFacts}
use Rattle.wot_edge.specs.Order.{edge_cmp}
use Rattle.wot_edge.specs.Record.{Has, Row, Entry, IsRecord, blank, entry_at, rows_into, edges_into}
use Rattle.wot_edge.specs.Lawful.{AreEntries, AreRows}
use Rattle.wot_edge.specs.Plain.{Line, Plain, octet_place, row_of, entry_of, network_for, AreLines, MayPrecede}
use Rattle.wot_edge.specs.StepLaws.{is_lt-Less}
use Rattle.wot_edge.proofs.Recorded.{is_record, no_rows, edge_total}

-- ---- what is known of a fingerprint

told_at : (plain : Plain) (uid : List ℕ) (fpr : Fpr)
    → entry_at (network_for plain uid) fpr ≡ unwrap_or
    (option_map (entry_of plain.inside (octet_place uid)) (lookup (is_at (fpr_cmp fpr)) plain.lines)) blank
told_at plain uid fpr =
    ap (λ (found : Option Entry). unwrap_or found blank)
    (lookup-map_values (entry_of plain.inside (octet_place uid)) (is_at (fpr_cmp fpr)) plain.lines)

pub told_line : (plain : Plain) (uid : List ℕ) (fpr : Fpr) (line : Line)
    → lookup (is_at (fpr_cmp fpr)) plain.lines ≡ Some line
    → entry_at (network_for plain uid) fpr ≡ entry_of plain.inside (octet_place uid) line
told_line plain uid fpr line e =
    told_at plain uid fpr
    ∙ ap (λ (found : Option Line). unwrap_or (option_map (entry_of plain.inside (octet_place uid)) found) blank) e

pub told_none : (plain : Plain) (uid : List ℕ) (fpr : Fpr) → lookup (is_at (fpr_cmp fpr)) plain.lines ≡ None
    → entry_at (network_for plain uid) fpr ≡ blank
told_none plain uid fpr e =
    told_at plain uid fpr
    ∙ ap (λ (found : Option Line). unwrap_or (option_map (entry_of plain.inside (octet_place uid)) found) blank) e

row_edges : (inside : ℕ) (place : Option ℕ) (edges : List EdgeFacts)
    → map (λ row. row.edge) (map (row_of inside place) edges) ≡ edges
row_edges inside place [] = refl
row_edges inside place (edge ∷ edges) = ap (λ (rest : List EdgeFacts). edge ∷ rest) (row_edges inside place edges)

pub line_edges : (plain : Plain) (uid : List ℕ) (fpr : Fpr) (line : Line)
    → lookup (is_at (fpr_cmp fpr)) plain.lines ≡ Some line → edges_into (network_for plain uid) fpr ≡ line.edges
line_edges plain uid fpr line e =
    ap (λ (entry : Entry). map (λ row. row.edge) entry.rows) (told_line plain uid fpr line e)
    ∙ row_edges plain.inside (octet_place uid) line.edges

pub no_edges : (plain : Plain) (uid : List ℕ) (fpr : Fpr) → lookup (is_at (fpr_cmp fpr)) plain.lines ≡ None
    → edges_into (network_for plain uid) fpr ≡ []
no_edges plain uid fpr e = ap (λ (entry : Entry). map (λ row. row.edge) entry.rows) (told_none plain uid fpr e)

row_made : (inside : ℕ) (place : Option ℕ) (edges : List EdgeFacts) (row : Row)
    → Has (map (row_of inside place) edges) row → Has edges row.edge × (row ≡ row_of inside place row.edge)
row_made inside place [] row h = absurd h
row_made inside place (edge ∷ edges) row (inl e) =
    let same : row.edge ≡ edge = ap (λ (r : Row). r.edge) e in
    (inl same, e ∙ ap (row_of inside place) (sym same))
row_made inside place (edge ∷ edges) row (inr h) = let m = row_made inside place edges row h in (inr m.0, m.1)

-- each row is one that the line makes
told_row : (plain : Plain) (uid : List ℕ) (fpr : Fpr) (row : Row) → Has (rows_into (network_for plain uid) fpr) row
    → (line : Line) × (lookup (is_at (fpr_cmp fpr)) plain.lines ≡ Some line) × Has line.edges row.edge
    × (row ≡ row_of plain.inside (octet_place uid) row.edge)
told_row plain uid fpr row h = by (lookup (is_at (fpr_cmp fpr)) plain.lines) refl
  where
    by : (found : Option Line) → lookup (is_at (fpr_cmp fpr)) plain.lines ≡ found
        → (line : Line) × (lookup (is_at (fpr_cmp fpr)) plain.lines ≡ Some line) × Has line.edges row.edge
        × (row ≡ row_of plain.inside (octet_place uid) row.edge)
    by None e = absurd (subst (λ (entry : Entry). Has entry.rows row) (told_none plain uid fpr e) h)
    by (Some line) e =
        let m = row_made plain.inside (octet_place uid) line.edges row
        (subst (λ (entry : Entry). Has entry.rows row) (told_line plain uid fpr line e) h) in (line, e, m.0, m.1)

pub told_made : (plain : Plain) (uid : List ℕ) (fpr : Fpr) (row : Row) → Has (rows_into (network_for plain uid) fpr) row
    → row ≡ row_of plain.inside (octet_place uid) row.edge
told_made plain uid fpr row h = (told_row plain uid fpr row h).3

-- ---- the record is one

pub line_rows : (lines : List (Fpr × Line)) (fpr : Fpr) (line : Line) → AreLines lines
    → lookup (is_at (fpr_cmp fpr)) lines ≡ Some line → AreRows fpr line.edges
line_rows [] fpr line all e = absurd cc
line_rows (l ∷ lines) fpr line all e = by (λ f. line_rows lines fpr line all.1 f) (same_fpr fpr l.0) refl e
  where
    by : (lookup (is_at (fpr_cmp fpr)) lines ≡ Some line → AreRows fpr line.edges) → (b : Bool) → same_fpr fpr l.0 ≡ b
        → cond b (Some l.1) (lookup (is_at (fpr_cmp fpr)) lines) ≡ Some line → AreRows fpr line.edges
    by ih true f e =
        let same : l.1 ≡ line = cc in
        subst (λ (x : Line). AreRows fpr x.edges) same
        (subst (λ (x : Fpr). AreRows x l.1.edges) (sym (same_fpr-true fpr l.0 f)) all.0)
    by ih false f e = ih e

lines_entries : (inside : ℕ) (place : Option ℕ) (lines : List (Fpr × Line)) → AreLines lines
    → AreEntries (map (λ e. (e.0, entry_of inside place e.1)) lines)
lines_entries inside place [] all = tt
lines_entries inside place (l ∷ lines) all =
    (subst (AreRows l.0) (sym (row_edges inside place l.1.edges)) all.0, lines_entries inside place lines all.1)

pub told_is_record : (plain : Plain) (uid : List ℕ) → AreLines plain.lines → IsRecord (network_for plain uid)
told_is_record plain uid all = is_record (network_for plain uid) (lines_entries plain.inside (octet_place uid) plain.lines all)

-- ---- rows, checked one by one

below_all : (edge : EdgeFacts) (next : EdgeFacts) (rest : List EdgeFacts) → edge_cmp edge next ≡ Less
    → AllByRecursion (λ y. edge_cmp next y ≡ Less) rest → AllByRecursion (λ y. edge_cmp edge y ≡ Less) rest
below_all edge next [] less all = tt
below_all edge next (y ∷ rest) less all = (edge_total.trans edge next y less all.0, below_all edge next rest less all.1)

pub rows_before : (fpr : Fpr) (edge : EdgeFacts) (later : List EdgeFacts) → MayPrecede fpr edge later
    → AreRows fpr later → AreRows fpr (edge ∷ later)
unfolding IsStrictlySortedBy
rows_before fpr edge [] m r =
    record {
      into = λ x h. elim h [ inl e ↦ ap (λ (w : EdgeFacts). w.target) e ∙ m | inr h' ↦ absurd h' ];
      order = (tt, tt);
    }
rows_before fpr edge (next ∷ rest) m r = record {
  into = λ x h. elim h [ inl e ↦ ap (λ (w : EdgeFacts). w.target) e ∙ m.0 | inr h' ↦ r.into x h' ];
  order = ((m.1, below_all edge next rest m.1 r.order.0), r.order);
}

-- the first of some rows may come before the rest, which are rows
pub rows_first : (fpr : Fpr) (edge : EdgeFacts) (later : List EdgeFacts) → AreRows fpr (edge ∷ later)
    → MayPrecede fpr edge later
unfolding IsStrictlySortedBy
rows_first fpr edge [] r = r.into edge (inl refl)
rows_first fpr edge (next ∷ rest) r = (r.into edge (inl refl), r.order.0.0)

pub rows_rest : (fpr : Fpr) (edge : EdgeFacts) (later : List EdgeFacts) → AreRows fpr (edge ∷ later) → AreRows fpr later
unfolding IsStrictlySortedBy
rows_rest fpr edge later r = record { into = λ x h. r.into x (inr h); order = r.order.1 }

pub lines_put : (lines : List (Fpr × Line)) (fpr : Fpr) (line : Line) → AreLines lines → AreRows fpr line.edges
    → AreLines (insert_entry fpr_cmp lines fpr line)
lines_put [] fpr line all r = (r, tt)
lines_put (l ∷ lines) fpr line all r = by (lines_put lines fpr line all.1 r) (fpr_cmp fpr l.0) refl
  where
    by : AreLines (insert_entry fpr_cmp lines fpr line) → (o : Ordering) → fpr_cmp fpr l.0 ≡ o
        → AreLines (match_ordering o ((fpr, line) ∷ l ∷ lines) ((l.0, line) ∷ lines)
        (l ∷ insert_entry fpr_cmp lines fpr line))
    by ih Less e = (r, all)
    by ih Equal e = (subst (λ (x : Fpr). AreRows x line.edges) (fpr_exact fpr l.0 e) r, all.1)
    by ih Greater e = (all.0, ih)

may_target : (fpr : Fpr) (edge : EdgeFacts) (later : List EdgeFacts) → MayPrecede fpr edge later → edge.target ≡ fpr
may_target fpr edge [] m = m
may_target fpr edge (next ∷ later) m = m.0

pub may_other : (fpr : Fpr) (edge : EdgeFacts) (later : List EdgeFacts) → same_fpr edge.target fpr ≡ false
    → MayPrecede fpr edge later → ⊥
may_other fpr edge later f m =
    (let g : same_fpr fpr fpr ≡ false = subst (λ (x : Fpr). same_fpr x fpr ≡ false) (may_target fpr edge later m) f in
    let h : true ≡ false = sym (same_fpr-refl fpr) ∙ g in absurd cc)

pub may_less : (fpr : Fpr) (edge next : EdgeFacts) (later : List EdgeFacts) → Some next ≡ slice_get later 0
    → MayPrecede fpr edge later → is_lt (edge_cmp edge next) ≡ true
may_less fpr edge next [] e m = absurd cc
may_less fpr edge next (x ∷ later) e m =
    let same : next ≡ x = cc in ap is_lt (subst (λ (y : EdgeFacts). edge_cmp edge y ≡ Less) (sym same) m.1)

pub may_first : (fpr : Fpr) (edge next : EdgeFacts) (later : List EdgeFacts) → Some next ≡ slice_get later 0
    → edge.target ≡ fpr → is_lt (edge_cmp edge next) ≡ true → MayPrecede fpr edge later
may_first fpr edge next [] e t less = absurd cc
may_first fpr edge next (x ∷ later) e t less =
    let same : next ≡ x = cc in
    (t, subst (λ (y : EdgeFacts). edge_cmp edge y ≡ Less) same (is_lt-Less (edge_cmp edge next) less))

pub may_last : (fpr : Fpr) (edge : EdgeFacts) (later : List EdgeFacts) → None ≡ slice_get later 0 → edge.target ≡ fpr
    → MayPrecede fpr edge later
may_last fpr edge [] e t = t
may_last fpr edge (x ∷ later) e t = absurd cc

pub rows_end : (fpr : Fpr) (edges : List EdgeFacts) → length edges ≡ 0 → AreRows fpr edges
rows_end fpr [] e = no_rows fpr
rows_end fpr (x ∷ edges) e = absurd (omega (arith, e))
