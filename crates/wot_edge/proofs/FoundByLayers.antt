-- What the search by layers finds.
use Rattle.std.proofs.Common.{◌≡◌, inl, inr, ℕ, suc, ◌≤◌, Bool, true, false, cond, List, [], ◌∷◌, length, Option, Some}
use Rattle.std.proofs.Common.{None, refl, sym, ap, subst, ◌∙◌, arith, leb-true, le-leb, not}
use Rattle.std.specs.Prelude.{◌&&◌, nat_le, nat_eq}
use Rattle.std.specs.List.{AllByRecursion}
use Rattle.std.proofs.lemmas.Bool.{eqb-true, eq-eqb, not-true, and_parts, and_from}
use Rattle.wot_types.specs.declared.fpr.Fpr.{Fpr}
use Rattle.wot_types.specs.Fpr.{same_fpr}
use Rattle.wot_types.specs.FprLaws.{same_fpr-true, same_fpr-refl}
use Rattle.wot_edge.specs.declared.path.Step.{Step}
use Rattle.wot_edge.specs.Record.{Row, Has, rows_into, entry_at}
use Rattle.wot_edge.specs.Path.{Question, Use, Reaches, start, step_left, step_of}
use Rattle.wot_edge.proofs.Layers.{kept, is_place, reaches, serves, with_rows, grown, first_layer}
use Rattle.wot_edge.proofs.Trail.{Serves}
use Rattle.wot_edge.proofs.Covers.{Covers, CoversAll, IsComplete, IsFound, IsGrown, grown_complete, first_complete}
use Rattle.wot_edge.proofs.Covers.{kept-covers, kept-keeps, kept-all}

-- ---- which edges serve

place-true : (p : Option ℕ) (uid : ℕ) → is_place p uid ≡ true → p ≡ Some uid
place-true None uid e = absurd cc
place-true (Some place) uid e = ap Some (eqb-true place uid e)

true-place : (p : Option ℕ) (uid : ℕ) → p ≡ Some uid → is_place p uid ≡ true
true-place p uid e = subst (λ (x : Option ℕ). is_place x uid ≡ true) (sym e) (eq-eqb uid uid refl)

reaches-true : (q : Question) (row : Row) (rest : List Step) → reaches q row rest ≡ true → Reaches q row rest
reaches-true q row [] e = place-true (entry_at q.network q.target).place row.edge.uid e
reaches-true q row (next ∷ rest) e =
    let a = and_parts (nat_le (length (next ∷ rest)) row.edge.depth)
    (row.scope && not (same_fpr row.edge.issuer q.target)) e in
    let b = and_parts row.scope (not (same_fpr row.edge.issuer q.target)) a.1 in (
      leb-true (length (next ∷ rest)) row.edge.depth a.0,
      b.0,
      λ same. let f =
          not-true (same_fpr row.edge.issuer q.target) b.1 in let g : same_fpr row.edge.issuer q.target ≡ true =
          subst (λ (x : Fpr). same_fpr row.edge.issuer x ≡ true) same (same_fpr-refl row.edge.issuer) in cc,
    )

true-reaches : (q : Question) (row : Row) (rest : List Step) → Reaches q row rest → reaches q row rest ≡ true
true-reaches q row [] r = true-place (entry_at q.network q.target).place row.edge.uid r
true-reaches q row (next ∷ rest) r =
    and_from (nat_le (length (next ∷ rest)) row.edge.depth) _ (le-leb (length (next ∷ rest)) row.edge.depth r.0)
    (and_from row.scope _ r.1 (by (same_fpr row.edge.issuer q.target) (same_fpr-true row.edge.issuer q.target)))
  where
    by : (b : Bool) → (b ≡ true → row.edge.issuer ≡ q.target) → not b ≡ true
    by true f = absurd (r.2 (f refl))
    by false f = refl

pub serves-true : (q : Question) (used : Use) (least : ℕ) (row : Row) (rest : List Step)
    → Has (rows_into q.network (start q.target rest)) row → serves q used least row rest ≡ true
    → Serves q used least (step_of row.edge) rest
serves-true q used least row rest h e =
    let a = and_parts row.usable (nat_le least (step_left used (step_of row.edge)) && reaches q row rest) e in
    let b = and_parts (nat_le least (step_left used (step_of row.edge))) (reaches q row rest) a.1 in
    record {
      stands = record { row = row; into = h; usable = a.0; shown = refl; reaches = reaches-true q row rest b.1 };
      left = leb-true least (step_left used (step_of row.edge)) b.0;
    }

pub true-serves : (q : Question) (used : Use) (least : ℕ) (step : Step) (rest : List Step)
    → (s : Serves q used least step rest) → serves q used least s.stands.row rest ≡ true
true-serves q used least step rest s =
    let row = s.stands.row in
    let left : least ≤ step_left used (step_of row.edge) =
    subst (λ (x : Step). least ≤ step_left used x) (sym s.stands.shown) s.left in
    and_from row.usable _ s.stands.usable
    (and_from (nat_le least (step_left used (step_of row.edge))) (reaches q row rest)
    (le-leb least (step_left used (step_of row.edge)) left) (true-reaches q row rest s.stands.reaches))

-- ---- a layer

module _ (q : Question) (used : Use) (least : ℕ) where
  CoversAll-trans : (xs ys zs : List (List Step)) → CoversAll q.target xs ys → CoversAll q.target ys zs
      → CoversAll q.target xs zs
  CoversAll-trans xs ys zs f g other c = g other (f other c)

  with_rows-keeps : (rest : List Step) (rows : List Row) (found : List (List Step))
      → CoversAll q.target found (with_rows q used least rest rows found)
  with_rows-keeps rest [] found other c = c
  with_rows-keeps rest (row ∷ rows) found other c =
      elim (serves q used least row rest) as
      (λ b. Covers q.target
      (with_rows q used least rest rows (cond b (kept q.target (step_of row.edge ∷ rest) found) found)) other) [
        | true ↦ with_rows-keeps rest rows (kept q.target (step_of row.edge ∷ rest) found) other
            (kept-keeps q.target (step_of row.edge ∷ rest) found other c)
        | false ↦ with_rows-keeps rest rows found other c
      ]

  with_rows-covers : (rest : List Step) (rows : List Row) (found : List (List Step)) (row : Row) → Has rows row
      → serves q used least row rest ≡ true
      → Covers q.target (with_rows q used least rest rows found) (step_of row.edge ∷ rest)
  with_rows-covers rest [] found row h s = absurd h
  with_rows-covers rest (y ∷ rows) found row (inl e) s =
      let t : serves q used least y rest ≡ true = subst (λ (x : Row). serves q used least x rest ≡ true) e s in
      subst (λ (x : Row). Covers q.target (with_rows q used least rest (y ∷ rows) found) (step_of x.edge ∷ rest))
      (sym e)
      (rw t (with_rows-keeps rest rows (kept q.target (step_of y.edge ∷ rest) found) (step_of y.edge ∷ rest)
      (kept-covers q.target (step_of y.edge ∷ rest) found)))
  with_rows-covers rest (y ∷ rows) found row (inr h) s =
      with_rows-covers rest rows (cond (serves q used least y rest) (kept q.target (step_of y.edge ∷ rest) found) found)
      row h s

  -- an edge that serves is found
  with_rows-serves : (rest : List Step) (found : List (List Step)) (step : Step) → Serves q used least step rest
      → Covers q.target (with_rows q used least rest (rows_into q.network (start q.target rest)) found) (step ∷ rest)
  with_rows-serves rest found step s =
      let rows = rows_into q.network (start q.target rest) in
      subst (λ (x : Step). Covers q.target (with_rows q used least rest rows found) (x ∷ rest)) s.stands.shown
      (with_rows-covers rest rows found s.stands.row s.stands.into (true-serves q used least step rest s))

  with_rows-all : (P : List Step → Type 0) (rest : List Step) (rows : List Row) (found : List (List Step))
      → ((row : Row) → Has rows row → serves q used least row rest ≡ true → P (step_of row.edge ∷ rest))
      → AllByRecursion P found → AllByRecursion P (with_rows q used least rest rows found)
  with_rows-all P rest [] found f a = a
  with_rows-all P rest (row ∷ rows) found f a =
      by (λ found' b. with_rows-all P rest rows found' (λ x h. f x (inr h)) b) (serves q used least row rest) refl
    where
      by : ((found' : List (List Step)) → AllByRecursion P found'
          → AllByRecursion P (with_rows q used least rest rows found')) → (b : Bool) → serves q used least row rest ≡ b
          → AllByRecursion P
          (with_rows q used least rest rows (cond b (kept q.target (step_of row.edge ∷ rest) found) found))
      by ih true e =
          ih (kept q.target (step_of row.edge ∷ rest) found)
          (kept-all q.target (step_of row.edge ∷ rest) P found (f row (inl refl) e) a)
      by ih false e = ih found a

  grown-keeps : (size : ℕ) (ps found : List (List Step)) → CoversAll q.target found (grown q used least size ps found)
  grown-keeps size [] found other c = c
  grown-keeps size (p ∷ ps) found other c =
      elim (nat_eq (length p) size) as
      (λ b. Covers q.target
      (grown q used least size ps
      (cond b (with_rows q used least p (rows_into q.network (start q.target p)) found) found)) other) [
        | true ↦ grown-keeps size ps (with_rows q used least p (rows_into q.network (start q.target p)) found) other
            (with_rows-keeps p (rows_into q.network (start q.target p)) found other c)
        | false ↦ grown-keeps size ps found other c
      ]

  grown-grows : (size : ℕ) (ps found : List (List Step))
      → IsGrown q used least size ps (grown q used least size ps found)
  grown-grows size [] found rows h e row s = absurd h
  grown-grows size (p ∷ ps) found rows (inl f) e row s =
      let t : nat_eq (length p) size ≡ true = eq-eqb (length p) size (ap length (sym f) ∙ e) in
      let s' : Serves q used least row p = subst (Serves q used least row) f s in
      subst (λ (x : List Step). Covers q.target (grown q used least size (p ∷ ps) found) (row ∷ x)) (sym f)
      (rw t (grown-keeps size ps (with_rows q used least p (rows_into q.network (start q.target p)) found) (row ∷ p)
      (with_rows-serves p found row s')))
  grown-grows size (p ∷ ps) found rows (inr h) e row s =
      grown-grows size ps
      (cond (nat_eq (length p) size) (with_rows q used least p (rows_into q.network (start q.target p)) found) found) rows
      h e row s

  grown-all : (size : ℕ) (ps found : List (List Step)) → AllByRecursion (IsFound q used least size) ps
      → AllByRecursion (IsFound q used least (suc size)) found
      → AllByRecursion (IsFound q used least (suc size)) (grown q used least size ps found)
  grown-all size [] found a b = b
  grown-all size (p ∷ ps) found a b =
      elim (nat_eq (length p) size) as
      (λ t. AllByRecursion (IsFound q used least (suc size))
      (grown q used least size ps
      (cond t (with_rows q used least p (rows_into q.network (start q.target p)) found) found))) [
        | true ↦ grown-all size ps (with_rows q used least p (rows_into q.network (start q.target p)) found) a.1
            (with_rows-all (IsFound q used least (suc size)) p (rows_into q.network (start q.target p)) found
            (λ row h e. record {
              some = omega arith;
              few = let f = a.0.few in
                  omega arith;
              trail = (serves-true q used least row p h e, a.0.trail);
            }) b)
        | false ↦ grown-all size ps found a.1 b
      ]

  found_more : (size : ℕ) (xs : List (List Step)) → AllByRecursion (IsFound q used least size) xs
      → AllByRecursion (IsFound q used least (suc size)) xs
  found_more size [] a = tt
  found_more size (x ∷ xs) a =
      (record { some = a.0.some; few = let f = a.0.few in omega arith; trail = a.0.trail }, found_more size xs a.1)

  pub first_found : AllByRecursion (IsFound q used least 1) (first_layer q used least)
  first_found =
      with_rows-all (IsFound q used least 1) [] (rows_into q.network q.target) []
      (λ row h e. record { some = omega arith; few = omega arith; trail = (serves-true q used least row [] h e, tt) })
      tt

  pub first_layer_complete : IsComplete q used least 1 (first_layer q used least)
  first_layer_complete = first_complete q used least (first_layer q used least) (λ row s. with_rows-serves [] [] row s)

  pub grown_found : (size : ℕ) (found : List (List Step)) → AllByRecursion (IsFound q used least size) found
      → AllByRecursion (IsFound q used least (suc size)) (grown q used least size found found)
  grown_found size found a = grown-all size found found a (found_more size found a)

  pub grown_is_complete : (size : ℕ) (found : List (List Step)) → 1 ≤ size
      → AllByRecursion (IsFound q used least size) found → IsComplete q used least size found
      → IsComplete q used least (suc size) (grown q used least size found found)
  grown_is_complete size found pos a c =
      grown_complete q used least size found (grown q used least size found found) pos a c
      (grown-keeps size found found) (grown-grows size found found)
