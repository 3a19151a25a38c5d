-- Laws of agreement: if two questions agree on a set that has the target, they say the same of steps whose issuers are
-- all in the set. For the proofs of all crates.
use Rattle.std.proofs.Common.{◌≡◌, inl, inr, ℕ, ◌<◌, ◌-◌, Bool, List, [], ◌∷◌, map, Some, sym, ap, subst, ◌∙◌}
use Rattle.std.proofs.Common.{refl, arith}
use Rattle.wot_types.specs.declared.fpr.Fpr.{Fpr}
use Rattle.wot_edge.specs.declared.edge.EdgeFacts.{EdgeFacts}
use Rattle.wot_edge.specs.declared.path.Step.{Step}
use Rattle.wot_edge.specs.Agree.{Agree, scoped_edge}
use Rattle.wot_edge.specs.Path.{Chain, IsValid, Question, Reaches, Stands, Use, least_left, path_amount, root_left}
use Rattle.wot_edge.specs.Path.{start, step_of}
use Rattle.wot_edge.specs.Record.{Has, Row, entry_at, rows_into}
use Rattle.wot_edge.specs.Roots.{root_amount}

pub agree_back : (q other : Question) (set : List Fpr) → Agree q other set → Agree other q set
agree_back q other set a = record {
  target = sym a.target;
  rows = λ fpr h. sym (a.rows fpr h);
  place = λ fpr h. sym (a.place fpr h);
  in_order = λ fpr h. sym (a.in_order fpr h);
  usable = λ fpr h x y into from e issuer. sym
      (a.usable fpr h y x from into (sym e) (subst (λ (z : EdgeFacts). Has set z.issuer) e issuer));
  roots = λ fpr h. sym (a.roots fpr h);
}

-- the row of the same edge and scope in another list
twin : (xs ys : List Row) (x : Row) → map scoped_edge xs ≡ map scoped_edge ys → Has xs x
    → (y : Row) × Has ys y × (x.edge ≡ y.edge) × (x.scope ≡ y.scope)
twin [] ys x e h = absurd h
twin (z ∷ xs) [] x e h = absurd cc
twin (z ∷ xs) (y ∷ ys) x e (inl f) =
    let a : scoped_edge z ≡ scoped_edge y = cc in (
      y,
      inl refl,
      ap (λ (r : Row). r.edge) f ∙ ap (λ (p : EdgeFacts × Bool). p.0) a,
      ap (λ (r : Row). r.scope) f ∙ ap (λ (p : EdgeFacts × Bool). p.1) a,
    )
twin (z ∷ xs) (y ∷ ys) x e (inr h) =
    let e' : map scoped_edge xs ≡ map scoped_edge ys = cc in let t = twin xs ys x e' h in (t.0, inr t.1, t.2, t.3)

-- the issuers of the steps are in the set
abbrev pub AreFrom : List Fpr → List Step → Type 0
AreFrom set steps = (step : Step) → Has steps step → Has set step.issuer

pub later_from : (set : List Fpr) (step : Step) (rest : List Step) → AreFrom set (step ∷ rest) → AreFrom set rest
later_from set step rest from x h = from x (inr h)

-- a row into the fingerprint that is of an edge
pub record IsRowOf (q : Question) (at : Fpr) (x : Row) : Type 0 where
  pub row : Row
  pub into : Has (rows_into q.network at) row
  pub edge : x.edge ≡ row.edge
  pub scope : x.scope ≡ row.scope
  pub usable : x.usable ≡ row.usable

module _ (q other : Question) (set : List Fpr) (agree : Agree q other set) where
  -- the row of the same edge into a member, without regard to the issuer
  pub edge_there : (at : Fpr) (x : Row) → Has set at → Has (rows_into q.network at) x
      → (y : Row) × Has (rows_into other.network at) y × (x.edge ≡ y.edge) × (x.scope ≡ y.scope)
  edge_there at x h into = twin (rows_into q.network at) (rows_into other.network at) x (agree.rows at h) into

  -- A row from a member into a member is one there too, with the same scope, and usable in both or in neither.
  pub row_there : (at : Fpr) (x : Row) → Has set at → Has set x.edge.issuer → Has (rows_into q.network at) x
      → IsRowOf other at x
  row_there at x h from into =
      let y = edge_there at x h into in
      record {
        row = y.0;
        into = y.1;
        edge = y.2;
        scope = y.3;
        usable = agree.usable at h x y.0 into y.1 y.2 from;
      }

  pub start_same : (steps : List Step) → start q.target steps ≡ start other.target steps
  start_same [] = agree.target
  start_same (step ∷ rest) = refl

  module _ (here : Has set q.target) where
    pub place_same : (entry_at q.network q.target).place ≡ (entry_at other.network other.target).place
    place_same = agree.place q.target here ∙ ap (λ (f : Fpr). (entry_at other.network f).place) agree.target

    pub in_order_same : (entry_at q.network q.target).in_order ≡ (entry_at other.network other.target).in_order
    in_order_same = agree.in_order q.target here ∙ ap (λ (f : Fpr). (entry_at other.network f).in_order) agree.target

    pub start_in : (steps : List Step) → AreFrom set steps → Has set (start q.target steps)
    start_in [] from = here
    start_in (step ∷ rest) from = from step (inl refl)

    reaches_there : (x y : Row) (rest : List Step) → x.edge ≡ y.edge → x.scope ≡ y.scope → Reaches q x rest
        → Reaches other y rest
    reaches_there x y [] e c r = sym place_same ∙ r ∙ ap (λ (z : EdgeFacts). Some z.uid) e
    reaches_there x y (next ∷ rest) e c r = (
      let d = ap (λ (z : EdgeFacts). z.depth) e in let m = r.0 in omega (arith, d, m),
      sym c ∙ r.1,
      λ f. r.2 (ap (λ (z : EdgeFacts). z.issuer) e ∙ f ∙ sym agree.target),
    )

    pub stands_there : (step : Step) (rest : List Step) → AreFrom set (step ∷ rest) → Stands q step rest
        → Stands other step rest
    stands_there step rest from s =
        let issuer = subst (λ (z : Step). Has set z.issuer) (sym s.shown) (from step (inl refl)) in
        let y = row_there (start q.target rest) s.row (start_in rest (later_from set step rest from)) issuer s.into in
        record {
          row = y.row;
          into = subst (λ (f : Fpr). Has (rows_into other.network f) y.row) (start_same rest) y.into;
          usable = sym y.usable ∙ s.usable;
          shown = ap step_of (sym y.edge) ∙ s.shown;
          reaches = reaches_there s.row y.row rest y.edge y.scope s.reaches;
        }

    chain_there : (steps : List Step) → AreFrom set steps → Chain q steps → Chain other steps
    chain_there [] from c = tt
    chain_there (step ∷ rest) from c =
        (stands_there step rest from c.0, chain_there rest (later_from set step rest from) c.1)

    pub valid_there : (steps : List Step) → AreFrom set steps → IsValid q steps → IsValid other steps
    valid_there steps from v = record {
      some = v.some;
      few = v.few;
      chain = chain_there steps from v.chain;
      distinct = v.distinct;
      root = subst (λ (m : ℕ). 0 < m) (root_same steps from) v.root;
      in_order = sym in_order_same ∙ v.in_order;
    }
      where
        root_same : (steps : List Step) → AreFrom set steps
            → root_amount q.roots (start q.target steps) ≡ root_amount other.roots (start other.target steps)
        root_same steps from =
            agree.roots (start q.target steps) (start_in steps from) ∙ ap (root_amount other.roots) (start_same steps)

    pub amount_same : (used : Use) (steps : List Step) → AreFrom set steps
        → path_amount q used steps ≡ path_amount other used steps
    amount_same used steps from =
        ap (λ (m : ℕ). least_left used (m - used.root (start q.target steps)) steps)
        (agree.roots (start q.target steps) (start_in steps from))
        ∙ ap (λ (f : Fpr). least_left used (root_left other used f) steps) (start_same steps)
