-- Claimed steps, one after the other.
use Rattle.std.proofs.Common.{◌≡◌, ℕ, suc, ◌<◌, true, false, List, [], ◌∷◌, ◌++◌, length, map, Some, None, refl, sym}
use Rattle.std.proofs.Common.{ap, subst, ◌∙◌, arith, append_assoc}
use Rattle.std.proofs.lemmas.List.{append-nil}
use Rattle.std.specs.Prelude.{nat_eq}
use Rattle.std.proofs.lemmas.Bool.{eqb-true, eq-eqb, and_parts, and_from}
use Rattle.wot_types.specs.declared.fpr.Fpr.{Fpr}
use Rattle.wot_types.specs.Fpr.{same_fpr}
use Rattle.wot_types.specs.FprLaws.{same_fpr-true, same_fpr-refl}
use Rattle.wot_edge.specs.declared.edge.EdgeFacts.{EdgeFacts}
use Rattle.wot_edge.specs.declared.path.Step.{Step}
use Rattle.wot_edge.specs.Record.{Row, Has, IsRecord, rows_into, edges_into}
use Rattle.wot_edge.specs.Path.{Question, Use, Stands, start, step_of, step_left}
use Rattle.wot_check.specs.declared.claimed.ClaimedStep.{ClaimedStep}
use Rattle.wot_check.specs.Claim.{claimed_step}
use Rattle.wot_edge.specs.Demand.{demand_of}
use Rattle.wot_check.specs.Demand.{may_stand}
use Rattle.wot_check.specs.Trace.{begin_of, Follows, Traces, IsNamed, IsFollower, has_name}
use Rattle.wot_check.proofs.Demands.{stands_reaches, reaches_stands}
use Rattle.wot_edge.specs.RowLaws.{row_edge}
use Rattle.wot_check.proofs.Trails.{Trail}

-- ---- names

pub has_name-true : (item : ClaimedStep) (edge : EdgeFacts) → has_name item edge ≡ true → IsNamed item edge
has_name-true item edge e =
    let a = and_parts (same_fpr edge.issuer item.issuer) (nat_eq edge.uid item.place) e in
    (same_fpr-true edge.issuer item.issuer a.0, eqb-true edge.uid item.place a.1)

pub true-has_name : (item : ClaimedStep) (edge : EdgeFacts) → IsNamed item edge → has_name item edge ≡ true
true-has_name item edge n =
    and_from (same_fpr edge.issuer item.issuer) (nat_eq edge.uid item.place)
    (subst (λ (x : Fpr). same_fpr edge.issuer x ≡ true) n.0 (same_fpr-refl edge.issuer))
    (eq-eqb edge.uid item.place n.1)

-- ---- one step

pub named_edge : (item : ClaimedStep) (row : Row) → item ≡ claimed_step (step_of row.edge) → IsNamed item row.edge
named_edge item row e = (ap (λ (x : ClaimedStep). x.issuer) (sym e), ap (λ (x : ClaimedStep). x.place) (sym e))

pub edge_named : (item : ClaimedStep) (edge : EdgeFacts) → IsNamed item edge → item ≡ claimed_step (step_of edge)
edge_named item edge n = λ i. record { issuer = sym n.0 i; place = sym n.1 i }

-- these steps were found, and the items are still to be processed
pub record Traced (q : Question) (used : Use) (items : List ClaimedStep) (steps : List Step)
    (rest : List ClaimedStep) : Type 0 where
  pub goes : (more : List Step) → Traces q used rest more → Traces q used items (steps ++ more)
  pub only : (all : List Step) → Traces q used items all
      → (more : List Step) × (all ≡ steps ++ more) × Traces q used rest more

module _ (q : Question) (used : Use) (good : IsRecord q.network) where
  row_one : (at : Fpr) (x y : Row) (item : ClaimedStep) → Has (rows_into q.network at) x → Has (rows_into q.network at) y
      → IsNamed item x.edge → IsNamed item y.edge → x ≡ y
  row_one at x y item h k m n = good.one at x y h k (m.0 ∙ sym n.0) (m.1 ∙ sym n.1)

  follows_named : (item : ClaimedStep) (later : List ClaimedStep) (step : Step) → (f : Follows q used item later step)
      → IsNamed item f.row.edge
  follows_named item later step f = named_edge item f.row (f.same ∙ ap claimed_step (sym f.shown))

  follows_one : (item : ClaimedStep) (later : List ClaimedStep) (s t : Step) → Follows q used item later s
      → Follows q used item later t → s ≡ t
  follows_one item later s t f g =
      let same = row_one (begin_of q.target later) f.row g.row item f.into g.into (follows_named item later s f)
      (follows_named item later t g) in
      sym f.shown ∙ ap (λ (row : Row). step_of row.edge) same ∙ g.shown

  pub traces_one : (items : List ClaimedStep) (a b : List Step) → Traces q used items a → Traces q used items b → a ≡ b
  traces_one [] [] [] t u = refl
  traces_one [] [] (y ∷ b) t u = absurd u
  traces_one [] (x ∷ a) b t u = absurd t
  traces_one (item ∷ later) [] b t u = absurd t
  traces_one (item ∷ later) (x ∷ a) [] t u = absurd u
  traces_one (item ∷ later) (x ∷ a) (y ∷ b) t u =
      ap (λ (z : Step). z ∷ a) (follows_one item later x y t.0 u.0)
      ∙ ap (λ (z : List Step). y ∷ z) (traces_one later a b t.1 u.1)

  -- no edge is named so
  pub none_named : (item : ClaimedStep) (later : List ClaimedStep) (at : Fpr) (edges : List EdgeFacts)
      → at ≡ begin_of q.target later → edges ≡ edges_into q.network at
      → ((edge : EdgeFacts) → Has edges edge → IsNamed item edge → ⊥) → IsFollower q used item later None
  none_named item later at edges a e none step f =
      let h = subst (λ (x : Fpr). Has (edges_into q.network x) f.row.edge) (sym a)
      (row_edge q.network (begin_of q.target later) f.row f.into) in
      none f.row.edge (subst (λ (xs : List EdgeFacts). Has xs f.row.edge) (sym e) h) (follows_named item later step f)

  module _ (item : ClaimedStep) (later : List ClaimedStep) (row : Row)
      (into : Has (rows_into q.network (begin_of q.target later)) row) (named : IsNamed item row.edge) where
    pub row_follows : may_stand q.target used (demand_of q (length later)) row ≡ true
        → IsFollower q used item later (Some (step_of row.edge))
    row_follows s = record { row = row; into = into; shown = refl; same = edge_named item row.edge named; carries = s }

    pub row_fails : may_stand q.target used (demand_of q (length later)) row ≡ false → IsFollower q used item later None
    row_fails s step f =
        let same = row_one (begin_of q.target later) f.row row item f.into into (follows_named item later step f)
        named in
        let t : may_stand q.target used (demand_of q (length later)) row ≡ true =
        subst (λ (r : Row). may_stand q.target used (demand_of q (length later)) r ≡ true) same f.carries in
        cc

  -- ---- so far

  pub traced_none : (items : List ClaimedStep) (steps : List Step) → steps ≡ [] → Traced q used items steps items
  traced_none items steps e =
      subst (λ (xs : List Step). Traced q used items xs items) (sym e)
      (record { goes = λ more t. t; only = λ all t. (all, refl, t) })

  first_follows : (item : ClaimedStep) (later : List ClaimedStep) (steps : List Step)
      → Traces q used (item ∷ later) steps
      → (step : Step) × (rest : List Step) × (steps ≡ step ∷ rest) × Follows q used item later step
      × Traces q used later rest
  first_follows item later [] t = absurd t
  first_follows item later (x ∷ rest) t = (x, rest, refl, t.0, t.1)

  pub traced_more : (items : List ClaimedStep) (steps new : List Step) (rest later : List ClaimedStep)
      (item : ClaimedStep) (step : Step) → rest ≡ item ∷ later → new ≡ steps ++ step ∷ []
      → Follows q used item later step → Traced q used items steps rest → Traced q used items new later
  traced_more items steps new rest later item step e n f t =
      subst (λ (xs : List Step). Traced q used items xs later) (sym n) (record {
        goes = λ more u. subst (λ (xs : List Step). Traces q used items xs) (sym (append_assoc steps (step ∷ []) more))
            (t.goes (step ∷ more) (subst (λ (xs : List ClaimedStep). Traces q used xs (step ∷ more)) (sym e) (f, u)));
        only = λ all u.
            let o = t.only all u in
            let g = first_follows item later o.0 (subst (λ (xs : List ClaimedStep). Traces q used xs o.0) e o.2) in
            let same : g.0 ≡ step = follows_one item later g.0 step g.3 f in (
              g.1,
              o.1 ∙ ap (λ (xs : List Step). steps ++ xs) (g.2 ∙ ap (λ (x : Step). x ∷ g.1) same)
                  ∙ sym (append_assoc steps (step ∷ []) g.1),
              g.4,
            );
      })

  pub traced_stop : (items : List ClaimedStep) (steps : List Step) (rest later : List ClaimedStep) (item : ClaimedStep)
      → rest ≡ item ∷ later → IsFollower q used item later None → Traced q used items steps rest
      → (all : List Step) → Traces q used items all → ⊥
  traced_stop items steps rest later item e none t all u =
      let o = t.only all u in
      let g = first_follows item later o.0 (subst (λ (xs : List ClaimedStep). Traces q used xs o.0) e o.2) in
      none g.0 g.3

  pub traced_end : (items : List ClaimedStep) (steps : List Step) (rest : List ClaimedStep) → length rest ≡ 0
      → Traced q used items steps rest → Traces q used items steps
  traced_end items steps [] e t = subst (λ (xs : List Step). Traces q used items xs) (append-nil steps) (t.goes [] tt)
  traced_end items steps (x ∷ rest) e t = absurd (omega (arith, e))

-- ---- traces and trails

module _ (q : Question) (used : Use) where
  pub traces_steps : (items : List ClaimedStep) (steps : List Step) → Traces q used items steps
      → items ≡ map claimed_step steps
  traces_steps [] [] t = refl
  traces_steps [] (x ∷ steps) t = absurd t
  traces_steps (item ∷ later) [] t = absurd t
  traces_steps (item ∷ later) (x ∷ steps) t =
      ap (λ (z : ClaimedStep). z ∷ later) t.0.same
      ∙ ap (λ (zs : List ClaimedStep). claimed_step x ∷ zs) (traces_steps later steps t.1)

  begins : (target : Fpr) (steps : List Step) → begin_of target (map claimed_step steps) ≡ start target steps
  begins target [] = refl
  begins target (x ∷ steps) = refl

  longs : (steps : List Step) → length (map claimed_step steps) ≡ length steps
  longs [] = refl
  longs (x ∷ steps) = ap suc (longs steps)

  pub traces_long : (items : List ClaimedStep) (steps : List Step) → Traces q used items steps
      → length items ≡ length steps
  traces_long items steps t = ap length (traces_steps items steps t) ∙ longs steps

  follows_stands : (item : ClaimedStep) (step : Step) (rest : List Step)
      → Follows q used item (map claimed_step rest) step → Stands q step rest × (0 < step_left used step)
  follows_stands item step rest f =
      let s = stands_reaches q used f.row rest
      (subst (λ (n : ℕ). may_stand q.target used (demand_of q n) f.row ≡ true) (longs rest) f.carries) in (
        record {
          row = f.row;
          into = subst (λ (x : Fpr). Has (rows_into q.network x) f.row) (begins q.target rest) f.into;
          usable = s.1.usable;
          shown = f.shown;
          reaches = s.0;
        },
        subst (λ (x : Step). 0 < step_left used x) f.shown s.1.left,
      )

  pub traces_trail : (items : List ClaimedStep) (steps : List Step) → Traces q used items steps → Trail q used steps
  traces_trail [] [] t = tt
  traces_trail [] (x ∷ steps) t = absurd t
  traces_trail (item ∷ later) [] t = absurd t
  traces_trail (item ∷ later) (x ∷ steps) t =
      let s = follows_stands item x steps
      (subst (λ (xs : List ClaimedStep). Follows q used item xs x) (traces_steps later steps t.1) t.0) in
      (s.0, s.1, traces_trail later steps t.1)

  pub trail_traces : (steps : List Step) → Trail q used steps → Traces q used (map claimed_step steps) steps
  trail_traces [] t = tt
  trail_traces (x ∷ rest) t =
      let s = t.0 in (
        record {
          row = s.row;
          into = subst (λ (f : Fpr). Has (rows_into q.network f) s.row) (sym (begins q.target rest)) s.into;
          shown = s.shown;
          same = refl;
          carries = subst (λ (n : ℕ). may_stand q.target used (demand_of q n) s.row ≡ true) (sym (longs rest))
              (reaches_stands q used s.row rest s.reaches
              (record { usable = s.usable; left = subst (λ (z : Step). 0 < step_left used z) (sym s.shown) t.1 }));
        },
        trail_traces rest t.2,
      )
