-- One layer after the other.
use Rattle.std.proofs.Common.{◌≡◌, inl, inr, ℕ, suc, ◌<◌, ◌≤◌, List, [], ◌∷◌, length, refl, sym, subst, ◌∙◌, arith}
use Rattle.std.proofs.lemmas.Bool.{cases_lt}
use Rattle.wot_types.specs.declared.fpr.Fpr.{Fpr}
use Rattle.wot_edge.specs.declared.path.Step.{Step}
use Rattle.wot_edge.specs.Record.{Has, rows_into}
use Rattle.wot_edge.specs.Path.{start}
use Rattle.wot_first_path.specs.Quest.{Quest}
use Rattle.wot_first_path.specs.Suffix.{Serves, Suffix, Found, Kept}
use Rattle.wot_first_path.specs.Layer.{AtMost, Covered, IsComplete, Onward}
use Rattle.wot_first_path.specs.Looked.{IsSeen, IsLooked, Widens}
use Rattle.wot_first_path.proofs.SuffixOrder.{AtMost-trans, AtMost-le, AtMost-cons}
use Rattle.wot_first_path.proofs.Suffixes.{serves_shorter, reaches_shorter, kept_suffix}

pub onward_refl : (quest : Quest) (size : ℕ) (found : Found) → Onward quest size found found
onward_refl quest size found = record { keeps = λ steps le k. k; kept = λ steps le k. k; covers = λ other c. c }

pub onward_trans : (quest : Quest) (size : ℕ) (a b c : Found) → Onward quest size a b → Onward quest size b c
    → Onward quest size a c
onward_trans quest size a b c m n = record {
  keeps = λ steps le k. n.keeps steps le (m.keeps steps le k);
  kept = λ steps le k. m.kept steps le (n.kept steps le k);
  covers = λ other d. n.covers other (m.covers other d);
}

-- what covers a suffix covers what that one is at most
pub covered_trans : (quest : Quest) (found : Found) (a b : List Step) → Covered quest found a
    → start quest.question.target a ≡ start quest.question.target b → AtMost quest.used quest.goal a b
    → Covered quest found b
covered_trans quest found a b c e m =
    record {
      steps = c.steps;
      kept = c.kept;
      some = c.some;
      same = c.same ∙ e;
      most = AtMost-trans quest.used quest.goal c.steps a b c.most m;
    }

module _ (quest : Quest) (found : Found) where
  -- One more layer: if each edge before each found suffix of this many edges is covered, all suffixes of one edge more
  -- are.
  pub complete_more : (size : ℕ) → IsComplete quest found size
      → ((rest : List Step) → Kept quest found rest → length rest ≡ size → (step : Step) → Serves quest step rest
      → Covered quest found (step ∷ rest))
      → IsComplete quest found (suc size)
  complete_more size complete covers [] some few s = absurd (omega arith)
  complete_more size complete covers (step ∷ []) some few s = elim (cases_lt 0 size) [
    | inl lt ↦ complete (step ∷ []) (omega arith) (omega (arith, lt)) s
    | inr le ↦ covers [] tt (omega (arith, le)) step s.0
  ]
  complete_more size complete covers (step ∷ next ∷ rest) some few s = elim (cases_lt (length (next ∷ rest)) size) [
    | inl lt ↦ complete (step ∷ next ∷ rest) (omega arith) (omega (arith, lt)) s
    | inr le ↦
        let c = complete (next ∷ rest) (omega arith) (omega (arith, few)) s.1 in
        let m = AtMost-le quest.used quest.goal c.steps (next ∷ rest) c.most in
        let t = serves_shorter quest step (next ∷ rest) c.steps (omega arith) c.some m c.same s.0 in
        covered_trans quest found (step ∷ c.steps) (step ∷ next ∷ rest) (elim (cases_lt (length c.steps) size) [
          | inl lt ↦ complete (step ∷ c.steps) (omega arith) (omega (arith, lt))
              (t, kept_suffix quest found c.steps c.kept)
          | inr ge ↦ covers c.steps c.kept (omega (arith, ge, m, few)) step t
        ]) refl (AtMost-cons quest.used quest.goal step c.steps (next ∷ rest) c.most)
  ]

  -- If no suffix of this many edges was found, all are covered.
  pub complete_all : (size : ℕ) → 1 ≤ size → IsComplete quest found size
      → ((steps : List Step) → Kept quest found steps → 1 ≤ length steps → length steps < size)
      → (other : List Step) → 1 ≤ length other → Suffix quest other → Covered quest found other
  complete_all size pos complete few [] some s = absurd (omega arith)
  complete_all size pos complete few (step ∷ []) some s = complete (step ∷ []) (omega arith) (omega (arith, pos)) s
  complete_all size pos complete few (step ∷ next ∷ rest) some s =
      let c = complete_all size pos complete few (next ∷ rest) (omega arith) s.1 in
      let m = AtMost-le quest.used quest.goal c.steps (next ∷ rest) c.most in
      let t = serves_shorter quest step (next ∷ rest) c.steps (omega arith) c.some m c.same s.0 in
      let lt = few c.steps c.kept c.some in
      covered_trans quest found (step ∷ c.steps) (step ∷ next ∷ rest)
      (complete (step ∷ c.steps) (omega arith) (omega (arith, lt)) (t, kept_suffix quest found c.steps c.kept)) refl
      (AtMost-cons quest.used quest.goal step c.steps (next ∷ rest) c.most)

-- ---- what was looked at

pub seen_grows : (quest : Quest) (old new : Fpr → Type 0) (rest : List Step) → Widens old new → IsSeen quest old rest
    → IsSeen quest new rest
seen_grows quest old new rest g s =
    record {
      it = g (start quest.question.target rest) s.it;
      issuers = λ row h r le far. g row.edge.issuer (s.issuers row h r le far);
    }

pub looked_grows : (quest : Quest) (size : ℕ) (old new : Fpr → Type 0) → Widens old new → IsLooked quest size old
    → IsLooked quest size new
looked_grows quest size old new g l rest lt s = seen_grows quest old new rest g (l rest lt s)

-- what was looked at before fewer edges serves before more
seen_longer : (quest : Quest) (set : Fpr → Type 0) (rest other : List Step) → 1 ≤ length rest → 1 ≤ length other
    → length other ≤ length rest → start quest.question.target other ≡ start quest.question.target rest
    → IsSeen quest set other → IsSeen quest set rest
seen_longer quest set rest other a b le e s = record {
  it = subst set e s.it;
  issuers = λ row h r left far. s.issuers row (subst (λ (f : Fpr). Has (rows_into quest.question.network f) row) (sym e) h)
      (reaches_shorter quest.question row rest other a b le r) left (omega (arith, le, far));
}

pub looked_more : (quest : Quest) (found : Found) (size : ℕ) (set : Fpr → Type 0) → IsComplete quest found size
    → IsLooked quest size set
    → ((rest : List Step) → Kept quest found rest → length rest ≡ size → IsSeen quest set rest)
    → IsLooked quest (suc size) set
looked_more quest found size set complete looked seen [] lt s = elim (cases_lt 0 size) [
  | inl pos ↦ looked [] (omega (arith, pos)) s
  | inr le ↦ seen [] tt (omega (arith, le))
]
looked_more quest found size set complete looked seen (step ∷ rest) lt s = elim (cases_lt (length (step ∷ rest)) size) [
  | inl less ↦ looked (step ∷ rest) less s
  | inr le ↦
      let c = complete (step ∷ rest) (omega arith) (omega (arith, lt)) s in
      let m = AtMost-le quest.used quest.goal c.steps (step ∷ rest) c.most in
      seen_longer quest set (step ∷ rest) c.steps (omega arith) c.some m c.same (elim (cases_lt (length c.steps) size) [
        | inl less ↦ looked c.steps less (kept_suffix quest found c.steps c.kept)
        | inr ge ↦ seen c.steps c.kept (omega (arith, ge, m, lt))
      ])
]

pub looked_all : (quest : Quest) (found : Found) (size : ℕ) (set : Fpr → Type 0) → 1 ≤ size
    → IsComplete quest found size → IsLooked quest size set
    → ((steps : List Step) → Kept quest found steps → 1 ≤ length steps → length steps < size) → (more : ℕ)
    → IsLooked quest more set
looked_all quest found size set pos complete looked few more [] lt s = looked [] (omega (arith, pos)) s
looked_all quest found size set pos complete looked few more (step ∷ rest) lt s =
    let c = complete_all quest found size pos complete few (step ∷ rest) (omega arith) s in
    let m = AtMost-le quest.used quest.goal c.steps (step ∷ rest) c.most in
    seen_longer quest set (step ∷ rest) c.steps (omega arith) c.some m c.same
    (looked c.steps (few c.steps c.kept c.some) (kept_suffix quest found c.steps c.kept))
