-- Questions that agree on the target and on a set within which their valid paths stay have the same next paths and
-- answers; a slice is such a set.
use Rattle.std.proofs.Common.{◌≡◌, inl, inr, ℕ, ◌<◌, ◌≤◌, List, [], ◌∷◌, ◌++◌, length, refl, sym, subst, ◌∙◌, arith}
use Rattle.wot_types.specs.declared.fpr.Fpr.{Fpr}
use Rattle.wot_edge.specs.declared.path.Path.{Path}
use Rattle.wot_edge.specs.declared.path.Step.{Step}
use Rattle.wot_edge.specs.Agree.{Agree}
use Rattle.wot_edge.specs.AgreeLaws.{AreFrom, agree_back, amount_same, start_same, valid_there}
use Rattle.wot_edge.specs.Answer.{EachNext, IsAnswer}
use Rattle.wot_edge.specs.Record.{Has}
use Rattle.wot_edge.specs.Roots.{root_amount}
use Rattle.wot_edge.specs.Path.{Chain, IsNext, IsNextPath, IsOpen, IsSpent, IsValid, Precedes, Question, Stands, Use}
use Rattle.wot_edge.specs.Path.{path_amount, start, use_of}
use Rattle.wot_auth.specs.Slices.{AgreeWithin, AnswerAlike, IsSliceOf, ShareSlice}

-- ---- within a slice

module _ (q : Question) (set : List Fpr) (slice : IsSliceOf q set) where
  -- what a member certified so that further edges may follow is a member
  onward : (step next : Step) (rest : List Step) → Has set step.issuer → Stands q step (next ∷ rest)
      → Has set next.issuer
  onward step next rest from stands =
      let deep : 1 ≤ stands.row.edge.depth = (let d = stands.reaches.0 in omega (arith, d)) in
      slice.onward next.issuer stands.row stands.into (subst (λ (z : Step). Has set z.issuer) (sym stands.shown) from)
      deep

  -- a path begins at a member
  begins : (steps : List Step) → 1 ≤ length steps → 0 < root_amount q.roots (start q.target steps)
      → Has set (start q.target steps)
  begins [] some root = absurd (omega arith)
  begins (step ∷ rest) some root = slice.roots step.issuer root

  chain_within : (step : Step) (rest : List Step) → Has set step.issuer → Chain q (step ∷ rest) → (x : Step)
      → Has (step ∷ rest) x → Has set x.issuer
  chain_within step rest from c x (inl e) = subst (λ (z : Step). Has set z.issuer) (sym e) from
  chain_within step [] from c x (inr h) = absurd h
  chain_within step (next ∷ rest) from c x (inr h) = chain_within next rest (onward step next rest from c.0) c.1 x h

pub valid_within : (q : Question) (set : List Fpr) → IsSliceOf q set → (steps : List Step) → IsValid q steps
    → (x : Step) → Has steps x → Has set x.issuer
valid_within q set slice [] v x h = absurd h
valid_within q set slice (step ∷ rest) v x h =
    chain_within q set slice step rest (begins q set slice (step ∷ rest) v.some v.root) v.chain x h

-- ---- one direction

turned : (q other : Question) (set : List Fpr) → AgreeWithin q other set → AgreeWithin other q set
turned q other set s = record {
  one = s.second;
  second = s.one;
  agree = subst (λ (target : Fpr). Agree other q (target ∷ set)) s.agree.target
      (agree_back q other (q.target ∷ set) s.agree);
}

module _ (q other : Question) (set : List Fpr) (s : AgreeWithin q other set) where
  from_set : (steps : List Step) → IsValid q steps → AreFrom (q.target ∷ set) steps
  from_set steps v x h = inr (s.one steps v x h)

  pub there : (steps : List Step) → IsValid q steps → IsValid other steps
  there steps v = valid_there q other (q.target ∷ set) s.agree (inl refl) steps (from_set steps v) v

  amount : (used : Use) (steps : List Step) → IsValid q steps → path_amount q used steps ≡ path_amount other used steps
  amount used steps v = amount_same q other (q.target ∷ set) s.agree (inl refl) used steps (from_set steps v)

  open_there : (used : Use) (steps : List Step) → IsOpen q used steps → IsOpen other used steps
  open_there used steps o = (there steps o.0, subst (λ (m : ℕ). 0 < m) (amount used steps o.0) o.1)

module _ (q other : Question) (set : List Fpr) (s : AgreeWithin q other set) where
  open_back : (used : Use) (steps : List Step) → IsOpen other used steps → IsOpen q used steps
  open_back used steps o = open_there other q set (turned q other set s) used steps o

  next_there : (used : Use) (steps : List Step) → IsNext q used steps → IsNext other used steps
  next_there used steps x = (open_there q other set s used steps x.0, no)
    where
      same : (o : List Step) → IsOpen q used o → path_amount q used o ≡ path_amount other used o
      same o p = amount q other set s used o p.0

      no : (o : List Step) → IsOpen other used o → Precedes other used o steps → ⊥
      no o p (inl fewer) = x.1 o (open_back used o p) (inl fewer)
      no o p (inr (e, inl more)) =
          let h = open_back used o p in
          x.1 o h (inr (e, inl (let f = same o h in let g = same steps x.0 in omega (arith, f, g, more))))
      no o p (inr (e, inr (m, less))) =
          let h = open_back used o p in
          x.1 o h (inr (e, inr (same steps x.0 ∙ m ∙ sym (same o h), less)))

  path_there : (used : Use) (path : Path) → IsNextPath q used path → IsNextPath other used path
  path_there used path x = record {
    steps = next_there used path.steps x.steps;
    root = x.root ∙ start_same q other (q.target ∷ set) s.agree path.steps;
    amount = x.amount ∙ amount q other set s used path.steps x.steps.0.0;
  }

  spent_there : (used : Use) → IsSpent q used → IsSpent other used
  spent_there used spent steps o = spent steps (open_back used steps o)

  each_there : (earlier paths : List Path) → EachNext q earlier paths → EachNext other earlier paths
  each_there earlier [] e = tt
  each_there earlier (path ∷ paths) e =
      (path_there (use_of earlier) path e.0, each_there (earlier ++ path ∷ []) paths e.1)

  answer_there : (wanted : ℕ) (paths : List Path) → IsAnswer q wanted paths → IsAnswer other wanted paths
  answer_there wanted paths a = record {
    each = each_there [] paths a.each;
    short = a.short;
    ends = elim a.ends [ inl reached ↦ inl reached | inr spent ↦ inr (spent_there (use_of paths) spent) ];
  }

pub within_alike : (q other : Question) (set : List Fpr) → AgreeWithin q other set → AnswerAlike q other
within_alike q other set s =
    let b = turned q other set s in
    record {
      valid = λ steps. (there q other set s steps, there other q set b steps);
      next = λ used path. (path_there q other set s used path, path_there other q set b used path);
      answer = λ wanted paths. (answer_there q other set s wanted paths, answer_there other q set b wanted paths);
    }

pub slices_alike : (q other : Question) (set : List Fpr) → ShareSlice q other set → AnswerAlike q other
slices_alike q other set s =
    within_alike q other set (record {
      one = valid_within q set s.one;
      second = valid_within other set s.second;
      agree = s.agree;
    })
