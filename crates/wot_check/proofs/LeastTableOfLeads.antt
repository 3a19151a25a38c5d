-- What leads to a target carries the least table, and each valid path.
use Rattle.std.proofs.Common.{◌≡◌, inl, inr, ℕ, ◌≤◌, Bool, true, false, List, [], ◌∷◌, length, Some, refl, sym}
use Rattle.std.proofs.Common.{subst, ◌∙◌, arith}
use Rattle.wot_types.specs.declared.fpr.Fpr.{Fpr}
use Rattle.wot_edge.specs.declared.path.Step.{Step}
use Rattle.wot_edge.specs.AgreeLaws.{AreFrom, in_order_same, start_same, stands_there}
use Rattle.wot_edge.specs.Path.{Chain, IsValid, Question, Stands, Use, start}
use Rattle.wot_edge.specs.Record.{Has}
use Rattle.wot_check.specs.Absence.{IsLeast, IsLeastTable, LeastBy, is_in_order}
use Rattle.wot_check.specs.Growth.{IsLabel, IsSettled, Labelled}
use Rattle.wot_check.specs.Leading.{HasChecked, LeadsToTarget, ShareLeading}
use Rattle.wot_check.specs.Table.{IsTable, Labels, label_at}
use Rattle.wot_check.proofs.Checks.{certifiers_back, closes_there, introducers_back, turned}
use Rattle.wot_check.proofs.AfterALayer.{labelled_trail, settled_least}
use Rattle.wot_check.proofs.Least.{least_settled}
use Rattle.wot_check.proofs.Trails.{trail_chain}

-- ---- steps to the target

module _ (q : Question) (set : List Fpr) (leads : LeadsToTarget q set) where
  issuer_in : (step : Step) (rest : List Step) → AreFrom set rest → Stands q step rest → Has set step.issuer
  issuer_in step [] from s =
      subst (λ (z : Step). Has set z.issuer) s.shown (leads.last s.row s.into)
  issuer_in step (next ∷ rest) from s =
      let deep = s.reaches.0 in
      subst (λ (z : Step). Has set z.issuer) s.shown
      (leads.before next.issuer (from next (inl refl)) s.row s.into (omega (arith, deep)))

  pub chain_from : (steps : List Step) → Chain q steps → AreFrom set steps
  chain_from [] c step h = absurd h
  chain_from (x ∷ rest) c step (inl e) =
      subst (λ (z : Step). Has set z.issuer) (sym e) (issuer_in x rest (chain_from rest c.1) c.0)
  chain_from (x ∷ rest) c step (inr h) = chain_from rest c.1 step h

  pub valid_from : (steps : List Step) → IsValid q steps → AreFrom set steps
  valid_from steps v = chain_from steps v.chain

  -- whoever leads there by at least one step is a member
  begins_in : (steps : List Step) → 1 ≤ length steps → AreFrom set steps → Has set (start q.target steps)
  begins_in [] some from = absurd (omega (arith, some))
  begins_in (x ∷ rest) some from = from x (inl refl)

  -- of a table whose labels say how many steps lead from there, all labelled are members
  labelled_in : (used : Use) (table : Labels) → IsSettled q used table → (at : Fpr) (label : ℕ)
      → label_at table at ≡ Some label → Has set at
  labelled_in used table settled at label e =
      let is = settled.labels at label e in
      let long = is.leads.long in
      let some = is.some in
      subst (Has set) is.leads.there
      (begins_in is.leads.steps (omega (arith, long, some))
      (chain_from is.leads.steps
      (trail_chain q used is.leads.steps (labelled_trail q used table is.leads.steps is.leads.labelled))))

  looks_of : (used : Use) (table : Labels) → IsSettled q used table → HasChecked q [] table set
  looks_of used table settled = record {
    last = leads.last;
    claimed = λ claim h. absurd h;
    labelled = labelled_in used table settled;
    before = λ at label e. leads.before at (labelled_in used table settled at label e);
  }

-- ---- the other direction

pub leading_shared : (q other : Question) (set : List Fpr) → ShareLeading q other set → LeadsToTarget other set
leading_shared q other set s = record {
  last = certifiers_back q other set s.agree s.leads.last;
  before = λ at h. introducers_back q other set s.agree at (inr h) (s.leads.before at h);
}

share_back : (q other : Question) (set : List Fpr) → ShareLeading q other set → ShareLeading other q set
share_back q other set s = record { leads = leading_shared q other set s; agree = turned q other set s.agree }

-- ---- the least table

module _ (q other : Question) (set : List Fpr) (s : ShareLeading q other set) (used : Use) (table : Labels)
    (good : IsTable table) where
  labelled_there : (steps : List Step) → Labelled q used table steps → AreFrom set steps
      → Labelled other used table steps
  labelled_there [] l from = tt
  labelled_there (x ∷ rest) l from = (
    l.0,
    stands_there q other (q.target ∷ set) s.agree (inl refl) x rest (λ step h. inr (from step h)) l.1,
    l.2,
    labelled_there rest l.3 (λ step h. from step (inr h)),
  )

  label_there : (fpr : Fpr) (label : ℕ) → IsLabel q used 255 table fpr label → IsLabel other used 255 table fpr label
  label_there fpr label is =
      let steps = is.leads.steps in
      let from = chain_from q set s.leads steps
      (trail_chain q used steps (labelled_trail q used table steps is.leads.labelled)) in
      record {
        leads = record {
          steps = steps;
          labelled = labelled_there steps is.leads.labelled from;
          long = is.leads.long;
          there = sym (start_same q other (q.target ∷ set) s.agree steps) ∙ is.leads.there;
        };
        some = is.some;
        few = is.few;
      }

  settled_there : IsSettled q used table → IsSettled other used table
  settled_there settled = record {
    closes = closes_there q other [] table set good
        (record { looks = looks_of q set s.leads used table settled; agree = s.agree }) used settled.closes;
    labels = λ fpr label e. label_there fpr label (settled.labels fpr label e);
  }

  least_there : IsLeast q used table → IsLeast other used table
  least_there least = settled_least other used table (settled_there (least_settled q used table good least))

  table_there : IsLeastTable q used table → IsLeastTable other used table
  table_there l =
      subst (λ (b : Bool). LeastBy b other used table) (in_order_same q other (q.target ∷ set) s.agree (inl refl))
      (by (is_in_order q) l)
    where
      by : (b : Bool) → LeastBy b q used table → LeastBy b other used table
      by false e = e
      by true least = least_there least

pub tables_agree : (q other : Question) (set : List Fpr) → ShareLeading q other set
    → (used : Use) (table : Labels) → IsTable table
    → (IsLeastTable q used table → IsLeastTable other used table)
    × (IsLeastTable other used table → IsLeastTable q used table)
tables_agree q other set s used table good = (
  table_there q other set s used table good,
  table_there other q set (share_back q other set s) used table good,
)
