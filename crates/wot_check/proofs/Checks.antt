-- A check has the same result for questions that agree on what it looks at.
use Rattle.std.proofs.Common.{◌≡◌, inl, inr, ℕ, ◌+◌, ◌<◌, ◌≤◌, ◌-◌, List, [], ◌∷◌, ◌++◌, map, Option, Some}
use Rattle.std.proofs.Common.{refl, sym, ap, subst, ◌∙◌, arith}
use Rattle.wot_types.specs.declared.fpr.Fpr.{Fpr}
use Rattle.wot_edge.specs.declared.edge.EdgeFacts.{EdgeFacts}
use Rattle.wot_edge.specs.declared.path.Path.{Path}
use Rattle.wot_edge.specs.declared.path.Step.{Step}
use Rattle.wot_edge.specs.Agree.{Agree}
use Rattle.wot_edge.specs.AgreeLaws.{AreFrom, IsRowOf, agree_back, amount_same, edge_there, in_order_same, place_same}
use Rattle.wot_edge.specs.AgreeLaws.{row_there, start_same, valid_there}
use Rattle.wot_edge.specs.Path.{Question, Use, step_left, step_of, use_of}
use Rattle.wot_edge.specs.Record.{Has, Row, entry_at, rows_into}
use Rattle.wot_check.specs.declared.checking.Checked.{Checked}
use Rattle.wot_check.specs.declared.checking.Checked.TheVariants.{BadPaths, BadTable, Yes}
use Rattle.wot_check.specs.Absence.{Carries, Closes, IsAbsence, IsChecked, MayPrecede, RootsSpent}
use Rattle.wot_check.specs.Claim.{Claim, EachShows, Shows, claim_of, claimed_step}
use Rattle.wot_check.specs.Leading.{HasIntroducersOf, ShareChecked}
use Rattle.wot_check.specs.Table.{IsTable, IsAtMost, Labels, label_at}
use Rattle.wot_check.proofs.Entries.{label_small}

-- ---- the other direction

pub introducers_back : (q other : Question) (set : List Fpr) (agree : Agree q other (q.target ∷ set)) (at : Fpr)
    → Has (q.target ∷ set) at → HasIntroducersOf q set at → HasIntroducersOf other set at
introducers_back q other set agree at member has row h deep =
    let (x, into, e, scope) = edge_there other q (q.target ∷ set) (agree_back q other (q.target ∷ set) agree) at row
    member h in
    subst (λ (z : EdgeFacts). Has set z.issuer) (sym e)
    (has x into (subst (λ (z : EdgeFacts). 1 ≤ z.depth) e deep))

pub certifiers_back : (q other : Question) (set : List Fpr) (agree : Agree q other (q.target ∷ set))
    → ((row : Row) → Has (rows_into q.network q.target) row → Has set row.edge.issuer)
    → (row : Row) → Has (rows_into other.network other.target) row → Has set row.edge.issuer
certifiers_back q other set agree has row h =
    let (x, into, e, scope) = edge_there other q (q.target ∷ set) (agree_back q other (q.target ∷ set) agree) q.target
    row (inl refl) (subst (λ (f : Fpr). Has (rows_into other.network f) row) (sym agree.target) h) in
    subst (λ (z : EdgeFacts). Has set z.issuer) (sym e) (has x into)

pub turned : (q other : Question) (set : List Fpr) → Agree q other (q.target ∷ set)
    → Agree other q (other.target ∷ set)
turned q other set agree =
    subst (λ (target : Fpr). Agree other q (target ∷ set)) agree.target (agree_back q other (q.target ∷ set) agree)

share_back : (q other : Question) (claims : List Claim) (table : Labels) (set : List Fpr)
    → ShareChecked q other claims table set → ShareChecked other q claims table set
share_back q other claims table set s = record {
  looks = record {
    last = certifiers_back q other set s.agree s.looks.last;
    claimed = s.looks.claimed;
    labelled = s.looks.labelled;
    before = λ at label e.
        introducers_back q other set s.agree at (inr (s.looks.labelled at label e)) (s.looks.before at label e);
  };
  agree = turned q other set s.agree;
}

-- ---- one direction

module _ (q other : Question) (claims : List Claim) (table : Labels) (set : List Fpr) (good : IsTable table)
    (s : ShareChecked q other claims table set) where
  -- ---- the table

  -- A row into a member of the other question is one of this one.
  row_here : (at : Fpr) (row : Row) → Has (q.target ∷ set) at → Has set row.edge.issuer
      → Has (rows_into other.network at) row → IsRowOf q at row
  row_here at row member from h =
      row_there other q (q.target ∷ set) (agree_back q other (q.target ∷ set) s.agree) at row member (inr from) h

  carries_here : (used : Use) (at : Fpr) (row : Row) (x : IsRowOf q at row) → Carries other used at row
      → Carries q used at x.row
  carries_here used at row x c = record {
    into = x.into;
    usable = sym x.usable ∙ c.usable;
    left = subst (λ (z : EdgeFacts). 0 < step_left used (step_of z)) x.edge c.left;
  }

  label_there : (P : Option ℕ → Type 0) (row x : Row) → row.edge ≡ x.edge → P (label_at table x.edge.issuer)
      → P (label_at table row.edge.issuer)
  label_there P row x e p = subst (λ (z : EdgeFacts). P (label_at table z.issuer)) (sym e) p

  pub closes_there : (used : Use) → Closes q used table → Closes other used table
  closes_there used c = record { last = last; others = others }
    where
      last : (row : Row) → Carries other used other.target row
          → (entry_at other.network other.target).place ≡ Some row.edge.uid → label_at table row.edge.issuer ≡ Some 1
      last row carries place =
          let carries' : Carries other used q.target row =
          subst (λ (f : Fpr). Carries other used f row) (sym s.agree.target) carries in
          let from = (share_back q other claims table set s).looks.last row carries.into in
          let x = row_here q.target row (inl refl) from carries'.into in
          label_there (λ (o : Option ℕ). o ≡ Some 1) row x.row x.edge
          (c.last x.row (carries_here used q.target row x carries')
          (place_same q other (q.target ∷ set) s.agree (inl refl) ∙ place ∙ ap (λ (z : EdgeFacts). Some z.uid) x.edge))

      others : (at : Fpr) (label : ℕ) (row : Row) → label_at table at ≡ Some label → label < 255
          → MayPrecede other used at label row → IsAtMost (label + 1) (label_at table row.edge.issuer)
      others at label row e lt m =
          let member : Has (q.target ∷ set) at = inr (s.looks.labelled at label e) in
          let small = (label_small table good.labels at label e).0 in
          let depth = m.depth in
          let from = (share_back q other claims table set s).looks.before at label e row m.carries.into
          (omega (arith, small, depth)) in
          let x = row_here at row member from m.carries.into in
          label_there (IsAtMost (label + 1)) row x.row x.edge
          (c.others at label x.row e lt (record {
            carries = carries_here used at row x m.carries;
            depth = subst (λ (z : EdgeFacts). label ≤ z.depth) x.edge m.depth;
            scope = sym x.scope ∙ m.scope;
            issuer = λ f. m.issuer (ap (λ (z : EdgeFacts). z.issuer) x.edge ∙ f ∙ s.agree.target);
          }))

  roots_there : (used : Use) → RootsSpent q used table → RootsSpent other used table
  roots_there used spent fpr label e =
      ap (λ (n : ℕ). n - used.root fpr) (sym (s.agree.roots fpr (inr (s.looks.labelled fpr label e))))
      ∙ spent fpr label e

  absence_there : (used : Use) → IsAbsence q used table → IsAbsence other used table
  absence_there used (inl e) = inl (sym (in_order_same q other (q.target ∷ set) s.agree (inl refl)) ∙ e)
  absence_there used (inr x) =
      inr (record { closes = closes_there used x.closes; roots = roots_there used x.roots })

  -- ---- the claims

  step_claimed : (steps : List Step) (step : Step) → Has steps step → Has (map claimed_step steps) (claimed_step step)
  step_claimed [] step h = absurd h
  step_claimed (x ∷ steps) step (inl e) = inl (ap claimed_step e)
  step_claimed (x ∷ steps) step (inr h) = inr (step_claimed steps step h)

  path_from : (claim : Claim) (path : Path) → Has claims claim → claim ≡ claim_of path
      → AreFrom (q.target ∷ set) path.steps
  path_from claim path h e step among =
      inr (s.looks.claimed claim h (claimed_step step)
      (subst (λ (c : Claim). Has c.steps (claimed_step step)) (sym e) (step_claimed path.steps step among)))

  shows_there : (used : Use) (claim : Claim) (path : Path) → Has claims claim → Shows q used claim path
      → Shows other used claim path
  shows_there used claim path h x =
      let from = path_from claim path h x.same in
      record {
        same = x.same;
        valid = valid_there q other (q.target ∷ set) s.agree (inl refl) path.steps from x.valid;
        root = x.root ∙ start_same q other (q.target ∷ set) s.agree path.steps;
        amount = x.amount ∙ amount_same q other (q.target ∷ set) s.agree (inl refl) used path.steps from;
        positive = x.positive;
      }

  each_there : (earlier : List Path) (some : List Claim) → ((claim : Claim) → Has some claim → Has claims claim)
      → (paths : List Path) → EachShows q earlier some paths → EachShows other earlier some paths
  each_there earlier [] all [] e = tt
  each_there earlier [] all (path ∷ paths) e = absurd e
  each_there earlier (claim ∷ some) all [] e = absurd e
  each_there earlier (claim ∷ some) all (path ∷ paths) e = (
    shows_there (use_of earlier) claim path (all claim (inl refl)) e.0,
    each_there (earlier ++ path ∷ []) some (λ x h. all x (inr h)) paths e.1,
  )

  pub shown_there : (paths : List Path) → EachShows q [] claims paths → EachShows other [] claims paths
  shown_there paths e = each_there [] claims (λ claim h. h) paths e

module _ (q other : Question) (claims : List Claim) (table : Labels) (set : List Fpr) (good : IsTable table)
    (s : ShareChecked q other claims table set) where
  back : ShareChecked other q claims table set
  back = share_back q other claims table set s

  checked_there : (checked : Checked) → IsChecked q claims table checked → IsChecked other claims table checked
  checked_there Yes (paths, shown, absence) = (
    paths,
    shown_there q other claims table set good s paths shown,
    absence_there q other claims table set good s (use_of paths) absence,
  )
  checked_there BadPaths bad =
      λ a. bad (a.0, shown_there other q claims table set good back a.0 a.1)
  checked_there BadTable (paths, shown, bad) = (
    paths,
    shown_there q other claims table set good s paths shown,
    λ absence. bad (absence_there other q claims table set good back (use_of paths) absence),
  )

pub checks_agree : (q other : Question) (claims : List Claim) (table : Labels) (set : List Fpr) → IsTable table
    → ShareChecked q other claims table set
    → (checked : Checked)
    → (IsChecked q claims table checked → IsChecked other claims table checked)
    × (IsChecked other claims table checked → IsChecked q claims table checked)
checks_agree q other claims table set good s checked = (
  checked_there q other claims table set good s checked,
  checked_there other q claims table set good (share_back q other claims table set s) checked,
)
