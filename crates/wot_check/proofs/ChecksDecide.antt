-- Whether claims are right, and whether a table proves absence, is decidable: each check has a result.
use Rattle.std.proofs.Common.{◌≡◌, ◌⊎◌, inl, inr, ℕ, ◌+◌, ◌<◌, ◌≤◌, Bool, true, false, List, [], ◌∷◌, ◌++◌, length}
use Rattle.std.proofs.Common.{refl, sym, ap, subst, ◌∙◌, arith}
use Rattle.std.proofs.lemmas.Bool.{cases_eq, cases_lt}
use Rattle.wot_types.specs.declared.fpr.Fpr.{Fpr}
use Rattle.wot_types.specs.Fpr.{same_fpr}
use Rattle.wot_types.specs.FprLaws.{same_fpr-true, same_fpr-refl}
use Rattle.wot_edge.specs.declared.path.Path.{Path}
use Rattle.wot_edge.specs.declared.path.Step.{Step}
use Rattle.wot_edge.specs.Record.{Row, Has, rows_into}
use Rattle.wot_edge.specs.Path.{Question, Use, Distinct, issuers, start, step_of, path_amount, root_left, use_of}
use Rattle.wot_check.specs.declared.checking.Checked.{Checked}
use Rattle.wot_check.specs.declared.checking.Checked.TheVariants.{Yes, BadPaths, BadTable}
use Rattle.wot_check.specs.declared.claimed.ClaimedStep.{ClaimedStep}
use Rattle.wot_check.specs.Absence.{Accepts, Excludes, Rejects, RootsSpent, IsAbsence, IsChecked, is_in_order}
use Rattle.wot_check.specs.Claim.{AreGood, Claim, claimed_step, EachShows, Shows}
use Rattle.wot_edge.specs.Demand.{demand_of}
use Rattle.wot_check.specs.Demand.{Covers, is_covered, may_stand}
use Rattle.wot_check.specs.Table.{IsTable, Labels}
use Rattle.wot_check.specs.Trace.{begin_of, Follows, Traces, has_name}
use Rattle.wot_check.proofs.Entries.{has_lookup, lookup_has}
use Rattle.wot_check.proofs.Finite.{Both, Dec, Found, all, at_most, both, decided, find, is_so}
use Rattle.wot_check.proofs.ShownPaths.{shows_traces}
use Rattle.wot_check.proofs.ThreePoints.{labels_all, labels_fail, last_covered, three_points}
use Rattle.wot_check.proofs.ClaimedSteps.{edge_named, has_name-true, named_edge, traces_steps, traces_trail, true-has_name}
use Rattle.wot_check.proofs.Trails.{least_most, trail_chain}

-- ---- fingerprints

is_other : (a b : Fpr) → Dec (a ≡ b)
is_other a b =
    decided (same_fpr-true a b) (λ e. subst (λ (x : Fpr). same_fpr a x ≡ true) e (same_fpr-refl a))
    (is_so (same_fpr a b))

has_fpr : (xs : List Fpr) (x : Fpr) → Dec (Has xs x)
has_fpr [] x = inr (λ h. h)
has_fpr (y ∷ xs) x = by (is_other x y) (has_fpr xs x)
  where
    by : Dec (x ≡ y) → Dec (Has xs x) → Dec (Has (y ∷ xs) x)
    by (inl e) d = inl (inl e)
    by (inr n) (inl h) = inl (inr h)
    by (inr n) (inr m) = inr (λ h. elim h [ inl e ↦ n e | inr k ↦ m k ])

are_distinct : (xs : List Fpr) → Dec (Distinct xs)
are_distinct [] = inl tt
are_distinct (x ∷ xs) = by (has_fpr xs x) (are_distinct xs)
  where
    by : Dec (Has xs x) → Dec (Distinct xs) → Dec (Distinct (x ∷ xs))
    by (inl h) d = inr (λ t. t.0 h)
    by (inr n) (inl d) = inl (n, d)
    by (inr n) (inr m) = inr (λ t. m t.1)

-- ---- steps

module _ (q : Question) (used : Use) where
  -- a claimed step for which something more holds
  record Stepped (item : ClaimedStep) (later : List ClaimedStep) (L : Step → Type 0) : Type 0 where
    step : Step
    follows : Follows q used item later step
    so : L step

  -- its row
  record Here (item : ClaimedStep) (later : List ClaimedStep) (L : Step → Type 0) (row : Row) : Type 0 where
    named : has_name item row.edge ≡ true
    carries : may_stand q.target used (demand_of q (length later)) row ≡ true
    so : L (step_of row.edge)

  here : (item : ClaimedStep) (later : List ClaimedStep) (L : Step → Type 0) → ((step : Step) → Dec (L step))
      → (row : Row) → Dec (Here item later L row)
  here item later L dec row =
      by (is_so (has_name item row.edge)) (is_so (may_stand q.target used (demand_of q (length later)) row))
      (dec (step_of row.edge))
    where
      by : Dec (has_name item row.edge ≡ true) → Dec (may_stand q.target used (demand_of q (length later)) row ≡ true)
          → Dec (L (step_of row.edge))
          → Dec (Here item later L row)
      by (inl a) (inl b) (inl c) = inl (record { named = a; carries = b; so = c })
      by (inr n) b c = inr (λ h. n h.named)
      by (inl a) (inr n) c = inr (λ h. n h.carries)
      by (inl a) (inl b) (inr n) = inr (λ h. n h.so)

  stepped_by : (item : ClaimedStep) (later : List ClaimedStep) (L : Step → Type 0)
      → Found (Here item later L) (rows_into q.network (begin_of q.target later))
      → Stepped item later L
  stepped_by item later L f = record {
    step = step_of f.it.edge;
    follows = record {
      row = f.it;
      into = f.there;
      shown = refl;
      same = edge_named item f.it.edge (has_name-true item f.it.edge f.so.named);
      carries = f.so.carries;
    };
    so = f.so.so;
  }

  by_stepped : (item : ClaimedStep) (later : List ClaimedStep) (L : Step → Type 0) → Stepped item later L
      → Found (Here item later L) (rows_into q.network (begin_of q.target later))
  by_stepped item later L s =
      let f = s.follows in
      record {
        it = f.row;
        there = f.into;
        so = record {
          named = true-has_name item f.row.edge (named_edge item f.row (f.same ∙ ap claimed_step (sym f.shown)));
          carries = f.carries;
          so = subst L (sym f.shown) s.so;
        };
      }

  step_there : (item : ClaimedStep) (later : List ClaimedStep) (L : Step → Type 0) → ((step : Step) → Dec (L step))
      → Dec (Stepped item later L)
  step_there item later L dec =
      decided (stepped_by item later L) (by_stepped item later L)
      (find (Here item later L) (here item later L dec) (rows_into q.network (begin_of q.target later)))

  -- claimed steps for which something more holds
  record Traced (items : List ClaimedStep) (K : List Step → Type 0) : Type 0 where
    steps : List Step
    traces : Traces q used items steps
    so : K steps

  -- the first step, before the others
  abbrev First : ClaimedStep → List ClaimedStep → (List Step → Type 0) → List Step → Type 0
  First item later K rest = Stepped item later (λ step. K (step ∷ rest))

  untraced : (K : List Step → Type 0) (steps : List Step) → Traces q used [] steps → K steps → K []
  untraced K [] t k = k
  untraced K (x ∷ steps) t k = absurd t

  cut_first : (item : ClaimedStep) (later : List ClaimedStep) (K : List Step → Type 0) (steps : List Step)
      → Traces q used (item ∷ later) steps → K steps
      → Traced later (First item later K)
  cut_first item later K [] t k = absurd t
  cut_first item later K (x ∷ rest) t k =
      record { steps = rest; traces = t.1; so = record { step = x; follows = t.0; so = k } }

  steps_there : (items : List ClaimedStep) (K : List Step → Type 0) → ((steps : List Step) → Dec (K steps))
      → Dec (Traced items K)
  steps_there [] K dec =
      decided (λ k. record { steps = []; traces = tt; so = k }) (λ t. untraced K t.steps t.traces t.so) (dec [])
  steps_there (item ∷ later) K dec =
      decided (λ t. record { steps = t.so.step ∷ t.steps; traces = (t.so.follows, t.traces); so = t.so.so })
      (λ t. cut_first item later K t.steps t.traces t.so)
      (steps_there later (First item later K)
      (λ rest. step_there item later (λ step. K (step ∷ rest)) (λ step. dec (step ∷ rest))))

  -- ---- paths

  -- a path that a claim shows, for which something more holds
  record PathFound (claim : Claim) (K : Path → Type 0) : Type 0 where
    path : Path
    shows : Shows q used claim path
    so : K path

  abbrev path_by : Claim → List Step → Path
  path_by claim steps = record { amount = claim.amount; root = start q.target steps; steps = steps }

  -- the steps with which a claim shows the path
  record AreShown (claim : Claim) (K : Path → Type 0) (steps : List Step) : Type 0 where
    sizes : Both (1 ≤ length steps) (length steps ≤ 255)
    distinct : Distinct (issuers steps)
    in_order : is_in_order q ≡ true
    amount : Both (path_amount q used steps ≡ claim.amount) (1 ≤ claim.amount)
    so : K (path_by claim steps)

  shown_or_not : (claim : Claim) (K : Path → Type 0) → ((path : Path) → Dec (K path)) → (steps : List Step)
      → Dec (AreShown claim K steps)
  shown_or_not claim K dec steps =
      decided (λ b. record
      { sizes = b.one.one; distinct = b.one.two; in_order = b.two.one; amount = b.two.two.one; so = b.two.two.two })
      (λ s. record {
        one = record { one = s.sizes; two = s.distinct };
        two = record { one = s.in_order; two = record { one = s.amount; two = s.so } };
      })
      (both (both (both (at_most 1 (length steps)) (at_most (length steps) 255)) (are_distinct (issuers steps)))
      (both (is_so (is_in_order q))
      (both (both (cases_eq (path_amount q used steps) claim.amount) (at_most 1 claim.amount))
      (dec (path_by claim steps)))))

  found_by : (claim : Claim) (K : Path → Type 0) → Traced claim.steps (AreShown claim K) → PathFound claim K
  found_by claim K t =
      let s = t.so in
      let left = s.amount.one in
      let pos = s.amount.two in
      let le = least_most used (root_left q used (start q.target t.steps)) t.steps in
      record {
        path = path_by claim t.steps;
        shows = record {
          same = λ i. record { amount = claim.amount; steps = traces_steps q used claim.steps t.steps t.traces i };
          valid = record {
            some = s.sizes.one;
            few = s.sizes.two;
            chain = trail_chain q used t.steps (traces_trail q used claim.steps t.steps t.traces);
            distinct = s.distinct;
            root = omega (arith, le, left, pos);
            in_order = s.in_order;
          };
          root = refl;
          amount = sym left;
          positive = omega (arith, pos);
        };
        so = s.so;
      }

  by_found : (claim : Claim) (K : Path → Type 0) → PathFound claim K → Traced claim.steps (AreShown claim K)
  by_found claim K f =
      let s = f.shows in
      let amount : f.path.amount ≡ claim.amount = ap (λ (c : Claim). c.amount) (sym s.same) in
      let same : f.path ≡ path_by claim f.path.steps =
      λ i. record { amount = amount i; root = s.root i; steps = f.path.steps } in
      let pos = s.positive in
      record {
        steps = f.path.steps;
        traces = shows_traces q used claim f.path s;
        so = record {
          sizes = record { one = s.valid.some; two = s.valid.few };
          distinct = s.valid.distinct;
          in_order = s.valid.in_order;
          amount = record { one = sym s.amount ∙ amount; two = omega (arith, pos, amount) };
          so = subst K same f.so;
        };
      }

  path_there : (claim : Claim) (K : Path → Type 0) → ((path : Path) → Dec (K path)) → Dec (PathFound claim K)
  path_there claim K dec =
      decided (found_by claim K) (by_found claim K)
      (steps_there claim.steps (AreShown claim K) (shown_or_not claim K dec))

-- ---- claims

-- paths that claims show after earlier ones, for which something more holds
record PathsFound (q : Question) (earlier : List Path) (claims : List Claim) (K : List Path → Type 0) : Type 0 where
  paths : List Path
  each : EachShows q earlier claims paths
  so : K paths

module _ (q : Question) where
  -- the other paths, after the first one
  abbrev Others : List Path → List Claim → (List Path → Type 0) → Path → Type 0
  Others earlier claims K path = PathsFound q (earlier ++ path ∷ []) claims (λ paths. K (path ∷ paths))

  unshown : (earlier : List Path) (K : List Path → Type 0) (paths : List Path) → EachShows q earlier [] paths → K paths
      → K []
  unshown earlier K [] s k = k
  unshown earlier K (path ∷ paths) s k = absurd s

  cut_path : (earlier : List Path) (claim : Claim) (claims : List Claim) (K : List Path → Type 0) (paths : List Path)
      → EachShows q earlier (claim ∷ claims) paths → K paths
      → PathFound q (use_of earlier) claim (Others earlier claims K)
  cut_path earlier claim claims K [] s k = absurd s
  cut_path earlier claim claims K (path ∷ paths) s k =
      record { path = path; shows = s.0; so = record { paths = paths; each = s.1; so = k } }

  paths_there : (earlier : List Path) (claims : List Claim) (K : List Path → Type 0)
      → ((paths : List Path) → Dec (K paths))
      → Dec (PathsFound q earlier claims K)
  paths_there earlier [] K dec =
      decided (λ k. record { paths = []; each = tt; so = k }) (λ f. unshown earlier K f.paths f.each f.so) (dec [])
  paths_there earlier (claim ∷ claims) K dec =
      decided (λ f. record { paths = f.path ∷ f.so.paths; each = (f.shows, f.so.each); so = f.so.so })
      (λ f. cut_path earlier claim claims K f.paths f.each f.so)
      (path_there q (use_of earlier) claim (Others earlier claims K)
      (λ path. paths_there (earlier ++ path ∷ []) claims (λ paths. K (path ∷ paths)) (λ paths. dec (path ∷ paths))))

-- ---- tables

module _ (q : Question) (used : Use) (table : Labels) (good : IsTable table) where
  are_covered : (size : ℕ) (at : Fpr) → Dec (Covers q used size table at)
  are_covered size at =
      all (λ (row : Row). is_covered q.target used (demand_of q size) (size + 1) table row ≡ true)
      (λ row. is_so (is_covered q.target used (demand_of q size) (size + 1) table row)) (rows_into q.network at)

  abbrev IsCovered : Fpr × ℕ → Type 0
  IsCovered entry = entry.1 < 255 → Covers q used entry.1 table entry.0

  entry_covered : (entry : Fpr × ℕ) → Dec (IsCovered entry)
  entry_covered entry = by (cases_lt entry.1 255) (are_covered entry.1 entry.0)
    where
      by : (entry.1 < 255) ⊎ (255 ≤ entry.1) → Dec (Covers q used entry.1 table entry.0) → Dec (IsCovered entry)
      by (inl lt) (inl c) = inl (λ less. c)
      by (inl lt) (inr n) = inr (λ f. n (f lt))
      by (inr le) d = inl (λ lt. absurd (omega (arith, le, lt)))

  spent_so : Dec (RootsSpent q used table)
  spent_so =
      decided (λ f fpr label e. f (fpr, label) (lookup_has table fpr label e))
      (λ s entry h. s entry.0 entry.1 (has_lookup table good.order entry.0 entry.1 h))
      (all (λ (entry : Fpr × ℕ). root_left q used entry.0 ≡ 0) (λ entry. cases_eq (root_left q used entry.0) 0) table)

  excludes_so : Dec (Excludes q used table)
  excludes_so = by spent_so (are_covered 0 q.target) (all IsCovered entry_covered table)
    where
      by : Dec (RootsSpent q used table) → Dec (Covers q used 0 table q.target)
          → Dec ((entry : Fpr × ℕ) → Has table entry → IsCovered entry)
          → Dec (Excludes q used table)
      by (inl r) (inl c) (inl f) =
          inl (three_points q used table good r c (labels_all q used table good (λ at label h. inl (f (at, label) h))))
      by (inr n) c f = inr (λ x. n x.roots)
      by (inl r) (inr n) f = inr (λ x. n (last_covered q used table x))
      by (inl r) (inl c) (inr n) = inr (λ x. n (λ entry h. each x entry h (entry_covered entry)))
        where
          each : Excludes q used table → (entry : Fpr × ℕ) → Has table entry → Dec (IsCovered entry) → IsCovered entry
          each x entry h (inl c) = c
          each x entry h (inr m) = absurd (labels_fail q used table good entry.0 entry.1 h m x.closes.others)

  pub absence_so : Dec (IsAbsence q used table)
  absence_so = by (is_in_order q) refl excludes_so
    where
      by : (b : Bool) → is_in_order q ≡ b → Dec (Excludes q used table) → Dec (IsAbsence q used table)
      by false e d = inl (inl e)
      by true e (inl x) = inl (inr x)
      by true e (inr n) = inr (λ a. elim a [ inl f ↦ absurd cc | inr x ↦ n x ])

-- ---- checks

-- each check has a result
pub check_some : (q : Question) (claims : List Claim) (table : Labels) → IsTable table
    → (checked : Checked) × IsChecked q claims table checked
check_some q claims table good =
    by (paths_there q [] claims (λ paths. IsAbsence q (use_of paths) table)
    (λ paths. absence_so q (use_of paths) table good))
    (paths_there q [] claims (λ paths. Unit {0}) (λ paths. inl tt))
  where
    yes : Accepts q claims table → (checked : Checked) × IsChecked q claims table checked
    yes a = (Yes, a)

    bad_table : Rejects q claims table → (checked : Checked) × IsChecked q claims table checked
    bad_table r = (BadTable, r)

    bad_paths : (AreGood q claims → ⊥) → (checked : Checked) × IsChecked q claims table checked
    bad_paths n = (BadPaths, n)

    by : Dec (PathsFound q [] claims (λ paths. IsAbsence q (use_of paths) table))
        → Dec (PathsFound q [] claims (λ paths. Unit {0}))
        → (checked : Checked) × IsChecked q claims table checked
    by (inl f) d = yes (f.paths, f.each, f.so)
    by (inr n) (inl f) = bad_table (f.paths, f.each, λ a. n (record { paths = f.paths; each = f.each; so = a }))
    by (inr n) (inr m) = bad_paths (λ g. m (record { paths = g.0; each = g.1; so = tt }))
