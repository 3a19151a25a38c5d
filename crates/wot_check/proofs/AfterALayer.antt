-- What is known after a layer, and what follows from it.
use Rattle.std.proofs.Common.{◌≡◌, ◌⊎◌, inl, inr, ℕ, suc, ◌<◌, ◌≤◌, Bool, true, false, List, [], ◌∷◌, ◌++◌, length, map}
use Rattle.std.proofs.Common.{Option, Some, None, refl, sym, ap, subst, ◌∙◌, arith}
use Rattle.std.proofs.lemmas.Bool.{cases_lt}
use Rattle.wot_types.specs.declared.fpr.Fpr.{Fpr}
use Rattle.wot_edge.specs.declared.path.Path.{Path}
use Rattle.wot_edge.specs.declared.path.Step.{Step}
use Rattle.wot_edge.specs.Record.{Has}
use Rattle.wot_edge.specs.Path.{Question, Use, use_of, Distinct, issuers, start, root_left, IsNextPath}
use Rattle.wot_edge.specs.Answer.{EachNext}
use Rattle.wot_check.specs.declared.growth.Growth.{Growth}
use Rattle.wot_check.specs.Table.{Labels, label_at, IsAtMost, IsTable}
use Rattle.wot_check.specs.Claim.{claim_of, Shows, EachShows}
use Rattle.wot_check.specs.Absence.{RootsSpent, IsLeast, LeastBy, IsLeft, IsMade, is_in_order}
use Rattle.wot_check.specs.Demand.{Covers}
use Rattle.wot_check.specs.Growth.{Labelled, Leads, IsLayered, Advances, CoversLayer, GrowsByLayer, LeadsFromLayer}
use Rattle.wot_check.specs.Growth.{IsAfter, IsSettled, IsRooted}
use Rattle.wot_check.proofs.Demands.{covers_last, covers_at}
use Rattle.wot_check.proofs.Trails.{Trail, trail_chain, trail_within, trail_positive, excludes_spent, disordered_spent}
use Rattle.wot_check.proofs.LabelsGiven.{leads_only, leads_label, covers_keeps}

module _ (q : Question) (used : Use) where
  -- ---- layers

  pub begun : (growth : Growth) → growth.table ≡ [] → growth.layer.items ≡ q.target ∷ [] → IsAfter q used 0 growth
  begun growth t l = record {
    layered = record {
      labels = λ fpr label e. let n : None ≡ Some label = sym (ap (λ (x : Labels). label_at x fpr) t) ∙ e in absurd cc;
      each = λ fpr h. elim (subst (λ (xs : List Fpr). Has xs fpr) l h) [
        | inl e ↦ record { steps = []; labelled = tt; long = refl; there = sym e }
        | inr k ↦ absurd k
      ];
      all = λ fpr d. subst (λ (xs : List Fpr). Has xs fpr) (sym l) (inl (by fpr d.steps d.long d.there));
    };
    covered = λ fewer at lt d. absurd (omega (arith, lt));
  }
    where
      by : (fpr : Fpr) (steps : List Step) → length steps ≡ 0 → start q.target steps ≡ fpr → fpr ≡ q.target
      by fpr [] e there = sym there
      by fpr (x ∷ steps) e there = absurd (omega (arith, e))

  -- the layer is taken out of the growth
  pub taken_out : (size : ℕ) (old now : Growth) → now.table ≡ old.table → now.layer.items ≡ [] → IsAfter q used size old
      → IsLayered q used (suc size) now
  taken_out size old now t l a = record {
    labels = λ fpr label e.
        let is = a.layered.labels fpr label (sym (ap (λ (x : Labels). label_at x fpr) t) ∙ e) in
        let few = is.few in
        record {
          leads = subst (λ (x : Labels). Leads q used x label fpr) (sym t) is.leads;
          some = is.some;
          few = omega (arith, few);
        };
    each = λ fpr h. absurd (subst (λ (xs : List Fpr). Has xs fpr) l h);
    all = λ fpr d.
        let few = (a.layered.labels fpr (suc size)
        (sym (ap (λ (x : Labels). label_at x fpr) t) ∙ leads_label q used now.table size fpr d)).few in
        absurd (omega (arith, few));
  }

  pub leads_out : (size : ℕ) (old : Growth) (layer : List Fpr) (table : Labels) → layer ≡ old.layer.items
      → table ≡ old.table → IsAfter q used size old → LeadsFromLayer q used size layer table
  leads_out size old layer table l t a at h =
      subst (λ (x : Labels). Leads q used x size at) (sym t)
      (a.layered.each at (subst (λ (xs : List Fpr). Has xs at) l h))

  -- one more layer is known
  pub goes_on : (size : ℕ) (old now new : Growth) (layer : List Fpr) → layer ≡ old.layer.items → now.table ≡ old.table
      → IsAfter q used size old → Advances q used size now new → CoversLayer q used size layer new.table
      → IsAfter q used (suc size) new
  goes_on size old now new layer l t a adv c = record {
    layered = adv.layered;
    covered = λ fewer at lt d.
        let d' = leads_only q used size now.table new.table adv.extends fewer at (omega (arith, lt)) d in
        let before = subst (λ (x : Labels). Leads q used x fewer at) t d' in
        elim (cases_lt fewer size) [
          | inl less ↦ covers_keeps q used size now.table new.table adv.extends fewer at
              (subst (λ (x : Labels). Covers q used fewer x at) (sym t) (a.covered fewer at less before))
          | inr le ↦
              let e : size ≡ fewer = omega (arith, lt, le) in
              subst (λ (n : ℕ). Covers q used n new.table at) e
              (c at (subst (λ (xs : List Fpr). Has xs at) (sym l)
              (a.layered.all at (subst (λ (n : ℕ). Leads q used old.table n at) (sym e) before))))
        ];
  }

  pub advanced : (size : ℕ) (old now new : Growth) (layer : List Fpr) → layer ≡ old.layer.items → now.table ≡ old.table
      → now.layer.items ≡ [] → GrowsByLayer q used size layer now new → IsAfter q used size old
      → IsAfter q used (suc size) new
  advanced size old now new layer l t e grows a =
      let g = grows (leads_out size old layer now.table l t a) (taken_out size old now t e a) in
      goes_on size old now new layer l t a g.0 g.1

  -- ---- the end

  -- Nothing is left to consider: the layer is empty, or all labels are given.
  pub settled : (size : ℕ) (growth : Growth) → 0 < size → size ≤ 255 → (length growth.layer.items ≡ 0) ⊎ (size ≡ 255)
      → IsAfter q used size growth → IsSettled q used growth.table
  settled size growth pos le done a = record {
    closes = record {
      last = covers_last q used growth.table (λ fpr label e. (a.layered.labels fpr label e).some)
          (a.covered 0 q.target pos (record { steps = []; labelled = tt; long = refl; there = refl }));
      others = λ at label row e lt m.
          let is = a.layered.labels at label e in
          let few = is.few in
          covers_at q used growth.table at label is.some (elim (cases_lt label size) [
            | inl less ↦ a.covered label at less is.leads
            | inr more ↦ absurd (elim done [
              | inl z ↦ nothing growth.layer.items at z
                  (a.layered.all at
                  (subst (λ (n : ℕ). Leads q used growth.table n at) (omega (arith, few, more)) is.leads))
              | inr all ↦ omega (arith, more, all, lt)
            ])
          ]) row m;
    };
    labels = λ fpr label e. let is =
        a.layered.labels fpr label e in let few =
        is.few in record { leads = is.leads; some = is.some; few = omega (arith, few, le) };
  }
    where
      nothing : (xs : List Fpr) (x : Fpr) → length xs ≡ 0 → Has xs x → ⊥
      nothing [] x e h = h
      nothing (y ∷ xs) x e h = omega (arith, e)

  -- ---- what labels say

  pub labelled_trail : (table : Labels) (steps : List Step) → Labelled q used table steps → Trail q used steps
  labelled_trail table [] l = tt
  labelled_trail table (x ∷ rest) l = (l.1, l.2, labelled_trail table rest l.3)

  issuer_label : (table : Labels) (steps : List Step) → Labelled q used table steps → (fpr : Fpr)
      → Has (issuers steps) fpr → (label : ℕ) × (label_at table fpr ≡ Some label) × (label ≤ length steps)
  issuer_label table [] l fpr h = absurd h
  issuer_label table (x ∷ rest) l fpr (inl e) = (length (x ∷ rest), ap (label_at table) e ∙ l.0, omega arith)
  issuer_label table (x ∷ rest) l fpr (inr h) =
      let i = issuer_label table rest l.3 fpr h in (i.0, i.1, let le = i.2 in omega (arith, le))

  some_is : (a b : ℕ) → Some a ≡ Some b → a ≡ b
  some_is a b e = cc

  labelled_distinct : (table : Labels) (steps : List Step) → Labelled q used table steps → Distinct (issuers steps)
  labelled_distinct table [] l = tt
  labelled_distinct table (x ∷ rest) l = (
    λ h.
        let i = issuer_label table rest l.3 x.issuer h in
        let e = some_is i.0 (length (x ∷ rest)) (sym i.1 ∙ l.0) in
        let le = i.2 in
        omega (arith, e, le),
    labelled_distinct table rest l.3,
  )

  -- A labelled fingerprint that is a root with a residual amount begins a valid path of positive amount.
  pub rooted_left : (table : Labels) → is_in_order q ≡ true → IsSettled q used table → IsRooted q used table
      → IsLeft q used
  rooted_left table ok s r =
      let is = s.labels r.fpr r.label r.labelled in
      let steps = is.leads.steps in
      let left : 0 < root_left q used (start q.target steps) =
      subst (λ (f : Fpr). 0 < root_left q used f) (sym is.leads.there) r.left in
      let t = labelled_trail table steps is.leads.labelled in
      let long = is.leads.long in
      let some = is.some in
      let few = is.few in (
        steps,
        (
          record {
            some = omega (arith, long, some);
            few = omega (arith, long, few);
            chain = trail_chain q used steps t;
            distinct = labelled_distinct table steps is.leads.labelled;
            root = omega (arith, left);
            in_order = ok;
          },
          trail_positive q used (root_left q used (start q.target steps)) steps t left,
        ),
      )

  pub settled_least : (table : Labels) → IsSettled q used table → IsLeast q used table
  settled_least table s = record {
    closes = s.closes;
    least = λ other good c fpr label e.
        let is = s.labels fpr label e in
        let steps = is.leads.steps in
        let long = is.leads.long in
        let some = is.some in
        let few = is.few in
        let w = trail_within q used other c steps (labelled_trail table steps is.leads.labelled)
        (omega (arith, long, some)) (omega (arith, long, few)) in
        subst (λ (n : ℕ). IsAtMost n (label_at other fpr)) long
        (subst (λ (f : Fpr). IsAtMost (length steps) (label_at other f)) is.leads.there w);
  }

  -- ---- what is made

  pub made_spent : (table : Labels) → is_in_order q ≡ true → IsTable table → IsSettled q used table
      → RootsSpent q used table → IsMade q used (Some table)
  made_spent table ok t s r = (
    t,
    subst (λ (b : Bool). LeastBy b q used table) (sym ok) (settled_least table s),
    excludes_spent q used table (record { closes = s.closes; roots = r }),
  )

  pub made_disordered : (table : Labels) → is_in_order q ≡ false → IsTable table → table ≡ []
      → IsMade q used (Some table)
  made_disordered table f t e = (t, subst (λ (b : Bool). LeastBy b q used table) (sym f) e, disordered_spent q used f)

  pub made_none : (made : Option Labels) → IsMade q used made
      → (made ≡ None → IsLeft q used) × (IsLeft q used → made ≡ None)
  made_none None m = (λ e. m, λ l. refl)
  made_none (Some table) m = (λ e. absurd cc, λ l. absurd (m.2 l.0 l.1))

-- ---- the law of acceptance

next_shows : (q : Question) (used : Use) (path : Path) → IsNextPath q used path → Shows q used (claim_of path) path
next_shows q used path n =
    record {
      same = refl;
      valid = n.steps.0.0;
      root = n.root;
      amount = n.amount;
      positive = let e = n.amount in
          let p = n.steps.0.1 in omega (arith, e, p);
    }

pub each_next_shows : (q : Question) (earlier paths : List Path) → EachNext q earlier paths
    → EachShows q earlier (map claim_of paths) paths
each_next_shows q earlier [] n = tt
each_next_shows q earlier (path ∷ paths) n =
    (next_shows q (use_of earlier) path n.0, each_next_shows q (earlier ++ path ∷ []) paths n.1)
