-- How labels are given, edge by edge and layer by layer.
use Rattle.std.proofs.Common.{◌≡◌, ◌⊎◌, inl, inr, ℕ, suc, ◌+◌, ◌≤◌, Bool, true, false, cond, List, [], ◌∷◌, ◌++◌}
use Rattle.std.proofs.Common.{length, Option, Some, None, refl, sym, ap, subst, ◌∙◌, arith, not}
use Rattle.std.specs.Prelude.{◌&&◌, is_some}
use Rattle.wot_types.specs.declared.fpr.Fpr.{Fpr}
use Rattle.wot_types.specs.Fpr.{same_fpr}
use Rattle.wot_types.specs.FprLaws.{same_fpr-true, same_fpr-refl}
use Rattle.wot_edge.specs.declared.edge.EdgeFacts.{EdgeFacts}
use Rattle.wot_edge.specs.declared.path.Step.{Step}
use Rattle.wot_edge.specs.Record.{EachRow, Row, Has, rows_into, edges_into}
use Rattle.wot_edge.specs.Path.{Question, Use, Stands, start, step_of}
use Rattle.wot_check.specs.declared.growth.Growth.{Growth}
use Rattle.wot_edge.specs.declared.demand.Demand.{Demand}
use Rattle.wot_check.specs.Table.{Labels, label_at, IsAtMost}
use Rattle.wot_edge.specs.Demand.{demand_of}
use Rattle.wot_check.specs.Demand.{Covers, is_covered, may_stand}
use Rattle.wot_check.specs.Growth.{IsGiven, GivesIf, is_new, Labelled, Leads, IsLayered, Extends, Advances, GrowsInto}
use Rattle.wot_check.specs.Growth.{CoversLayer, LeadsFromLayer}
use Rattle.wot_check.proofs.Demands.{stands_reaches, within_some, some_within, covered_within, within_covered}
use Rattle.wot_edge.specs.RowLaws.{row_edge, row_there}
use Rattle.wot_check.proofs.Rows.{first_or_later, none_left}

-- ---- lists

has_push : {X : Type 0} (xs : List X) (x y : X) → Has (xs ++ x ∷ []) y → Has xs y ⊎ (y ≡ x)
has_push [] x y (inl e) = inr e
has_push [] x y (inr h) = absurd h
has_push (z ∷ xs) x y (inl e) = inl (inl e)
has_push (z ∷ xs) x y (inr h) = elim (has_push xs x y h) [ inl k ↦ inl (inr k) | inr e ↦ inr e ]

push_has : {X : Type 0} (xs : List X) (x y : X) → Has xs y ⊎ (y ≡ x) → Has (xs ++ x ∷ []) y
push_has [] x y (inl h) = absurd h
push_has [] x y (inr e) = inl e
push_has (z ∷ xs) x y (inl (inl e)) = inl e
push_has (z ∷ xs) x y (inl (inr h)) = inr (push_has xs x y (inl h))
push_has (z ∷ xs) x y (inr e) = inr (push_has xs x y (inr e))

some_is : (a b : ℕ) → Some a ≡ Some b → a ≡ b
some_is a b e = cc

-- ---- labelled steps in tables that grow

module _ (q : Question) (used : Use) where
  labelled_keeps : (size : ℕ) (old new : Labels) → Extends size old new → (steps : List Step)
      → Labelled q used old steps → Labelled q used new steps
  labelled_keeps size old new x [] l = tt
  labelled_keeps size old new x (step ∷ rest) l =
      (x.keeps step.issuer (length (step ∷ rest)) l.0, l.1, l.2, labelled_keeps size old new x rest l.3)

  labelled_only : (size : ℕ) (old new : Labels) → Extends size old new → (steps : List Step) → length steps ≤ size
      → Labelled q used new steps → Labelled q used old steps
  labelled_only size old new x [] le l = tt
  labelled_only size old new x (step ∷ rest) le l = (
    x.only step.issuer (length (step ∷ rest)) le l.0,
    l.1,
    l.2,
    labelled_only size old new x rest (omega (arith, le)) l.3,
  )

  pub leads_keeps : (size : ℕ) (old new : Labels) → Extends size old new → (many : ℕ) (fpr : Fpr)
      → Leads q used old many fpr → Leads q used new many fpr
  leads_keeps size old new x many fpr l =
      record {
        steps = l.steps;
        labelled = labelled_keeps size old new x l.steps l.labelled;
        long = l.long;
        there = l.there;
      }

  pub leads_only : (size : ℕ) (old new : Labels) → Extends size old new → (many : ℕ) (fpr : Fpr) → many ≤ size
      → Leads q used new many fpr → Leads q used old many fpr
  leads_only size old new x many fpr le l =
      let e = l.long in
      record {
        steps = l.steps;
        labelled = labelled_only size old new x l.steps (omega (arith, e, le)) l.labelled;
        long = l.long;
        there = l.there;
      }

  -- the start of steps has their number as its label
  pub leads_label : (table : Labels) (n : ℕ) (fpr : Fpr) → Leads q used table (suc n) fpr
      → label_at table fpr ≡ Some (suc n)
  leads_label table n fpr l = by l.steps l.labelled l.long l.there
    where
      by : (steps : List Step) → Labelled q used table steps → length steps ≡ suc n → start q.target steps ≡ fpr
          → label_at table fpr ≡ Some (suc n)
      by [] m e t = absurd (omega (arith, e))
      by (step ∷ rest) m e t = subst (λ (f : Fpr). label_at table f ≡ Some (suc n)) t (m.0 ∙ ap Some e)

  pub extends_refl : (size : ℕ) (table : Labels) → Extends size table table
  extends_refl size table = record { keeps = λ fpr label e. e; only = λ fpr label le e. e }

  pub extends_trans : (size : ℕ) (a b c : Labels) → Extends size a b → Extends size b c → Extends size a c
  extends_trans size a b c x y = record {
    keeps = λ fpr label e. y.keeps fpr label (x.keeps fpr label e);
    only = λ fpr label le e. x.only fpr label le (y.only fpr label le e);
  }

  pub covered_keeps : (size : ℕ) (old new : Labels) → Extends size old new → (demand : Demand) (most : ℕ) (row : Row)
      → is_covered q.target used demand most old row ≡ true → is_covered q.target used demand most new row ≡ true
  covered_keeps size old new x demand most row c = within_covered q.target used demand most new row (λ s.
      let w = within_some most (label_at old row.edge.issuer) (covered_within q.target used demand most old row c s) in
      some_within most w.0 (label_at new row.edge.issuer) (x.keeps row.edge.issuer w.0 w.1) w.2)

  pub covers_keeps : (size : ℕ) (old new : Labels) → Extends size old new → (many : ℕ) (at : Fpr)
      → Covers q used many old at → Covers q used many new at
  covers_keeps size old new x many at c row h = covered_keeps size old new x (demand_of q many) (many + 1) row (c row h)

  -- ---- one edge

  module _ (size : ℕ) (old new : Growth) (fpr : Fpr) (given : IsGiven old new fpr (size + 1))
      (none : label_at old.table fpr ≡ None) where
    given_keeps : (other : Fpr) (label : ℕ) → label_at old.table other ≡ Some label
        → label_at new.table other ≡ Some label
    given_keeps other label e = by (same_fpr fpr other) refl (given.labels other)
      where
        by : (b : Bool) → same_fpr fpr other ≡ b
            → label_at new.table other ≡ cond b (Some (size + 1)) (label_at old.table other)
            → label_at new.table other ≡ Some label
        by false f g = g ∙ e
        by true f g =
            let n : None ≡ Some label = sym none ∙ ap (label_at old.table) (same_fpr-true fpr other f) ∙ e in absurd cc

    -- what is labelled now was so before, or is this one
    given_cases : (other : Fpr) (label : ℕ) → label_at new.table other ≡ Some label
        → (label_at old.table other ≡ Some label) ⊎ ((other ≡ fpr) × (label ≡ size + 1))
    given_cases other label e = by (same_fpr fpr other) refl (given.labels other)
      where
        by : (b : Bool) → same_fpr fpr other ≡ b
            → label_at new.table other ≡ cond b (Some (size + 1)) (label_at old.table other)
            → (label_at old.table other ≡ Some label) ⊎ ((other ≡ fpr) × (label ≡ size + 1))
        by false f g = inl (sym g ∙ e)
        by true f g = inr (sym (same_fpr-true fpr other f), some_is label (size + 1) (sym e ∙ g))

    given_extends : Extends size old.table new.table
    given_extends = record {
      keeps = given_keeps;
      only = λ other label le e. elim (given_cases other label e)
          [ inl o ↦ o | inr s ↦ let n = s.1 in absurd (omega (arith, le, n)) ];
    }

    given_at : label_at new.table fpr ≡ Some (size + 1)
    given_at = given.labels fpr
        ∙ ap (λ (b : Bool). cond b (Some (size + 1)) (label_at old.table fpr)) (same_fpr-refl fpr)

    module _ (at : Fpr) (row : Row) (h : Has (rows_into q.network at) row) (issuer : row.edge.issuer ≡ fpr)
        (carries : may_stand q.target used (demand_of q size) row ≡ true) (from : Leads q used old.table size at) where
      given_leads : Leads q used new.table (suc size) fpr
      given_leads =
          let s = stands_reaches q used row from.steps
          (subst (λ (n : ℕ). may_stand q.target used (demand_of q n) row ≡ true) (sym from.long) carries) in
          let e : suc (length from.steps) ≡ suc size = ap suc from.long in
          let label : label_at new.table row.edge.issuer ≡ Some (length (step_of row.edge ∷ from.steps)) =
          ap (label_at new.table) issuer ∙ given_at ∙ ap Some (omega (arith, e)) in
          let step : Stands q (step_of row.edge) from.steps =
          record {
            row = row;
            into = subst (λ (f : Fpr). Has (rows_into q.network f) row) (sym from.there) h;
            usable = s.1.usable;
            shown = refl;
            reaches = s.0;
          } in
          record {
            steps = step_of row.edge ∷ from.steps;
            labelled = (
              label,
              step,
              s.1.left,
              labelled_keeps size old.table new.table given_extends from.steps from.labelled,
            );
            long = e;
            there = issuer;
          }

      pub given_advances : IsLayered q used (suc size) old → Advances q used size old new
      given_advances l = record {
        layered = record {
          labels = λ other label e. elim (given_cases other label e) [
            | inl o ↦ let is =
                l.labels other label o in
                record {
                  leads = leads_keeps size old.table new.table given_extends label other is.leads;
                  some = is.some;
                  few = is.few;
                }
            | inr s ↦
                let n : suc size ≡ label = (let e' = s.1 in omega (arith, e')) in
                record {
                  leads = subst (λ (f : Fpr). Leads q used new.table label f) (sym s.0)
                      (subst (λ (m : ℕ). Leads q used new.table m fpr) n given_leads);
                  some = omega (arith, n);
                  few = omega (arith, n);
                }
          ];
          each = λ other k.
              elim (has_push old.layer.items fpr other (subst (λ (xs : List Fpr). Has xs other) given.layer k)) [
                | inl o ↦ leads_keeps size old.table new.table given_extends (suc size) other (l.each other o)
                | inr e ↦ subst (λ (f : Fpr). Leads q used new.table (suc size) f) (sym e) given_leads
              ];
          all = λ other k. subst (λ (xs : List Fpr). Has xs other) (sym given.layer)
              (push_has old.layer.items fpr other
              (elim (given_cases other (suc size) (leads_label new.table size other k)) [
                | inl o ↦ inl (l.all other (l.labels other (suc size) o).leads)
                | inr s ↦ inr s.0
              ]));
        };
        extends = given_extends;
      }

  pub same_advances : (size : ℕ) (old new : Growth) → old ≡ new → IsLayered q used (suc size) old
      → Advances q used size old new
  same_advances size old new e l =
      subst (λ (g : Growth). Advances q used size old g) e
      (record { layered = l; extends = extends_refl size old.table })

  pub advances_refl : (size : ℕ) (growth : Growth) → IsLayered q used (suc size) growth
      → Advances q used size growth growth
  advances_refl size growth l = record { layered = l; extends = extends_refl size growth.table }

  pub advances_trans : (size : ℕ) (a b c : Growth) → Advances q used size a b → Advances q used size b c
      → Advances q used size a c
  advances_trans size a b c x y =
      record { layered = y.layered; extends = extends_trans size a.table b.table c.table x.extends y.extends }

  is_some-none : (o : Option ℕ) → not (is_some o) ≡ true → o ≡ None
  is_some-none None e = refl
  is_some-none (Some x) e = absurd cc

  some_label : (o : Option ℕ) → not (is_some o) ≡ false → (label : ℕ) × (o ≡ Some label)
  some_label None e = absurd cc
  some_label (Some x) e = (x, refl)

  -- One edge: the layer grew, and the labels cover its row.
  module _ (size : ℕ) (old new : Growth) (at : Fpr) (row : Row) (h : Has (rows_into q.network at) row)
      (given : GivesIf (is_new q.target used (demand_of q size) old.table row) old new row.edge.issuer (size + 1))
      (from : Leads q used old.table size at) (layered : IsLayered q used (suc size) old) where
    abbrev Grown : Type 0
    Grown = Advances q used size old new × (is_covered q.target used (demand_of q size) (size + 1) new.table row ≡ true)

    grown_given : label_at old.table row.edge.issuer ≡ None → may_stand q.target used (demand_of q size) row ≡ true
        → IsGiven old new row.edge.issuer (size + 1) → Grown
    grown_given n s g = (
      given_advances size old new row.edge.issuer g n at row h refl s from layered,
      within_covered q.target used (demand_of q size) (size + 1) new.table row
          (λ s'. some_within (size + 1) (size + 1) (label_at new.table row.edge.issuer)
          (given_at size old new row.edge.issuer g n) (omega arith)),
    )

    grown_same : (may_stand q.target used (demand_of q size) row ≡ true
        → IsAtMost (size + 1) (label_at old.table row.edge.issuer)) → old ≡ new → Grown
    grown_same w e = (
      same_advances size old new e layered,
      subst (λ (g : Growth). is_covered q.target used (demand_of q size) (size + 1) g.table row ≡ true) e
          (within_covered q.target used (demand_of q size) (size + 1) old.table row w),
    )

    grown_labelled : not (is_some (label_at old.table row.edge.issuer)) ≡ false → old ≡ new → Grown
    grown_labelled f e = grown_same (λ s.
        let l = some_label (label_at old.table row.edge.issuer) f in
        let few = (layered.labels row.edge.issuer l.0 l.1).few in
        some_within (size + 1) l.0 (label_at old.table row.edge.issuer) l.1 (omega (arith, few))) e

    pub grown_edge : Grown
    grown_edge = by (not (is_some (label_at old.table row.edge.issuer)))
        (may_stand q.target used (demand_of q size) row) refl refl given
      where
        by : (a b : Bool) → not (is_some (label_at old.table row.edge.issuer)) ≡ a
            → may_stand q.target used (demand_of q size) row ≡ b → GivesIf (a && b) old new row.edge.issuer (size + 1)
            → Grown
        by true true f s g = grown_given (is_some-none (label_at old.table row.edge.issuer) f) s g
        by true false f s g = grown_same (λ s'. absurd cc) g
        by false b f s g = grown_labelled f g

-- ---- edge by edge

module _ (q : Question) (used : Use) (size : ℕ) where
  -- the layer grew, and each edge into a fingerprint is covered or still to be considered
  pub record GrewInto (at : Fpr) (old new : Growth) (rest : List EdgeFacts) : Type 0 where
    pub advances : Advances q used size old new
    pub covered : (row : Row) → Has (rows_into q.network at) row
        → (is_covered q.target used (demand_of q size) (size + 1) new.table row ≡ true) ⊎ Has rest row.edge

  pub grew_begin : (at : Fpr) (growth : Growth) (edges : List EdgeFacts) → edges ≡ edges_into q.network at
      → IsLayered q used (suc size) growth → GrewInto at growth growth edges
  grew_begin at growth edges e l = record {
    advances = advances_refl q used size growth l;
    covered = λ row h. inr (subst (λ (xs : List EdgeFacts). Has xs row.edge) (sym e) (row_edge q.network at row h));
  }

  pub grew_more : (at : Fpr) (old mid new : Growth) (rest later : List EdgeFacts) (edge : EdgeFacts)
      → rest ≡ edge ∷ later → edge.target ≡ at → Has (edges_into q.network at) edge → Leads q used old.table size at
      → EachRow q.network edge
      (λ row. GivesIf (is_new q.target used (demand_of q size) mid.table row) mid new row.edge.issuer (size + 1))
      → GrewInto at old mid rest → GrewInto at old new later
  grew_more at old mid new rest later edge e t there from gives g =
      let from' = leads_keeps q used size old.table mid.table g.advances.extends size at from in
      let one : (row : Row) → Has (rows_into q.network at) row → row.edge ≡ edge
      → Advances q used size mid new
      × (is_covered q.target used (demand_of q size) (size + 1) new.table row ≡ true) =
      (λ row h f. grown_edge q used size mid new at row h
      (gives row (subst (λ (x : Fpr). Has (rows_into q.network x) row) (sym t) h) f) from' g.advances.layered) in
      let r = row_there q.network at edge there in
      let adv = (one r.0 r.1 r.2).0 in
      record {
        advances = advances_trans q used size old mid new g.advances adv;
        covered = λ row h. elim (g.covered row h) [
          | inl c ↦ inl (covered_keeps q used size mid.table new.table adv.extends (demand_of q size) (size + 1) row c)
          | inr k ↦ elim (first_or_later rest later edge row.edge e k) [
            | inl same ↦ inl (one row h same).1
            | inr k' ↦ inr k'
          ]
        ];
      }

  pub grew_end : (at : Fpr) (old new : Growth) (rest : List EdgeFacts) → length rest ≡ 0 → GrewInto at old new rest
      → Advances q used size old new × Covers q used size new.table at
  grew_end at old new rest e g =
      (g.advances, λ row h. elim (g.covered row h) [ inl c ↦ c | inr k ↦ absurd (none_left rest row.edge e k) ])

  -- ---- fingerprint by fingerprint

  pub record GrewBy (layer : List Fpr) (old new : Growth) (rest : List Fpr) : Type 0 where
    pub advances : Advances q used size old new
    pub covered : (at : Fpr) → Has layer at → Covers q used size new.table at ⊎ Has rest at

  pub grew_by_more : (layer : List Fpr) (old mid new : Growth) (rest later : List Fpr) (at : Fpr) → rest ≡ at ∷ later
      → Has layer at → LeadsFromLayer q used size layer old.table
      → GrowsInto q used size at mid new → GrewBy layer old mid rest → GrewBy layer old new later
  grew_by_more layer old mid new rest later at e there leads grows g =
      let from = leads_keeps q used size old.table mid.table g.advances.extends size at (leads at there) in
      let one = grows from g.advances.layered in
      record {
        advances = advances_trans q used size old mid new g.advances one.0;
        covered = λ x h. elim (g.covered x h) [
          | inl c ↦ inl (covers_keeps q used size mid.table new.table one.0.extends size x c)
          | inr k ↦ elim (first_or_later rest later at x e k) [
            | inl same ↦ inl (subst (λ (f : Fpr). Covers q used size new.table f) (sym same) one.1)
            | inr k' ↦ inr k'
          ]
        ];
      }

  pub grew_by_end : (layer : List Fpr) (old new : Growth) (rest : List Fpr) → length rest ≡ 0
      → GrewBy layer old new rest → Advances q used size old new × CoversLayer q used size layer new.table
  grew_by_end layer old new rest e g =
      (g.advances, λ at h. elim (g.covered at h) [ inl c ↦ c | inr k ↦ absurd (none_left rest at e k) ])
