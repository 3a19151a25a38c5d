-- Questions that agree on what was looked at have the same next path.
use Rattle.std.proofs.Common.{◌≡◌, inl, inr, ℕ, ◌<◌, ◌≤◌, ◌-◌, Bool, false, List, [], ◌∷◌, length, map, Some, refl, sym}
use Rattle.std.proofs.Common.{ap, subst, ◌∙◌, arith}
use Rattle.wot_types.specs.declared.fpr.Fpr.{Fpr}
use Rattle.wot_edge.specs.declared.edge.EdgeFacts.{EdgeFacts}
use Rattle.wot_edge.specs.declared.path.Path.{Path}
use Rattle.wot_edge.specs.declared.path.Step.{Step}
use Rattle.wot_edge.specs.Agree.{Agree, scoped_edge}
use Rattle.wot_edge.specs.Record.{Row, Has, rows_into, entry_at}
use Rattle.wot_edge.specs.Roots.{root_amount}
use Rattle.wot_edge.specs.Path.{Question, Use, Reaches, start, step_of, step_left, root_left, least_left, path_amount}
use Rattle.wot_edge.specs.Path.{IsOpen, IsNext, IsNextPath, IsSpent, Precedes}
use Rattle.wot_first_path.specs.Suffix.{Suffix}
use Rattle.wot_first_path.specs.Looked.{IsLooked}
use Rattle.wot_first_path.proofs.Rooted.{widest_quest, valid_suffix, suffix_valid}
use Rattle.wot_reach.proofs.Within.{open_within}

-- the row of that edge and scope
twin : (xs ys : List Row) (y : Row) → map scoped_edge xs ≡ map scoped_edge ys → Has ys y
    → (x : Row) × Has xs x × (x.edge ≡ y.edge) × (x.scope ≡ y.scope)
twin [] [] y e h = absurd h
twin [] (z ∷ ys) y e h = absurd cc
twin (x ∷ xs) [] y e h = absurd cc
twin (x ∷ xs) (z ∷ ys) y e (inl f) =
    let a : scoped_edge x ≡ scoped_edge z = cc in (
      x,
      inl refl,
      ap (λ (p : EdgeFacts × Bool). p.0) a ∙ ap (λ (r : Row). r.edge) (sym f),
      ap (λ (p : EdgeFacts × Bool). p.1) a ∙ ap (λ (r : Row). r.scope) (sym f),
    )
twin (x ∷ xs) (z ∷ ys) y e (inr h) =
    let e' : map scoped_edge xs ≡ map scoped_edge ys = cc in let t = twin xs ys y e' h in (t.0, inr t.1, t.2, t.3)

module _ (reach : Fpr → ℕ) (all : (fpr : Fpr) → reach fpr ≡ 255) (q other : Question) (used : Use) (n : ℕ)
    (set : List Fpr) (a : Agree q other set) (k : IsLooked (widest_quest reach q used) n (Has set)) where
  start_same : (rest : List Step) → start q.target rest ≡ start other.target rest
  start_same [] = a.target
  start_same (step ∷ rest) = refl

  target_in : 0 < n → Has set q.target
  target_in lt = (k [] lt tt).it

  reaches_there : (x y : Row) (rest : List Step) → 0 < n → x.edge ≡ y.edge → x.scope ≡ y.scope → Reaches q x rest
      → Reaches other y rest
  reaches_there x y [] lt e s r =
      sym (a.place q.target (target_in lt) ∙ ap (λ (f : Fpr). (entry_at other.network f).place) a.target) ∙ r
      ∙ ap (λ (z : EdgeFacts). Some z.uid) e
  reaches_there x y (next ∷ rest) lt e s r = (
    let d = ap (λ (z : EdgeFacts). z.depth) e in let m = r.0 in
        omega (arith, d, m),
    sym s ∙ r.1,
    λ f. r.2 (ap (λ (z : EdgeFacts). z.issuer) e ∙ f ∙ sym a.target),
  )

  reaches_here : (x y : Row) (rest : List Step) → 0 < n → x.edge ≡ y.edge → x.scope ≡ y.scope → Reaches other y rest
      → Reaches q x rest
  reaches_here x y [] lt e s r =
      a.place q.target (target_in lt) ∙ ap (λ (f : Fpr). (entry_at other.network f).place) a.target ∙ r
      ∙ ap (λ (z : EdgeFacts). Some z.uid) (sym e)
  reaches_here x y (next ∷ rest) lt e s r = (
    let d = ap (λ (z : EdgeFacts). z.depth) e in let m = r.0 in
        omega (arith, d, m),
    s ∙ r.1,
    λ f. r.2 (ap (λ (z : EdgeFacts). z.issuer) (sym e) ∙ f ∙ a.target),
  )

  there : (steps : List Step) → length steps ≤ n → Suffix (widest_quest reach q used) steps
      → Suffix (widest_quest reach other used) steps
  there [] le t = tt
  there (step ∷ rest) le t =
      let seen = k rest (omega (arith, le)) t.1 in
      let s = t.0.usable_edge in
      let y = twin (rows_into other.network (start q.target rest)) (rows_into q.network (start q.target rest)) s.row
      (sym (a.rows (start q.target rest) seen.it)) s.into in
      let left : 1 ≤ step_left used (step_of s.row.edge) =
      subst (λ (z : Step). 1 ≤ step_left used z) (sym s.shown) t.0.left in
      let far : length rest < reach s.row.edge.issuer =
      subst (λ (z : Step). length rest < reach z.issuer) (sym s.shown) t.0.high in
      let u = a.usable (start q.target rest) seen.it s.row y.0 s.into y.1 (sym y.2)
      (seen.issuers s.row s.into s.reaches left far) in (
        record {
          usable_edge = record {
            row = y.0;
            into = subst (λ (f : Fpr). Has (rows_into other.network f) y.0) (start_same rest) y.1;
            usable = sym u ∙ s.usable;
            shown = ap step_of y.2 ∙ s.shown;
            reaches = reaches_there s.row y.0 rest (omega (arith, le)) (sym y.2) (sym y.3) s.reaches;
          };
          left = t.0.left;
          high = t.0.high;
        },
        there rest (omega (arith, le)) t.1,
      )

  here : (steps : List Step) → length steps ≤ n → Suffix (widest_quest reach other used) steps
      → Suffix (widest_quest reach q used) steps
  here [] le t = tt
  here (step ∷ rest) le t =
      let before = here rest (omega (arith, le)) t.1 in
      let seen = k rest (omega (arith, le)) before in
      let s = t.0.usable_edge in
      let into' = subst (λ (f : Fpr). Has (rows_into other.network f) s.row) (sym (start_same rest)) s.into in
      let x = twin (rows_into q.network (start q.target rest)) (rows_into other.network (start q.target rest)) s.row
      (a.rows (start q.target rest) seen.it) into' in
      let shown : step_of x.0.edge ≡ step = ap step_of x.2 ∙ s.shown in
      let left : 1 ≤ step_left used (step_of x.0.edge) =
      subst (λ (z : Step). 1 ≤ step_left used z) (sym shown) t.0.left in
      let reaches = reaches_here x.0 s.row rest (omega (arith, le)) x.2 x.3 s.reaches in
      let far : length rest < reach x.0.edge.issuer =
      subst (λ (z : Step). length rest < reach z.issuer) (sym shown) t.0.high in
      let u = a.usable (start q.target rest) seen.it x.0 s.row x.1 into' x.2 (seen.issuers x.0 x.1 reaches left far) in (
        record {
          usable_edge = record { row = x.0; into = x.1; usable = u ∙ s.usable; shown = shown; reaches = reaches };
          left = t.0.left;
          high = t.0.high;
        },
        before,
      )

  -- at the start of a suffix both questions have the same root amount
  pub root_same : (steps : List Step) → 1 ≤ length steps → length steps ≤ n → Suffix (widest_quest reach q used) steps
      → root_amount q.roots (start q.target steps) ≡ root_amount other.roots (start other.target steps)
  root_same [] some le t = absurd (omega arith)
  root_same (step ∷ rest) some le t =
      let s = t.0.usable_edge in
      let left : 1 ≤ step_left used (step_of s.row.edge) =
      subst (λ (z : Step). 1 ≤ step_left used z) (sym s.shown) t.0.left in
      let far : length rest < reach s.row.edge.issuer =
      subst (λ (z : Step). length rest < reach z.issuer) (sym s.shown) t.0.high in
      let has : Has set s.row.edge.issuer = (k rest (omega (arith, le)) t.1).issuers s.row s.into s.reaches left far in
      a.roots step.issuer (subst (Has set) (ap (λ (z : Step). z.issuer) s.shown) has)

  left_same : (steps : List Step) → 1 ≤ length steps → length steps ≤ n → Suffix (widest_quest reach q used) steps
      → root_left q used (start q.target steps) ≡ root_left other used (start other.target steps)
  left_same [] some le t = absurd (omega arith)
  left_same (step ∷ rest) some le t = ap (λ (m : ℕ). m - used.root step.issuer) (root_same (step ∷ rest) some le t)

  amount_same : (steps : List Step) → 1 ≤ length steps → length steps ≤ n → Suffix (widest_quest reach q used) steps
      → path_amount q used steps ≡ path_amount other used steps
  amount_same steps some le t = ap (λ (m : ℕ). least_left used m steps) (left_same steps some le t)

  pub open_there : (steps : List Step) → length steps ≤ n → IsOpen q used steps → IsOpen other used steps
  open_there steps le o =
      let t = valid_suffix reach q used (open_within reach all q used) steps o in
      let v = o.0 in (
        record {
          some = v.some;
          few = v.few;
          chain = suffix_valid reach other used steps (there steps le t);
          distinct = v.distinct;
          root = subst (λ (m : ℕ). 0 < m) (root_same steps v.some le t) v.root;
          in_order = sym
              (a.in_order q.target (target_in (let s = v.some in omega (arith, s, le)))
              ∙ ap (λ (f : Fpr). (entry_at other.network f).in_order) a.target) ∙ v.in_order;
        },
        subst (λ (m : ℕ). 0 < m) (amount_same steps v.some le t) o.1,
      )

  pub open_here : (steps : List Step) → length steps ≤ n → IsOpen other used steps → IsOpen q used steps
  open_here steps le o =
      let t = here steps le (valid_suffix reach other used (open_within reach all other used) steps o) in
      let v = o.0 in (
        record {
          some = v.some;
          few = v.few;
          chain = suffix_valid reach q used steps t;
          distinct = v.distinct;
          root = subst (λ (m : ℕ). 0 < m) (sym (root_same steps v.some le t)) v.root;
          in_order = a.in_order q.target (target_in (let s = v.some in omega (arith, s, le)))
              ∙ ap (λ (f : Fpr). (entry_at other.network f).in_order) a.target ∙ v.in_order;
        },
        subst (λ (m : ℕ). 0 < m) (sym (amount_same steps v.some le t)) o.1,
      )

  pub open_amount : (steps : List Step) → length steps ≤ n → IsOpen q used steps
      → path_amount q used steps ≡ path_amount other used steps
  open_amount steps le o =
      amount_same steps o.0.some le (valid_suffix reach q used (open_within reach all q used) steps o)

  next_there : (steps : List Step) → length steps ≤ n → IsNext q used steps → IsNext other used steps
  next_there steps le x = (open_there steps le x.0, no)
    where
      no : (o : List Step) → IsOpen other used o → Precedes other used o steps → ⊥
      no o p (inl lt) = x.1 o (open_here o (omega (arith, lt, le)) p) (inl lt)
      no o p (inr (e, inl lt)) =
          let h = open_here o (omega (arith, e, le)) p in
          x.1 o h (inr (
            e,
            inl (let f = open_amount o (omega (arith, e, le)) h in let g = open_amount steps le x.0 in
                omega (arith, f, g, lt)),
          ))
      no o p (inr (e, inr (m, less))) =
          let h = open_here o (omega (arith, e, le)) p in
          x.1 o h (inr (e, inr (open_amount steps le x.0 ∙ m ∙ sym (open_amount o (omega (arith, e, le)) h), less)))

  pub start_there : (steps : List Step) → 1 ≤ length steps → start q.target steps ≡ start other.target steps
  start_there [] some = absurd (omega arith)
  start_there (step ∷ rest) some = refl

  pub next_path_there : (path : Path) → length path.steps ≤ n → IsNextPath q used path → IsNextPath other used path
  next_path_there path le x = record {
    steps = next_there path.steps le x.steps;
    root = x.root ∙ start_there path.steps x.steps.0.0.some;
    amount = x.amount ∙ open_amount path.steps le x.steps.0;
  }

pub spent_there : (reach : Fpr → ℕ) → ((fpr : Fpr) → reach fpr ≡ 255)
    → (q other : Question) (used : Use) (set : List Fpr) → Agree q other set
    → IsLooked (widest_quest reach q used) 255 (Has set) → IsSpent q used → IsSpent other used
spent_there reach all q other used set a k s steps o =
    s steps (open_here reach all q other used 255 set a k steps o.0.few o)

pub disordered_there : (q other : Question) (used : Use) (set : List Fpr) → Agree q other set → Has set q.target
    → (entry_at q.network q.target).in_order ≡ false → IsSpent other used
disordered_there q other used set a h e steps o =
    let f : (entry_at other.network other.target).in_order ≡ false =
    sym (a.in_order q.target h ∙ ap (λ (x : Fpr). (entry_at other.network x).in_order) a.target) ∙ e in
    let g = o.0.in_order in cc
