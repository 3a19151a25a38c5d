-- Trails that cover others, and how they grow by layers.
use Rattle.std.proofs.Common.{◌≡◌, ◌⊎◌, inl, inr, ℕ, suc, ◌≤◌, Bool, true, false, cond, List, [], ◌∷◌, length, Ordering}
use Rattle.std.proofs.Common.{refl, sym, ap, subst, ◌∙◌, arith}
use Rattle.std.specs.Prelude.{◌&&◌, ◌||◌, nat_lt, nat_eq}
use Rattle.std.specs.declared.cmp.Ordering.TheVariants.{Less, Greater}
use Rattle.std.specs.Ordering.{is_lt, ordering_reverse}
use Rattle.std.specs.List.{AllByRecursion}
use Rattle.std.proofs.lemmas.Bool.{cases_lt, ltb-true, eqb-true, eq-eqb, and_parts, or_cases}
use Rattle.std.specs.Ordering.{ordering_then}
use Rattle.std.proofs.lemmas.Cmp.{tied_itself}
use Rattle.wot_types.specs.declared.fpr.Fpr.{Fpr}
use Rattle.wot_types.specs.Fpr.{same_fpr}
use Rattle.wot_types.specs.FprLaws.{same_fpr-true}
use Rattle.wot_edge.specs.declared.path.Step.{Step}
use Rattle.wot_edge.specs.Record.{Has}
use Rattle.wot_edge.specs.Path.{Question, Use, start}
use Rattle.wot_edge.specs.Order.{steps_cmp, step_cmp}
use Rattle.wot_edge.proofs.Layers.{is_better, kept}
use Rattle.wot_edge.specs.StepLaws.{is_lt-Less, step_total, steps_total}
use Rattle.std.proofs.Common.{lt-ltb}
use Rattle.wot_edge.proofs.Trail.{Serves, Trail}
use Rattle.wot_edge.proofs.Trail.{AtMost, AtMost-refl, AtMost-trans, AtMost-le, serves_shorter}

-- one of the trails begins at the same issuer, is at most as long, and isn't greater
abbrev pub Covers : Fpr → List (List Step) → List Step → Type 0
Covers target [] other = ⊥
Covers target (x ∷ xs) other = ((start target x ≡ start target other) × AtMost x other) ⊎ Covers target xs other

pub Covers-has : (target : Fpr) (xs : List (List Step)) (other : List Step) → Covers target xs other
    → (x : List Step) × Has xs x × (start target x ≡ start target other) × AtMost x other
Covers-has target [] other c = absurd c
Covers-has target (x ∷ xs) other (inl c) = (x, inl refl, c.0, c.1)
Covers-has target (x ∷ xs) other (inr c) = let o = Covers-has target xs other c in (o.0, inr o.1, o.2, o.3)

pub has-Covers : (target : Fpr) (xs : List (List Step)) (x other : List Step) → Has xs x
    → start target x ≡ start target other → AtMost x other → Covers target xs other
has-Covers target [] x other h e a = absurd h
has-Covers target (y ∷ xs) x other (inl p) e a =
    inl (subst (λ (z : List Step). (start target z ≡ start target other) × AtMost z other) p (e, a))
has-Covers target (y ∷ xs) x other (inr h) e a = inr (has-Covers target xs x other h e a)

-- what covers a trail covers what that one is at most
pub Covers-trans : (target : Fpr) (xs : List (List Step)) (a b : List Step) → Covers target xs a
    → start target a ≡ start target b → AtMost a b → Covers target xs b
Covers-trans target [] a b c e m = absurd c
Covers-trans target (x ∷ xs) a b (inl c) e m = inl (c.0 ∙ e, AtMost-trans x a b c.1 m)
Covers-trans target (x ∷ xs) a b (inr c) e m = inr (Covers-trans target xs a b c e m)

-- everything that one list covers, another covers too
abbrev pub CoversAll : Fpr → List (List Step) → List (List Step) → Type 0
CoversAll target xs ys = (other : List Step) → Covers target xs other → Covers target ys other

-- every trail of at most this many edges is covered
abbrev pub IsComplete : Question → Use → ℕ → ℕ → List (List Step) → Type 0
IsComplete q used least most found =
    (other : List Step) → 1 ≤ length other → length other ≤ most → Trail q used least other
    → Covers q.target found other

-- each is a trail of at most this many edges
pub record IsFound (q : Question) (used : Use) (least most : ℕ) (rows : List Step) : Type 0 where
  pub some : 1 ≤ length rows
  pub few : length rows ≤ most
  pub trail : Trail q used least rows

-- the trails of exactly this many edges, with each edge before them that serves, are covered
abbrev pub IsGrown : Question → Use → ℕ → ℕ → List (List Step) → List (List Step) → Type 0
IsGrown q used least size old new =
    (rows : List Step) → Has old rows → length rows ≡ size → (row : Step) → Serves q used least row rows
    → Covers q.target new (row ∷ rows)

cons_most : (row : Step) (a b : List Step) → AtMost a b → AtMost (row ∷ a) (row ∷ b)
cons_most row a b (inl lt) = inl (omega arith)
cons_most row a b (inr (e, n)) =
    inr (
      omega arith,
      λ l. n (let t : ordering_then (step_cmp row row) (steps_cmp b a) ≡ Less = l in
          subst (λ (o : Ordering). ordering_then o (steps_cmp b a) ≡ Less) (tied_itself step_total row) t),
    )

-- One layer more: what covers all trails of at most `size` edges covers, once grown, all trails of one edge more.
pub grown_complete : (q : Question) (used : Use) (least size : ℕ) (old new : List (List Step)) → 1 ≤ size
    → AllByRecursion (IsFound q used least size) old → IsComplete q used least size old → CoversAll q.target old new
    → IsGrown q used least size old new
    → IsComplete q used least (suc size) new
grown_complete q used least size old new pos founds complete keeps grown [] some few t = absurd (omega arith)
grown_complete q used least size old new pos founds complete keeps grown (row ∷ rest) some few t =
    elim (cases_lt (length rest) size) [
      | inl lt ↦ keeps (row ∷ rest) (complete (row ∷ rest) (omega arith) (omega arith) t)
      | inr le ↦
          let as_long : length rest ≡ size = omega arith in
          let c = Covers-has q.target old rest (complete rest (omega arith) (omega arith) t.1) in
          let f = found c.0 old c.1 founds in
          let le' = AtMost-le c.0 rest c.3 in
          let s : Serves q used least row c.0 = serves_shorter q used least row rest c.0 (omega arith) f.some le' c.2
          t.0 in
          elim (cases_lt (length c.0) size) [
            | inl lt ↦ Covers-trans q.target new (row ∷ c.0) (row ∷ rest)
                (keeps (row ∷ c.0) (complete (row ∷ c.0) (omega arith) (omega arith) (s, f.trail))) refl
                (cons_most row c.0 rest c.3)
            | inr ge ↦ Covers-trans q.target new (row ∷ c.0) (row ∷ rest) (grown c.0 c.1 (omega arith) row s) refl
                (cons_most row c.0 rest c.3)
          ]
    ]
  where
    found : (x : List Step) (xs : List (List Step)) → Has xs x → AllByRecursion (IsFound q used least size) xs
        → IsFound q used least size x
    found x [] h a = absurd h
    found x (y ∷ xs) (inl e) a = subst (IsFound q used least size) (sym e) a.0
    found x (y ∷ xs) (inr h) a = found x xs h a.1

-- the first layer
pub first_complete : (q : Question) (used : Use) (least : ℕ) (new : List (List Step))
    → ((row : Step) → Serves q used least row [] → Covers q.target new (row ∷ [])) → IsComplete q used least 1 new
first_complete q used least new c [] some few t = absurd (omega arith)
first_complete q used least new c (row ∷ []) some few t = c row t.0
first_complete q used least new c (row ∷ next ∷ rest) some few t = absurd (omega arith)

-- ---- keeping the better of two from one issuer

pub better_most : (a b : List Step) → is_better a b ≡ true → AtMost a b
better_most a b e = elim (or_cases (nat_lt (length a) (length b)) _ e) [
  | inl f ↦ inl (ltb-true (length a) (length b) f)
  | inr f ↦ let g = and_parts (nat_eq (length a) (length b)) (is_lt (steps_cmp a b)) f in
      inr (
        eqb-true (length a) (length b) g.0,
        λ l. let h : steps_cmp a b ≡ Greater =
            steps_total.antisymm a b ∙ ap ordering_reverse l in let k : steps_cmp a b ≡ Less =
            is_lt-Less (steps_cmp a b) g.1 in cc,
      )
]

pub worse_most : (a b : List Step) → is_better a b ≡ false → AtMost b a
worse_most a b e = elim (cases_lt (length b) (length a)) [
  | inl lt ↦ inl lt
  | inr le ↦ elim (cases_lt (length a) (length b)) [
    | inl lt ↦ absurd
        (let l : nat_lt (length a) (length b) ≡ true = lt-ltb (length a) (length b) lt in
        let f : is_better a b ≡ true = rw l refl in cc)
    | inr ge ↦ inr (
      omega arith,
      λ l.
          let same : length a ≡ length b = omega arith in
          let f : is_better a b ≡ true =
          at (nat_lt (length a) (length b)) (nat_eq (length a) (length b)) (steps_cmp a b)
          (eq-eqb (length a) (length b) same) l in cc,
    )
  ]
]
  where
    at : (m n : Bool) (o : Ordering) → n ≡ true → o ≡ Less → (m || (n && is_lt o)) ≡ true
    at true n o e f = refl
    at false n o e f = rw (e, f) refl

module _ (target : Fpr) (p : List Step) where
  pub kept-covers : (xs : List (List Step)) → Covers target (kept target p xs) p
  kept-covers [] = inl (refl, AtMost-refl p)
  kept-covers (x ∷ xs) = by (kept-covers xs) (same_fpr (start target p) (start target x)) (is_better p x) refl refl
    where
      by : Covers target (kept target p xs) p → (s b : Bool) → same_fpr (start target p) (start target x) ≡ s
          → is_better p x ≡ b → Covers target (cond s (cond b (p ∷ xs) (x ∷ xs)) (x ∷ kept target p xs)) p
      by ih true true e f = inl (refl, AtMost-refl p)
      by ih true false e f = inl (sym (same_fpr-true (start target p) (start target x) e), worse_most p x f)
      by ih false b e f = inr ih

  pub kept-keeps : (xs : List (List Step)) → CoversAll target xs (kept target p xs)
  kept-keeps [] other c = absurd c
  kept-keeps (x ∷ xs) other c =
      by (λ d. kept-keeps xs other d) (same_fpr (start target p) (start target x)) (is_better p x) refl refl c
    where
      by : (Covers target xs other → Covers target (kept target p xs) other) → (s b : Bool)
          → same_fpr (start target p) (start target x) ≡ s → is_better p x ≡ b → Covers target (x ∷ xs) other
          → Covers target (cond s (cond b (p ∷ xs) (x ∷ xs)) (x ∷ kept target p xs)) other
      by ih true true e f (inl c) =
          inl (same_fpr-true (start target p) (start target x) e ∙ c.0, AtMost-trans p x other (better_most p x f) c.1)
      by ih true true e f (inr c) = inr c
      by ih true false e f c = c
      by ih false b e f (inl c) = inl c
      by ih false b e f (inr c) = inr (ih c)

  pub kept-all : (P : List Step → Type 0) (xs : List (List Step)) → P p → AllByRecursion P xs
      → AllByRecursion P (kept target p xs)
  kept-all P [] h a = (h, tt)
  kept-all P (x ∷ xs) h a = by (kept-all P xs h a.1) (same_fpr (start target p) (start target x)) (is_better p x)
    where
      by : AllByRecursion P (kept target p xs) → (s b : Bool)
          → AllByRecursion P (cond s (cond b (p ∷ xs) (x ∷ xs)) (x ∷ kept target p xs))
      by ih true true = (h, a.1)
      by ih true false = a
      by ih false b = (a.0, ih)
