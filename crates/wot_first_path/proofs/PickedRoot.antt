-- The root of a layer that is taken.
use Rattle.std.proofs.Common.{◌≡◌, ◌⊎◌, inl, inr, ℕ, suc, ◌<◌, ◌≤◌, Bool, true, false, cond, List, [], ◌∷◌, length}
use Rattle.std.proofs.Common.{Ordering, Option, Some, None, refl, sym, ap, subst, ◌∙◌, arith, leb-true}
use Rattle.std.specs.Prelude.{nat_le}
use Rattle.std.specs.declared.cmp.Ordering.TheVariants.{Less, Equal, Greater}
use Rattle.std.specs.Ordering.{nat_cmp, is_lt, is_gt, ordering_reverse, ordering_then}
use Rattle.std.proofs.lemmas.Bool.{cases_lt, ltb-true, ltb-false, leb-false}
use Rattle.std.proofs.lemmas.Cmp.{upto, tied_itself}
use Rattle.wot_types.specs.declared.fpr.Fpr.{Fpr}
use Rattle.wot_types.specs.Fpr.{fpr_cmp}
use Rattle.wot_types.specs.FprLaws.{fpr_total, fpr_exact}
use Rattle.wot_edge.specs.declared.path.Step.{Step}
use Rattle.wot_edge.specs.Order.{steps_cmp}
use Rattle.wot_edge.specs.Record.{Has, IsRecord}
use Rattle.wot_edge.specs.Path.{Use, start, root_left}
use Rattle.wot_first_path.specs.declared.node.Choice.{Choice}
use Rattle.wot_first_path.specs.declared.node.Goal.{Goal}
use Rattle.wot_first_path.specs.declared.node.Goal.TheVariants.{Widest, Least}
use Rattle.wot_first_path.specs.Quest.{Quest}
use Rattle.wot_first_path.specs.Suffix.{Found, Kept, width}
use Rattle.wot_first_path.specs.Layer.{AtMost, IsAsGood, IsComplete, IsLayer}
use Rattle.wot_first_path.specs.Choice.{node_width, choice_at, is_ahead, ahead_of, taken, chosen}
use Rattle.wot_first_path.specs.Growth.{IsUnrooted, IsSmall}
use Rattle.wot_first_path.specs.Rooted.{Rooted, IsGood, IsFirst}
use Rattle.wot_first_path.proofs.Order.{not_less_itself}
use Rattle.wot_first_path.proofs.SuffixOrder.{AtMost-le}
use Rattle.wot_first_path.proofs.Suffixes.{kept_suffix, kept_one}
use Rattle.wot_first_path.proofs.Rooted.{good-trans, amount_width, as_good_good}

-- ---- behind

abbrev IsBehind : Goal → Choice → Choice → Type 0
IsBehind Widest a b = b.width ≤ a.width
IsBehind Least a b = is_gt (fpr_cmp a.fpr b.fpr) ≡ false

not_lt-gt : (o p : Ordering) → p ≡ ordering_reverse o → is_lt o ≡ false → is_gt p ≡ false
not_lt-gt Less p e f = absurd cc
not_lt-gt Equal p e f = subst (λ (x : Ordering). is_gt x ≡ false) (sym e) refl
not_lt-gt Greater p e f = subst (λ (x : Ordering). is_gt x ≡ false) (sym e) refl

lt-not_gt : (o : Ordering) → is_lt o ≡ true → is_gt o ≡ false
lt-not_gt Less f = refl
lt-not_gt Equal f = absurd cc
lt-not_gt Greater f = absurd cc

not_gt-itself : (a : Fpr) → is_gt (fpr_cmp a a) ≡ false
not_gt-itself a = subst (λ (x : Ordering). is_gt x ≡ false) (sym (tied_itself fpr_total a)) refl

behind-refl : (goal : Goal) (a : Choice) → IsBehind goal a a
behind-refl Widest a = omega arith
behind-refl Least a = not_gt-itself a.fpr

behind-trans : (goal : Goal) (a b c : Choice) → IsBehind goal a b → IsBehind goal b c → IsBehind goal a c
behind-trans Widest a b c m n = omega (arith, m, n)
behind-trans Least a b c m n = upto fpr_total a.fpr b.fpr c.fpr m n

ahead-behind : (goal : Goal) (a b : Choice) → is_ahead goal a b ≡ true → IsBehind goal a b
ahead-behind Widest a b e = (let lt = ltb-true b.width a.width e in omega (arith, lt))
ahead-behind Least a b e = lt-not_gt (fpr_cmp a.fpr b.fpr) e

unahead-behind : (goal : Goal) (a b : Choice) → is_ahead goal a b ≡ false → IsBehind goal b a
unahead-behind Widest a b e = ltb-false b.width a.width e
unahead-behind Least a b e = not_lt-gt (fpr_cmp a.fpr b.fpr) (fpr_cmp b.fpr a.fpr) (fpr_total.antisymm b.fpr a.fpr) e

-- ---- the choice

module _ (quest : Quest) (found : Found) where
  -- what is chosen among those that are done
  abbrev IsChosen : (Fpr → Type 0) → Option Choice → Type 0
  IsChosen done None = (fpr : Fpr) → done fpr → quest.least ≤ root_left quest.question quest.used fpr → ⊥
  IsChosen done (Some c) =
      (c ≡ choice_at quest found c.fpr) × done c.fpr × (quest.least ≤ root_left quest.question quest.used c.fpr)
      × ((fpr : Fpr) → done fpr → quest.least ≤ root_left quest.question quest.used fpr
      → IsBehind quest.goal c (choice_at quest found fpr))

  chosen-more : (done more : Fpr → Type 0) (o : Option Choice) → ((fpr : Fpr) → done fpr → more fpr)
      → ((fpr : Fpr) → more fpr → quest.least ≤ root_left quest.question quest.used fpr → done fpr) → IsChosen done o
      → IsChosen more o
  chosen-more done more None f g c = λ fpr d le. c fpr (g fpr d le) le
  chosen-more done more (Some o) f g c = (c.0, f o.fpr c.1, c.2, λ fpr d le. c.3 fpr (g fpr d le) le)

  abbrev Or : (Fpr → Type 0) → Fpr → Fpr → Type 0
  Or done at fpr = done fpr ⊎ (fpr ≡ at)

  ahead_is : (done : Fpr → Type 0) (at : Fpr) (o : Option Choice) → quest.least ≤ root_left quest.question quest.used at
      → IsChosen done o → IsChosen (Or done at) (Some (ahead_of quest.goal (choice_at quest found at) o))
  ahead_is done at None le c = (
    refl,
    inr refl,
    le,
    λ fpr d le'. elim d [
      | inl h ↦ absurd (c fpr h le')
      | inr e ↦ subst (λ (x : Fpr). IsBehind quest.goal (choice_at quest found at) (choice_at quest found x)) (sym e)
          (behind-refl quest.goal (choice_at quest found at))
    ],
  )
  ahead_is done at (Some o) le c = by (is_ahead quest.goal (choice_at quest found at) o) refl
    where
      by : (b : Bool) → is_ahead quest.goal (choice_at quest found at) o ≡ b
          → IsChosen (Or done at) (Some (cond b (choice_at quest found at) o))
      by true e = (
        refl,
        inr refl,
        le,
        λ fpr d le'. elim d [
          | inl h ↦ behind-trans quest.goal (choice_at quest found at) o (choice_at quest found fpr)
              (ahead-behind quest.goal (choice_at quest found at) o e) (c.3 fpr h le')
          | inr f ↦ subst (λ (x : Fpr). IsBehind quest.goal (choice_at quest found at) (choice_at quest found x))
              (sym f) (behind-refl quest.goal (choice_at quest found at))
        ],
      )
      by false e = (
        c.0,
        inl c.1,
        c.2,
        λ fpr d le'. elim d [
          | inl h ↦ c.3 fpr h le'
          | inr f ↦ subst (λ (x : Fpr). IsBehind quest.goal o (choice_at quest found x)) (sym f)
              (unahead-behind quest.goal (choice_at quest found at) o e)
        ],
      )

  taken_is : (done : Fpr → Type 0) (at : Fpr) (o : Option Choice) → IsChosen done o
      → IsChosen (Or done at) (taken quest found o at)
  taken_is done at o c = by (nat_le quest.least (root_left quest.question quest.used at)) refl
    where
      by : (b : Bool) → nat_le quest.least (root_left quest.question quest.used at) ≡ b
          → IsChosen (Or done at) (cond b (Some (ahead_of quest.goal (choice_at quest found at) o)) o)
      by true e = ahead_is done at o (leb-true quest.least (root_left quest.question quest.used at) e) c
      by false e = chosen-more done (Or done at) o (λ fpr d. inl d) (λ fpr d le. elim d [
        | inl h ↦ h
        | inr f ↦ absurd
            (let lt = leb-false quest.least (root_left quest.question quest.used at) e in
            let le' : quest.least ≤ root_left quest.question quest.used at =
            subst (λ (x : Fpr). quest.least ≤ root_left quest.question quest.used x) f le in
            omega (arith, lt, le'))
      ]) c

  chosen_from : (layer : List Fpr) (done : Fpr → Type 0) (o : Option Choice) → IsChosen done o
      → IsChosen (λ fpr. done fpr ⊎ Has layer fpr) (chosen quest found o layer)
  chosen_from [] done o c =
      chosen-more done (λ fpr. done fpr ⊎ ⊥) o (λ fpr d. inl d) (λ fpr d le. elim d [ inl h ↦ h | inr h ↦ absurd h ]) c
  chosen_from (at ∷ layer) done o c =
      chosen-more (λ fpr. Or done at fpr ⊎ Has layer fpr) (λ fpr. done fpr ⊎ Has (at ∷ layer) fpr)
      (chosen quest found (taken quest found o at) layer)
      (λ fpr d. elim d [ inl h ↦ elim h [ inl a ↦ inl a | inr e ↦ inr (inl e) ] | inr h ↦ inr (inr h) ])
      (λ fpr d le. elim d [ inl a ↦ inl (inl a) | inr h ↦ elim h [ inl e ↦ inl (inr e) | inr k ↦ inr k ] ])
      (chosen_from layer (Or done at) (taken quest found o at) (taken_is done at o c))

  abbrev pub IsPicked : List Fpr → Option Choice → Type 0
  IsPicked layer o = IsChosen (λ fpr. ⊥ ⊎ Has layer fpr) o

  pub picked : (layer : List Fpr) → IsPicked layer (chosen quest found None layer)
  picked layer = chosen_from layer (λ fpr. ⊥) None (λ fpr d le. d)

-- ---- the first rooted suffix

pub then_Greater : (o p r : Ordering) → o ≡ Greater → ordering_then (ordering_then o p) r ≡ Greater
then_Greater Less p r e = absurd cc
then_Greater Equal p r e = absurd cc
then_Greater Greater p r e = refl

as_good : (used : Use) (goal : Goal) (a b : List Step) → AtMost used goal a b → length a ≡ length b
    → IsAsGood used goal a b
as_good used goal a b (inl lt) e = absurd (omega (arith, lt, e))
as_good used goal a b (inr m) e = m.1

module _ (quest : Quest) (good : IsRecord quest.question.network) (small : IsSmall quest) (found : Found) (size : ℕ)
    (layer : List Fpr) where
  -- the choice that is ahead has the better path
  behind_good : (goal' : Goal) (x : Step) (a : List Step) (y : Step) (b : List Step) → Kept quest found (x ∷ a)
      → Kept quest found (y ∷ b) → length (x ∷ a) ≡ length (y ∷ b)
      → IsBehind goal' (choice_at quest found x.issuer) (choice_at quest found y.issuer)
      → IsGood quest.question quest.used goal' (x ∷ a) (y ∷ b)
  behind_good Widest x a y b j k l m =
      let wx : node_width (found x.issuer) ≡ width quest.used (x ∷ a) = ap node_width j.0 in
      let wy : node_width (found y.issuer) ≡ width quest.used (y ∷ b) = ap node_width k.0 in
      let ax = amount_width quest.question quest.used (x ∷ a) (small x.issuer) in
      let ay = amount_width quest.question quest.used (y ∷ b) (small y.issuer) in
      omega (arith, wx, wy, ax, ay, m)
  behind_good Least x a y b j k l m =
      by (fpr_cmp x.issuer y.issuer) (fpr_cmp y.issuer x.issuer) refl refl (fpr_total.antisymm y.issuer x.issuer) m
    where
      by : (o p : Ordering) → fpr_cmp x.issuer y.issuer ≡ o → fpr_cmp y.issuer x.issuer ≡ p → p ≡ ordering_reverse o
          → is_gt o ≡ false → steps_cmp (y ∷ b) (x ∷ a) ≡ Less → ⊥
      by Less p e f g m' less =
          let h : steps_cmp (y ∷ b) (x ∷ a) ≡ Greater =
          then_Greater (fpr_cmp y.issuer x.issuer) (ordering_then (fpr_cmp y.target x.target) (nat_cmp y.uid x.uid))
          (steps_cmp b a) (f ∙ g) in
          cc
      by Equal p e f g m' less =
          let same : x ∷ a ≡ y ∷ b = kept_one quest good found (x ∷ a) (y ∷ b) l (fpr_exact x.issuer y.issuer e) j k in
          not_less_itself (x ∷ a) (subst (λ (z : List Step). steps_cmp z (x ∷ a) ≡ Less) (sym same) less)
      by Greater p e f g m' less = cc

  -- The choice of a layer below which no root was found begins the first of the rooted suffixes.
  pub picked_first : IsLayer quest found size layer → IsComplete quest found size → IsUnrooted quest found size
      → 1 ≤ size → size ≤ 255
      → (choice : Choice) → IsPicked quest found layer (Some choice) → (steps : List Step) → Kept quest found steps
      → length steps ≡ size → start quest.question.target steps ≡ choice.fpr → IsFirst quest steps
  picked_first is complete unrooted pos most choice c [] k l e = absurd (omega (arith, l, pos))
  picked_first is complete unrooted pos most choice c (x ∷ xs) k l e = record {
    rooted = record {
      some = omega arith;
      few = omega (arith, l, most);
      suffix = kept_suffix quest found (x ∷ xs) k;
      root = subst (λ (f : Fpr). quest.least ≤ root_left quest.question quest.used f) (sym e) c.2;
    };
    first = first;
  }
    where
      best : (steps : List Step) → Kept quest found steps → length steps ≡ size
          → quest.least ≤ root_left quest.question quest.used (start quest.question.target steps)
          → IsGood quest.question quest.used quest.goal (x ∷ xs) steps
      best [] j m le = absurd (omega (arith, m, pos))
      best (y ∷ ys) j m le =
          let b = c.3 y.issuer (inr (is.all (y ∷ ys) j m)) le in
          behind_good quest.goal x xs y ys k j (l ∙ sym m)
          (subst (λ (z : Choice). IsBehind quest.goal z (choice_at quest found y.issuer))
          (c.0 ∙ ap (choice_at quest found) (sym e)) b)

      first : (other : List Step) → Rooted quest other
          → (length (x ∷ xs) < length other)
          ⊎ ((length (x ∷ xs) ≡ length other) × IsGood quest.question quest.used quest.goal (x ∷ xs) other)
      first other r = elim (cases_lt size (length other)) [
        | inl lt ↦ inl (omega (arith, lt, l))
        | inr le ↦
            let d = complete other r.some le r.suffix in
            let m = AtMost-le quest.used quest.goal d.steps other d.most in
            let root : quest.least ≤ root_left quest.question quest.used (start quest.question.target d.steps) =
            subst (λ (f : Fpr). quest.least ≤ root_left quest.question quest.used f) (sym d.same) r.root in
            elim (cases_lt (length d.steps) size) [
              | inl lt ↦ absurd (unrooted d.steps d.kept d.some (omega (arith, lt)) root)
              | inr ge ↦
                  let long : length d.steps ≡ size = omega (arith, ge, m, le) in
                  inr (
                    omega (arith, long, m, le, l),
                    good-trans quest.question quest.used quest.goal (x ∷ xs) d.steps other
                        (best d.steps d.kept long root)
                        (as_good_good quest.question quest.used quest.goal d.steps other
                        (small (start quest.question.target d.steps)) d.same
                        (as_good quest.used quest.goal d.steps other d.most (omega (arith, long, m, le)))),
                  )
            ]
      ]

  -- If no root was chosen, there is none.
  pub picked_none : IsLayer quest found size layer → IsUnrooted quest found size → IsPicked quest found layer None
      → IsUnrooted quest found (suc size)
  picked_none is unrooted c = λ steps k some lt le. elim (cases_lt (length steps) size) [
    | inl less ↦ unrooted steps k some (omega (arith, less)) le
    | inr ge ↦ c (start quest.question.target steps) (inr (is.all steps k (omega (arith, ge, lt)))) le
  ]
