-- Trails: lists of edges to the target that may still be used.
use Rattle.std.proofs.Common.{◌≡◌, ◌≢◌, ◌⊎◌, inl, inr, ℕ, ◌+◌, ◌<◌, ◌≤◌, true, false, List, [], ◌∷◌, length, Ordering}
use Rattle.std.proofs.Common.{refl, sym, subst, ◌∙◌, arith}
use Rattle.std.specs.declared.cmp.Ordering.TheVariants.{Less, Equal, Greater}
use Rattle.std.specs.Ordering.{is_gt, ordering_reverse}
use Rattle.std.proofs.lemmas.Cmp.{upto}
use Rattle.wot_types.specs.declared.fpr.Fpr.{Fpr}
use Rattle.wot_edge.specs.declared.path.Step.{Step}
use Rattle.wot_edge.specs.Record.{Has, rows_into, entry_at}
use Rattle.wot_edge.specs.Path.{Question, Use, Chain, Stands, start, issuers, Distinct, IsValid, IsOpen, IsNext}
use Rattle.wot_edge.specs.Path.{IsSpent, Precedes, path_amount, least_left, root_left, step_left}
use Rattle.wot_edge.specs.Order.{steps_cmp}
use Rattle.std.proofs.lemmas.Bool.{cases_lt}
use Rattle.wot_edge.specs.StepLaws.{steps_total}

-- an edge before `rest` with a residual amount of at least this
pub record Serves (q : Question) (used : Use) (least : ℕ) (step : Step) (rest : List Step) : Type 0 where
  pub stands : Stands q step rest
  pub left : least ≤ step_left used step

abbrev pub Trail : Question → Use → ℕ → List Step → Type 0
Trail q used least [] = Unit {0}
Trail q used least (row ∷ rest) = Serves q used least row rest × Trail q used least rest

-- a is no longer than b, and if it is as long, b isn't less
abbrev pub AtMost : List Step → List Step → Type 0
AtMost a b = (length a < length b) ⊎ ((length a ≡ length b) × (steps_cmp b a ≢ Less))

pub AtMost-refl : (a : List Step) → AtMost a a
AtMost-refl a = inr (refl, λ e. absurd (apart (steps_cmp a a) (steps_total.antisymm a a) e))
  where
    apart : (o : Ordering) → o ≡ ordering_reverse o → o ≡ Less → ⊥
    apart Less e f = cc
    apart Equal e f = cc
    apart Greater e f = cc

-- b isn't less than a: a isn't greater than b
not_gt : (a b : List Step) → steps_cmp b a ≢ Less → is_gt (steps_cmp a b) ≡ false
not_gt a b n = by (steps_cmp a b) (steps_cmp b a) (steps_total.antisymm b a) n
  where
    by : (o p : Ordering) → p ≡ ordering_reverse o → p ≢ Less → is_gt o ≡ false
    by Less p e n = refl
    by Equal p e n = refl
    by Greater p e n = absurd (n e)

not_lt : (a b : List Step) → is_gt (steps_cmp a b) ≡ false → steps_cmp b a ≢ Less
not_lt a b e f = by (steps_cmp a b) (steps_cmp b a) (steps_total.antisymm a b) e f
  where
    by : (o p : Ordering) → o ≡ ordering_reverse p → is_gt o ≡ false → p ≡ Less → ⊥
    by o Less e g f = let h : is_gt Greater ≡ false = subst (λ (x : Ordering). is_gt x ≡ false) e g in cc
    by o Equal e g f = cc
    by o Greater e g f = cc

pub AtMost-trans : (a b c : List Step) → AtMost a b → AtMost b c → AtMost a c
AtMost-trans a b c (inl x) (inl y) = inl (omega arith)
AtMost-trans a b c (inl x) (inr y) = inl (let e = y.0 in omega arith)
AtMost-trans a b c (inr x) (inl y) = inl (let e = x.0 in omega arith)
AtMost-trans a b c (inr x) (inr y) =
    inr (x.0 ∙ y.0, not_lt a c (upto steps_total a b c (not_gt a b x.1) (not_gt b c y.1)))

pub AtMost-le : (a b : List Step) → AtMost a b → length a ≤ length b
AtMost-le a b (inl x) = omega arith
AtMost-le a b (inr x) = let e = x.0 in omega arith

-- ---- shortening

-- An edge may also come before fewer edges from the same issuer.
pub shorter : (q : Question) (step : Step) (rest other : List Step) → 1 ≤ length rest → 1 ≤ length other
    → length other ≤ length rest → start q.target other ≡ start q.target rest → Stands q step rest → Stands q step other
shorter q row [] other a b le e s = absurd (omega arith)
shorter q row (x ∷ rest) [] a b le e s = absurd (omega arith)
shorter q row (x ∷ rest) (y ∷ other) a b le e s =
    record {
      row = s.row;
      into = subst (λ (f : Fpr). Has (rows_into q.network f) s.row) (sym e) s.into;
      usable = s.usable;
      shown = s.shown;
      reaches = (let d = s.reaches.0 in omega arith, s.reaches.1, s.reaches.2);
    }

pub serves_shorter : (q : Question) (used : Use) (least : ℕ) (row : Step) (rest other : List Step) → 1 ≤ length rest
    → 1 ≤ length other → length other ≤ length rest → start q.target other ≡ start q.target rest
    → Serves q used least row rest → Serves q used least row other
serves_shorter q used least row rest other a b le e s =
    record { stands = shorter q row rest other a b le e s.stands; left = s.left }

-- no trail from the same issuer is shorter
abbrev pub IsShortest : Question → Use → ℕ → List Step → Type 0
IsShortest q used least rows =
    (other : List Step) → 1 ≤ length other → Trail q used least other → start q.target other ≡ start q.target rows
    → length rows ≤ length other

rest_shortest : (q : Question) (used : Use) (least : ℕ) (row : Step) (rest : List Step) → 1 ≤ length rest
    → Trail q used least (row ∷ rest) → IsShortest q used least (row ∷ rest) → IsShortest q used least rest
rest_shortest q used least row rest some t s other some' t' e = elim (cases_lt (length other) (length rest)) [
  | inl lt ↦ absurd
      (let le : length (row ∷ rest) ≤ length (row ∷ other) = s (row ∷ other) (omega arith)
      (serves_shorter q used least row rest other some some' (omega arith) e t.0, t') refl in omega arith)
  | inr le ↦ le
]

-- a trail from an issuer on it
from_issuer : (q : Question) (used : Use) (least : ℕ) (rest : List Step) (fpr : Fpr) → Has (issuers rest) fpr
    → Trail q used least rest
    → (other : List Step) × Trail q used least other × (1 ≤ length other) × (length other ≤ length rest)
    × (start q.target other ≡ fpr)
from_issuer q used least [] fpr h t = absurd h
from_issuer q used least (row ∷ rest) fpr (inl e) t = (row ∷ rest, t, omega arith, omega arith, sym e)
from_issuer q used least (row ∷ rest) fpr (inr h) t =
    let o = from_issuer q used least rest fpr h t.1 in (o.0, o.1, o.2, let l = o.3 in omega arith, o.4)

-- On a shortest trail no issuer occurs twice.
pub shortest_distinct : (q : Question) (used : Use) (least : ℕ) (rows : List Step) → Trail q used least rows
    → IsShortest q used least rows → Distinct (issuers rows)
shortest_distinct q used least [] t s = tt
shortest_distinct q used least (row ∷ []) t s = (λ h. h, tt)
shortest_distinct q used least (row ∷ next ∷ rest) t s = (
  λ h. let o = from_issuer q used least (next ∷ rest) row.issuer h t.1 in
      let le : length (row ∷ next ∷ rest) ≤ length o.0 = s o.0 o.2 o.1 o.4 in let l = o.3 in absurd (omega arith),
  shortest_distinct q used least (next ∷ rest) t.1 (rest_shortest q used least row (next ∷ rest) (omega arith) t s),
)

-- ---- trails and valid paths

pub trail_chain : (q : Question) (used : Use) (least : ℕ) (rows : List Step) → Trail q used least rows → Chain q rows
trail_chain q used least [] t = tt
trail_chain q used least (row ∷ rest) t = (t.0.stands, trail_chain q used least rest t.1)

pub trail_least : (q : Question) (used : Use) (least most : ℕ) (rows : List Step) → Trail q used least rows
    → least ≤ most → least ≤ least_left used most rows
trail_least q used least most [] t le = le
trail_least q used least most (row ∷ rest) t le =
    let a = trail_least q used least most rest t.1 le in let b = t.0.left in omega arith

-- a trail of at most 255 edges from a root with that residual amount
pub record Rooted (q : Question) (used : Use) (least : ℕ) (rows : List Step) : Type 0 where
  pub some : 1 ≤ length rows
  pub few : length rows ≤ 255
  pub trail : Trail q used least rows
  pub root : least ≤ root_left q used (start q.target rows)

chain_trail : (q : Question) (used : Use) (least most : ℕ) (rows : List Step) → Chain q rows
    → least ≤ least_left used most rows → Trail q used least rows × (least ≤ most)
chain_trail q used least most [] c le = (tt, le)
chain_trail q used least most (row ∷ rest) c le =
    let o = chain_trail q used least most rest c.1 (omega arith) in
    ((record { stands = c.0; left = omega arith }, o.0), o.1)

pub valid_rooted : (q : Question) (used : Use) (least : ℕ) (rows : List Step) → IsValid q rows
    → least ≤ path_amount q used rows → Rooted q used least rows
valid_rooted q used least rows v le =
    let t = chain_trail q used least (root_left q used (start q.target rows)) rows v.chain le in
    record { some = v.some; few = v.few; trail = t.0; root = t.1 }

pub rooted_amount : (q : Question) (used : Use) (least : ℕ) (rows : List Step) → Rooted q used least rows
    → least ≤ path_amount q used rows
rooted_amount q used least rows r =
    trail_least q used least (root_left q used (start q.target rows)) rows r.trail r.root

-- the first of the rooted trails: fewest edges, then least
pub record IsFirst (q : Question) (used : Use) (least : ℕ) (rows : List Step) : Type 0 where
  pub rooted : Rooted q used least rows
  pub first : (other : List Step) → Rooted q used least other → AtMost rows other

pub first_open : (q : Question) (used : Use) (least : ℕ) (rows : List Step) → 0 < least
    → (entry_at q.network q.target).in_order ≡ true → IsFirst q used least rows → IsOpen q used rows
first_open q used least rows pos ok f = (
  record {
    some = f.rooted.some;
    few = f.rooted.few;
    chain = trail_chain q used least rows f.rooted.trail;
    distinct = shortest_distinct q used least rows f.rooted.trail shortest;
    root = let a = f.rooted.root in omega arith;
    in_order = ok;
  },
  let a = rooted_amount q used least rows f.rooted in omega arith,
)
  where
    shortest : IsShortest q used least rows
    shortest other some t e = elim (cases_lt 255 (length other)) [
      | inl lt ↦ let b = f.rooted.few in omega arith
      | inr le ↦ AtMost-le rows other
          (f.first other
          (record {
            some = some;
            few = le;
            trail = t;
            root = subst (λ (x : Fpr). least ≤ root_left q used x) (sym e) f.rooted.root;
          }))
    ]

-- The first trail is the next path, if no open path is shorter, and none as short has a greater amount.
pub first_next : (q : Question) (used : Use) (least : ℕ) (rows : List Step) → 0 < least
    → (entry_at q.network q.target).in_order ≡ true → IsFirst q used least rows
    → ((other : List Step) → Rooted q used 1 other → length rows ≤ length other)
    → ((other : List Step) → Rooted q used (path_amount q used rows + 1) other → length rows < length other)
    → IsNext q used rows
first_next q used least rows pos ok f fewest greatest = (first_open q used least rows pos ok f, no)
  where
    no : (other : List Step) → IsOpen q used other → Precedes q used other rows → ⊥
    no other o (inl lt) =
        let le = fewest other (valid_rooted q used 1 other o.0 (let p = o.1 in omega arith)) in omega arith
    no other o (inr (e, inl lt)) =
        let le = greatest other (valid_rooted q used (path_amount q used rows + 1) other o.0 (omega arith)) in
        omega arith
    no other o (inr (e, inr (a, less))) =
        let am = rooted_amount q used least rows f.rooted in
        at (f.first other (valid_rooted q used least other o.0 (omega arith)))
      where
        at : AtMost rows other → ⊥
        at (inl lt) = omega arith
        at (inr (e', n)) = n less

-- No rooted trail, no path.
pub none_spent : (q : Question) (used : Use) → ((other : List Step) → Rooted q used 1 other → ⊥) → IsSpent q used
none_spent q used n rows o = n rows (valid_rooted q used 1 rows o.0 (let p = o.1 in omega arith))

pub disordered_spent : (q : Question) (used : Use) → (entry_at q.network q.target).in_order ≡ false → IsSpent q used
disordered_spent q used e rows o = let f = o.0.in_order in cc
