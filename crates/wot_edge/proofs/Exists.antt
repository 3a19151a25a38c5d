-- Each question has a next path, or no valid path of positive amount is left.
use Rattle.std.proofs.Common.{◌≡◌, inl, inr, ℕ, zero, suc, ◌+◌, ◌<◌, ◌≤◌, Bool, true, false, cond, List, [], ◌∷◌}
use Rattle.std.proofs.Common.{length, Option, Some, None, refl, sym, subst, arith, leb-true}
use Rattle.std.specs.Prelude.{nat_le}
use Rattle.std.specs.List.{AllByRecursion}
use Rattle.std.proofs.lemmas.Bool.{cases_lt, leb-false}
use Rattle.wot_types.specs.declared.fpr.Fpr.{Fpr}
use Rattle.wot_types.specs.Fpr.{same_fpr, fpr_cmp}
use Rattle.wot_edge.specs.declared.path.Step.{Step}
use Rattle.wot_edge.specs.Record.{Has, entry_at}
use Rattle.wot_edge.specs.Roots.{root_amount}
use Rattle.wot_edge.specs.Path.{Question, Use, start, path_amount, root_left, IsNext, IsSpent}
use Rattle.std.specs.Option.{unwrap_or}
use Rattle.std.specs.Map.{lookup}
use Rattle.std.specs.BTreeMap.{is_at}
use Rattle.wot_edge.proofs.Trail.{AtMost, AtMost-refl, AtMost-trans, AtMost-le, Rooted, IsFirst, rooted_amount}
use Rattle.wot_edge.proofs.Trail.{first_next, none_spent, disordered_spent}
use Rattle.wot_edge.proofs.Covers.{Covers-has, IsComplete, IsFound, better_most, worse_most}
use Rattle.wot_edge.proofs.Layers.{is_better, better_of, chosen, grown, first_layer, first_or, climbed_to, next_from}
use Rattle.wot_edge.proofs.Layers.{first_from, first_of, total, climbed, next_of}
use Rattle.wot_edge.proofs.FoundByLayers.{first_found, first_layer_complete, grown_found, grown_is_complete}

module _ (q : Question) (used : Use) (least : ℕ) where
  -- what is chosen, of these
  abbrev pub IsChosen : List (List Step) → Option (List Step) → Type 0
  IsChosen ps None = (x : List Step) → Has ps x → least ≤ root_left q used (start q.target x) → ⊥
  IsChosen ps (Some p) =
      Has ps p × (least ≤ root_left q used (start q.target p))
      × ((x : List Step) → Has ps x → least ≤ root_left q used (start q.target x) → AtMost p x)

  chosen-skip : (p : List Step) (ps : List (List Step)) (o : Option (List Step))
      → (least ≤ root_left q used (start q.target p) → ⊥) → IsChosen ps o → IsChosen (p ∷ ps) o
  chosen-skip p ps None n c = λ x h le. elim h [
    | inl e ↦ n (subst (λ (z : List Step). least ≤ root_left q used (start q.target z)) e le)
    | inr h' ↦ c x h' le
  ]
  chosen-skip p ps (Some o) n c = (
    inr c.0,
    c.1,
    λ x h le. elim h [
      | inl e ↦ absurd (n (subst (λ (z : List Step). least ≤ root_left q used (start q.target z)) e le))
      | inr h' ↦ c.2 x h' le
    ],
  )

  chosen-take : (p : List Step) (ps : List (List Step)) (o : Option (List Step))
      → least ≤ root_left q used (start q.target p) → IsChosen ps o → IsChosen (p ∷ ps) (Some (better_of p o))
  chosen-take p ps None le c = (
    inl refl,
    le,
    λ x h le'. elim h [
      | inl e ↦ subst (AtMost p) (sym e) (AtMost-refl p)
      | inr h' ↦ absurd (c x h' le')
    ],
  )
  chosen-take p ps (Some o) le c = by (is_better p o) refl
    where
      by : (b : Bool) → is_better p o ≡ b → IsChosen (p ∷ ps) (Some (cond b p o))
      by true e = (
        inl refl,
        le,
        λ x h le'. elim h [
          | inl f ↦ subst (AtMost p) (sym f) (AtMost-refl p)
          | inr h' ↦ AtMost-trans p o x (better_most p o e) (c.2 x h' le')
        ],
      )
      by false e = (
        inr c.0,
        c.1,
        λ x h le'. elim h [
          | inl f ↦ subst (AtMost o) (sym f) (worse_most p o e)
          | inr h' ↦ c.2 x h' le'
        ],
      )

  pub chosen_is : (ps : List (List Step)) → IsChosen ps (chosen q used least ps)
  chosen_is [] = λ x h le. h
  chosen_is (p ∷ ps) = by (chosen_is ps) (nat_le least (root_left q used (start q.target p))) refl
    where
      by : IsChosen ps (chosen q used least ps) → (b : Bool) → nat_le least (root_left q used (start q.target p)) ≡ b
          → IsChosen (p ∷ ps) (cond b (Some (better_of p (chosen q used least ps))) (chosen q used least ps))
      by ih true e =
          chosen-take p ps (chosen q used least ps) (leb-true least (root_left q used (start q.target p)) e) ih
      by ih false e =
          chosen-skip p ps (chosen q used least ps)
          (λ le. let lt = leb-false least (root_left q used (start q.target p)) e in omega arith) ih

  -- the first rooted trail, or that there is none
  abbrev pub IsFirstOrNone : Option (List Step) → Type 0
  IsFirstOrNone None = (other : List Step) → Rooted q used least other → ⊥
  IsFirstOrNone (Some rows) = IsFirst q used least rows

  found_at : (size : ℕ) (x : List Step) (xs : List (List Step)) → Has xs x
      → AllByRecursion (IsFound q used least size) xs → IsFound q used least size x
  found_at size x [] h a = absurd h
  found_at size x (y ∷ xs) (inl e) a = subst (IsFound q used least size) (sym e) a.0
  found_at size x (y ∷ xs) (inr h) a = found_at size x xs h a.1

  covered : (size : ℕ) (found : List (List Step)) → IsComplete q used least size found → (other : List Step)
      → Rooted q used least other → length other ≤ size
      → (x : List Step) × Has found x × (least ≤ root_left q used (start q.target x)) × AtMost x other
  covered size found complete other r le =
      let c = Covers-has q.target found other (complete other r.some le r.trail) in
      (c.0, c.1, subst (λ (f : Fpr). least ≤ root_left q used f) (sym c.2) r.root, c.3)

  some_first : (size : ℕ) (found : List (List Step)) (rows : List Step) → size ≤ 255
      → AllByRecursion (IsFound q used least size) found → IsComplete q used least size found
      → IsChosen found (Some rows) → IsFirst q used least rows
  some_first size found rows le founds complete c =
      let f = found_at size rows found c.0 founds in
      record {
        rooted = record { some = f.some; few = let a = f.few in omega arith; trail = f.trail; root = c.1 };
        first = λ other r. elim (cases_lt size (length other)) [
          | inl lt ↦ inl (let a = f.few in omega arith)
          | inr few ↦ let x =
              covered size found complete other r few in AtMost-trans rows x.0 other (c.2 x.0 x.1 x.2) x.3
        ];
      }

  pub first_from_is : (n size : ℕ) (found : List (List Step)) → n + size ≡ 255 → 1 ≤ size
      → AllByRecursion (IsFound q used least size) found → IsComplete q used least size found
      → IsFirstOrNone (first_from q used least n size found)
  unfolding first_from
  first_from_is zero size found e pos founds complete = by (chosen q used least found) (chosen_is found)
    where
      by : (o : Option (List Step)) → IsChosen found o → IsFirstOrNone o
      by None c = λ other r. let x = covered size found complete other r (let f = r.few in omega arith) in c x.0 x.1 x.2
      by (Some rows) c = some_first size found rows (omega arith) founds complete c
  first_from_is (suc n) size found e pos founds complete =
      by (first_from_is n (suc size) (grown q used least size found found) (omega arith) (omega arith)
      (grown_found q used least size found founds) (grown_is_complete q used least size found pos founds complete))
      (chosen q used least found) (chosen_is found)
    where
      by : IsFirstOrNone (first_from q used least n (suc size) (grown q used least size found found))
          → (o : Option (List Step)) → IsChosen found o
          → IsFirstOrNone (first_or o (first_from q used least n (suc size) (grown q used least size found found)))
      by ih None c = ih
      by ih (Some rows) c = some_first size found rows (omega arith) founds complete c

  pub first_of_is : IsFirstOrNone (first_of q used least)
  first_of_is =
      first_from_is 254 1 (first_layer q used least) refl (omega arith) (first_found q used least)
      (first_layer_complete q used least)

-- ---- the greatest amount

pub root_le : (es : List (Fpr × ℕ)) (fpr : Fpr) → root_amount es fpr ≤ total es
root_le [] fpr = omega arith
root_le (e ∷ es) fpr =
    elim (same_fpr fpr e.0) as (λ b. unwrap_or (cond b (Some e.1) (lookup (is_at (fpr_cmp fpr)) es)) 0 ≤ e.1 + total es) [
      | true ↦ omega arith
      | false ↦ let le = root_le es fpr in omega arith
    ]

-- no root has more than `most`
abbrev pub AreAtMost : List (Fpr × ℕ) → ℕ → Type 0
AreAtMost roots most = (fpr : Fpr) → root_amount roots fpr ≤ most

greatest_none : (q : Question) (used : Use) (rows other : List Step) → AreAtMost q.roots (path_amount q used rows)
    → Rooted q used (path_amount q used rows + 1) other → length rows < length other
greatest_none q used rows other le r = let a = r.root in let b = le (start q.target other) in absurd (omega arith)

climbed_next : (q : Question) (used : Use) (n least : ℕ) (rows : List Step) → 0 < least
    → (entry_at q.network q.target).in_order ≡ true → IsFirst q used least rows
    → ((other : List Step) → Rooted q used 1 other → length rows ≤ length other)
    → AreAtMost q.roots (path_amount q used rows + n) → IsNext q used (climbed q used rows n)
unfolding climbed
climbed_next q used zero least rows pos ok f fewest le =
    first_next q used least rows pos ok f fewest
    (λ other r. greatest_none q used rows other (λ fpr. let a = le fpr in omega arith) r)
climbed_next q used (suc n) least rows pos ok f fewest le =
    by (λ more g few le'. climbed_next q used n (path_amount q used rows + 1) more (omega arith) ok g few le')
    (first_of q used (path_amount q used rows + 1)) (first_of_is q used (path_amount q used rows + 1))
  where
    by : ((more : List Step) → IsFirst q used (path_amount q used rows + 1) more
        → ((other : List Step) → Rooted q used 1 other → length more ≤ length other)
        → AreAtMost q.roots (path_amount q used more + n) → IsNext q used (climbed q used more n))
        → (o : Option (List Step)) → IsFirstOrNone q used (path_amount q used rows + 1) o
        → IsNext q used (climbed_to rows o (λ more. climbed q used more n))
    by ih None g = first_next q used least rows pos ok f fewest (λ other r. absurd (g other r))
    by ih (Some more) g = at (nat_le (length more) (length rows)) refl
      where
        at : (b : Bool) → nat_le (length more) (length rows) ≡ b → IsNext q used (cond b (climbed q used more n) rows)
        at true e = ih more g
            (λ other r. let a = fewest other r in let b = leb-true (length more) (length rows) e in omega arith)
            (λ fpr. let a = rooted_amount q used (path_amount q used rows + 1) more g.rooted in let b = le fpr in
            omega arith)
        at false e = first_next q used least rows pos ok f fewest
            (λ other r. let a = AtMost-le more other (g.first other r) in
            let b = leb-false (length more) (length rows) e in omega arith)

-- the steps of the next path, or none if no valid path of positive amount is left
abbrev pub AreNextOrSpent : Question → Use → Option (List Step) → Type 0
AreNextOrSpent q used None = IsSpent q used
AreNextOrSpent q used (Some steps) = IsNext q used steps

pub next_of_is : (q : Question) (used : Use) (most : ℕ) → AreAtMost q.roots most
    → AreNextOrSpent q used (next_of most q used)
next_of_is q used most le = by (entry_at q.network q.target).in_order refl (first_of q used 1) (first_of_is q used 1)
  where
    by : (b : Bool) → (entry_at q.network q.target).in_order ≡ b → (o : Option (List Step)) → IsFirstOrNone q used 1 o
        → AreNextOrSpent q used (cond b (next_from q used most o) None)
    by false e o f = disordered_spent q used e
    by true e None f = none_spent q used f
    by true e (Some rows) f =
        climbed_next q used most 1 rows (omega arith) e f (λ other r. AtMost-le rows other (f.first other r))
        (λ fpr. let a = le fpr in omega arith)
