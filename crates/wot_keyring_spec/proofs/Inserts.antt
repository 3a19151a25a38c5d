-- Insertion under a fingerprint into sorted entries.
use Rattle.std.proofs.Common.{◌≡◌, Bool, true, false, cond, List, [], ◌∷◌, map, Option, Some, None, is_some, sym, ap}
use Rattle.std.proofs.Common.{◌∙◌, subst, refl}
use Rattle.std.specs.declared.cmp.Ordering.TheVariants.{Less, Equal, Greater}
use Rattle.std.specs.Ordering.{is_eq, match_ordering, ordering_reverse}
use Rattle.std.specs.List.{AllByRecursion}
use Rattle.std.specs.BTreeMap.{insert_entry}
use Rattle.std.specs.Map.{lookup, keys_of}
use Rattle.std.proofs.lemmas.Cmp.{tied_itself}
use Rattle.std.proofs.lemmas.Map.{lookup-none}
use Rattle.std.proofs.lemmas.Map.Entries.{none_below_head}
use Rattle.std.proofs.lemmas.Map.Keys.{sorted_head, sorted_tail}
use Rattle.wot_types.specs.declared.fpr.Fpr.{Fpr}
use Rattle.wot_types.specs.Fpr.{fpr_cmp}
use Rattle.wot_types.specs.FprLaws.{fpr_total, fpr_exact, same_fpr-true}
use Rattle.wot_keyring_spec.specs.declared.kept.Kept.{Kept}
use Rattle.wot_keyring_spec.specs.Keyring.{Entries, is_fpr}
use Rattle.wot_keyring_spec.specs.Kept.{AreSortedByFpr}

-- Mapping the values and inserting commute.
pub map_insert : {X : Type 0} (g : Kept → X) (es : Entries) (fpr : Fpr) (kept : Kept) →
    map (λ (e : Fpr × Kept). (e.0, g e.1)) (insert_entry fpr_cmp es fpr kept) ≡ insert_entry fpr_cmp
    (map (λ (e : Fpr × Kept). (e.0, g e.1)) es) fpr (g kept)
map_insert g [] fpr kept = refl
map_insert {X} g (e ∷ es) fpr kept =
    elim (fpr_cmp fpr e.0) as (λ r. map (λ (x : Fpr × Kept). (x.0, g x.1)) (match_ordering r ((fpr, kept) ∷ e ∷ es)
    ((e.0, kept) ∷ es) (e ∷ insert_entry fpr_cmp es fpr kept)) ≡ match_ordering r
    ((fpr, g kept) ∷ (e.0, g e.1) ∷ map (λ (x : Fpr × Kept). (x.0, g x.1)) es)
    ((e.0, g kept) ∷ map (λ (x : Fpr × Kept). (x.0, g x.1)) es) ((e.0, g e.1) ∷ insert_entry fpr_cmp
    (map (λ (x : Fpr × Kept). (x.0, g x.1)) es) fpr (g kept))) [
      | Less ↦ refl
      | Equal ↦ refl
      | Greater ↦ ap (λ (rest : List (Fpr × X)). (e.0, g e.1) ∷ rest) (map_insert g es fpr kept)
    ]

-- what holds for each, with its fingerprint, and for what is inserted
pub put_at : {V : Type 0} (P : Fpr → V → Type 0) (es : List (Fpr × V)) (fpr : Fpr) (kept : V) →
    AllByRecursion (λ (e : Fpr × V). P e.0 e.1) es → P fpr kept → AllByRecursion (λ (e : Fpr × V). P e.0 e.1)
    (insert_entry fpr_cmp es fpr kept)
put_at P [] fpr kept all p = (p, tt)
put_at {V} P (e ∷ es) fpr kept all p =
    elim (fpr_cmp fpr e.0) as (λ r. fpr_cmp fpr e.0 ≡ r → AllByRecursion (λ (x : Fpr × V). P x.0 x.1)
    (match_ordering r ((fpr, kept) ∷ e ∷ es) ((e.0, kept) ∷ es) (e ∷ insert_entry fpr_cmp es fpr kept))) [
      | Less ↦ λ less. (p, all)
      | Equal ↦ λ equal. (subst (λ (f : Fpr). P f kept) (fpr_exact fpr e.0 equal) p, all.1)
      | Greater ↦ λ greater. (all.0, put_at P es fpr kept all.1 p)
    ] refl

-- what holds for each, with its fingerprint, holds for what is found
pub found_at : {V : Type 0} (P : Fpr → V → Type 0) (fpr : Fpr) (es : List (Fpr × V)) (kept : V) →
    AllByRecursion (λ (e : Fpr × V). P e.0 e.1) es → lookup (is_fpr fpr) es ≡ Some kept → P fpr kept
found_at P fpr [] kept all found = absurd cc
found_at {V} P fpr (e ∷ es) kept all found =
    (elim (is_fpr fpr e.0) as (λ b. is_fpr fpr e.0 ≡ b → cond b (Some e.1) (lookup (is_fpr fpr) es) ≡ Some kept →
    P fpr kept) [
      | true ↦ λ t f. let same : e.1 ≡ kept = cc in
          subst (λ (x : V). P fpr x) same (subst (λ (g : Fpr). P g e.1) (sym (same_fpr-true fpr e.0 t)) all.0)
      | false ↦ λ t f. found_at P fpr es kept all.1 f
    ]) refl found

-- what was there is there after an insertion
pub still_present : (q : Fpr) (es : Entries) (fpr : Fpr) (kept : Kept) → is_some (lookup (is_fpr q) es) ≡ true →
    is_some (lookup (is_fpr q) (insert_entry fpr_cmp es fpr kept)) ≡ true
still_present q [] fpr kept there = absurd cc
still_present q (e ∷ es) fpr kept there =
    elim (fpr_cmp fpr e.0) as (λ r. is_some
    (lookup (is_fpr q) (match_ordering r ((fpr, kept) ∷ e ∷ es) ((e.0, kept) ∷ es)
    (e ∷ insert_entry fpr_cmp es fpr kept))) ≡ true) [
      | Less ↦ either (is_fpr q fpr) kept (lookup (is_fpr q) (e ∷ es)) there
      | Equal ↦ instead (is_fpr q e.0) e.1 kept (lookup (is_fpr q) es) there
      | Greater ↦ later (is_fpr q e.0) e.1 (lookup (is_fpr q) es) (lookup (is_fpr q) (insert_entry fpr_cmp es fpr kept))
          there (still_present q es fpr kept)
    ]
  where
    either : (b : Bool) (x : Kept) (o : Option Kept) → is_some o ≡ true → is_some (cond b (Some x) o) ≡ true
    either true x o h = refl
    either false x o h = h

    instead : (b : Bool) (x y : Kept) (o : Option Kept) → is_some (cond b (Some x) o) ≡ true →
        is_some (cond b (Some y) o) ≡ true
    instead true x y o h = refl
    instead false x y o h = h

    later : (b : Bool) (x : Kept) (o p : Option Kept) → is_some (cond b (Some x) o) ≡ true →
        (is_some o ≡ true → is_some p ≡ true) → is_some (cond b (Some x) p) ≡ true
    later true x o p h f = refl
    later false x o p h f = f h

none_some : (o : Option Kept) (x : Kept) → o ≡ None → o ≡ Some x → ⊥
none_some o x p q = cc

-- what is found, inserted again
pub insert_same : (es : Entries) (fpr : Fpr) (kept : Kept) → AreSortedByFpr es → lookup (is_fpr fpr) es ≡ Some kept →
    insert_entry fpr_cmp es fpr kept ≡ es
insert_same [] fpr kept sorted found = absurd cc
insert_same (e ∷ es) fpr kept sorted found =
    (elim (fpr_cmp fpr e.0) as (λ r. fpr_cmp fpr e.0 ≡ r → cond (is_eq r) (Some e.1) (lookup (is_fpr fpr) es) ≡ Some
    kept → match_ordering r ((fpr, kept) ∷ e ∷ es) ((e.0, kept) ∷ es)
    (e ∷ insert_entry fpr_cmp es fpr kept) ≡ e ∷ es) [
      | Less ↦ λ less some. absurd
          (none_some _ _ (lookup-none (is_fpr fpr) (e ∷ es) (none_below_head fpr_total fpr e es sorted less)) found)
      | Equal ↦ λ equal some. let same : e.1 ≡ kept = cc in ap (λ (x : Kept). (e.0, x) ∷ es) (sym same)
      | Greater ↦ λ greater some. ap (λ (rest : Entries). e ∷ rest)
          (insert_same es fpr kept (sorted_tail fpr_cmp e.0 (keys_of es) sorted) some)
    ]) refl found

-- Each is found under its fingerprint.
lifted : (e : Fpr × Kept) (es ys : Entries) → AllByRecursion (λ (x : Fpr × Kept). lookup (is_fpr x.0) es ≡ Some x.1)
    ys → AllByRecursion (λ y. fpr_cmp e.0 y ≡ Less) (keys_of ys) →
    AllByRecursion (λ (x : Fpr × Kept). lookup (is_fpr x.0) (e ∷ es) ≡ Some x.1) ys
lifted e es [] all below = tt
lifted e es (y ∷ ys) all below = (
  ap (λ r. cond (is_eq r) (Some e.1) (lookup (is_fpr y.0) es)) (fpr_total.antisymm y.0 e.0
      ∙ ap ordering_reverse below.0) ∙ all.0,
  lifted e es ys all.1 below.1,
)

pub found_each : (es : Entries) → AreSortedByFpr es →
    AllByRecursion (λ (x : Fpr × Kept). lookup (is_fpr x.0) es ≡ Some x.1) es
found_each [] sorted = tt
found_each (e ∷ es) sorted = (
  ap (λ r. cond (is_eq r) (Some e.1) (lookup (is_fpr e.0) es)) (tied_itself fpr_total e.0),
  lifted e es es (found_each es (sorted_tail fpr_cmp e.0 (keys_of es) sorted))
      (sorted_head fpr_cmp e.0 (keys_of es) sorted),
)

-- ---- a look-up after an insertion

same_twice : {V : Type 0} (b : Bool) (x y : V) (o : Option V) → cond b (Some x) o ≡ cond b (Some x) (cond b (Some y) o)
same_twice true x y o = refl
same_twice false x y o = refl

swapped : {V : Type 0} (a b : Bool) (x y : V) (o : Option V) → (a ≡ true → b ≡ true → ⊥) →
    cond a (Some x) (cond b (Some y) o) ≡ cond b (Some y) (cond a (Some x) o)
swapped true true x y o apart = absurd (apart refl refl)
swapped true false x y o apart = refl
swapped false true x y o apart = refl
swapped false false x y o apart = refl

greater_apart : (q a b : Fpr) → fpr_cmp a b ≡ Greater → is_fpr q b ≡ true → is_fpr q a ≡ true → ⊥
greater_apart q a b greater h k =
    let same : a ≡ b = sym (same_fpr-true q a k) ∙ same_fpr-true q b h in
    let equal : fpr_cmp a b ≡ Equal = ap (λ (x : Fpr). fpr_cmp a x) (sym same) ∙ tied_itself fpr_total a in
    cc

pub lookup_insert : {V : Type 0} (q : Fpr) (es : List (Fpr × V)) (fpr : Fpr) (kept : V) →
    lookup (is_fpr q) (insert_entry fpr_cmp es fpr kept) ≡ cond (is_fpr q fpr) (Some kept) (lookup (is_fpr q) es)
lookup_insert q [] fpr kept = refl
lookup_insert {V} q (e ∷ es) fpr kept =
    elim (fpr_cmp fpr e.0) as (λ r. fpr_cmp fpr e.0 ≡ r →
    lookup (is_fpr q) (match_ordering r ((fpr, kept) ∷ e ∷ es) ((e.0, kept) ∷ es)
    (e ∷ insert_entry fpr_cmp es fpr kept)) ≡ cond (is_fpr q fpr) (Some kept)
    (cond (is_fpr q e.0) (Some e.1) (lookup (is_fpr q) es))) [
      | Less ↦ λ less. refl
      | Equal ↦ λ equal. same_twice (is_fpr q e.0) kept e.1 (lookup (is_fpr q) es)
          ∙ ap (λ (f : Fpr). cond (is_fpr q f) (Some kept) (cond (is_fpr q e.0) (Some e.1) (lookup (is_fpr q) es)))
          (sym (fpr_exact fpr e.0 equal))
      | Greater ↦ λ greater. ap (λ (o : Option V). cond (is_fpr q e.0) (Some e.1) o) (lookup_insert q es fpr kept)
          ∙ swapped (is_fpr q e.0) (is_fpr q fpr) e.1 kept (lookup (is_fpr q) es) (greater_apart q fpr e.0 greater)
    ] refl
