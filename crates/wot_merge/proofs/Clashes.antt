-- Clashes are found under a certificate's fingerprint.
use Rattle.std.proofs.Common.{◌≡◌, Bool, true, false, not, ◌&&◌, ◌||◌, cond, nat_eq, List, [], ◌∷◌, map, Option, Some}
use Rattle.std.proofs.Common.{None, sym, ap, ◌∙◌, refl, ℕ}
use Rattle.std.specs.Cmp.Lexicographic.{pointwise}
use Rattle.std.specs.List.{list_any}
use Rattle.std.specs.Map.{lookup, keys_of}
use Rattle.std.proofs.lemmas.Cmp.{eq_by_cmp_equiv}
use Rattle.std.proofs.lemmas.Bool.{eqb-true}
use Rattle.std.proofs.lemmas.Map.{lookup-none}
use Rattle.std.proofs.lemmas.Map.Entries.{none_past_head}
use Rattle.std.proofs.lemmas.Map.Keys.{IsDistinct-from_sorted, sorted_tail}
use Rattle.wot_types.specs.declared.fpr.Fpr.{Fpr}
use Rattle.wot_types.specs.Fpr.{fpr_cmp}
use Rattle.wot_types.specs.FprLaws.{fpr_total, same_fpr-true}
use Rattle.wot_key.specs.Key.{fpr_of}
use Rattle.wot_policy.specs.declared.rows.PolicyRows.{PolicyRows}
use Rattle.wot_component.specs.Certificate.{Certificate}
use Rattle.wot_keyring_spec.specs.declared.kept.Kept.{Kept}
use Rattle.wot_keyring_spec.specs.Import.{clash, any_clash}
use Rattle.wot_keyring_spec.specs.Keyring.{Entries, is_fpr, stripped}
use Rattle.wot_keyring_spec.specs.Kept.{AreNamed, AreSortedByFpr}
use Rattle.wot_merge.specs.Staging.{found_for, kept_as, kept_with, clash_at, clash_in}
use Rattle.wot_keyring_spec.proofs.Inserts.{lookup_insert}

-- the kept certificates
abbrev pub bodies_of : Entries → List Certificate
bodies_of es = map (λ (e : Fpr × Kept). e.1.cert) es

or_false : (b c : Bool) → c ≡ false → b || c ≡ b
or_false true c h = refl
or_false false c h = h

no_more : (x : Certificate) (e : Fpr × Kept) (es : Entries) → AreSortedByFpr (e ∷ es) →
    is_fpr (fpr_of x.key) e.0 ≡ true → lookup (is_fpr (fpr_of x.key)) es ≡ None
no_more x e es sorted t =
    lookup-none (is_fpr (fpr_of x.key)) es (none_past_head (eq_by_cmp_equiv fpr_total) (fpr_of x.key) e es
    (IsDistinct-from_sorted fpr_cmp (keys_of (e ∷ es)) sorted) t)

pub clash_kept : (x : Certificate) (es : Entries) → AreNamed es → AreSortedByFpr es →
    list_any (clash x) (bodies_of es) ≡ clash_at (found_for es x) x
clash_kept x [] named sorted = refl
clash_kept x (e ∷ es) named sorted =
    let rest : list_any (clash x) (bodies_of es) ≡ clash_at (found_for es x) x =
    clash_kept x es named.1 (sorted_tail fpr_cmp e.0 (keys_of es) sorted) in
    ap (λ (f : Fpr). (is_fpr (fpr_of x.key) f && not (pointwise nat_eq x.key e.1.cert.key)) || list_any (clash x)
    (bodies_of es)) (sym named.0)
    ∙ ((elim (is_fpr (fpr_of x.key) e.0) as (λ b. is_fpr (fpr_of x.key) e.0 ≡ b →
    (b && not (pointwise nat_eq x.key e.1.cert.key)) || list_any (clash x) (bodies_of es) ≡ clash_at
    (cond b (Some e.1) (found_for es x)) x) [
      | true ↦ λ t. or_false (not (pointwise nat_eq x.key e.1.cert.key)) _
          (rest ∙ ap (λ (o : Option Kept). clash_at o x) (no_more x e es sorted t))
      | false ↦ λ t. rest
    ]) refl)

pub bodies_same : (es : Entries) → map (λ (e : Fpr × Certificate). e.1) (stripped es) ≡ bodies_of es
bodies_same [] = refl
bodies_same (e ∷ es) = ap (λ (rest : List Certificate). e.1.cert ∷ rest) (bodies_same es)

-- ---- one more certificate

pointwise_same : (a b : List ℕ) → pointwise nat_eq a b ≡ true → a ≡ b
pointwise_same [] [] h = refl
pointwise_same [] (y ∷ ys) h = absurd cc
pointwise_same (x ∷ xs) [] h = absurd cc
pointwise_same (x ∷ xs) (y ∷ ys) h =
    (elim (nat_eq x y) as (λ b. nat_eq x y ≡ b → b && pointwise nat_eq xs ys ≡ true → x ∷ xs ≡ y ∷ ys) [
      | true ↦ λ t f. let e : x ≡ y = eqb-true x y t in let g : xs ≡ ys = pointwise_same xs ys f in λ i. e i ∷ g i
      | false ↦ λ t f. absurd cc
    ]) refl h

pub keys_same : (a b : List ℕ) → not (pointwise nat_eq a b) ≡ false → a ≡ b
keys_same a b h = pointwise_same a b (not_not (pointwise nat_eq a b) h)
  where
    not_not : (t : Bool) → not t ≡ false → t ≡ true
    not_not true e = refl
    not_not false e = sym e

or_itself : (b : Bool) → b || b ≡ b
or_itself true = refl
or_itself false = refl

-- a list of certificates and what is kept of it clash with the same certificates
abbrev pub ClashAlike : List Certificate → Entries → Type 0
ClashAlike earlier es = (x : Certificate) → list_any (clash x) earlier ≡ clash_at (found_for es x) x

module _ (rows : PolicyRows) (stamp : ℕ) where
  same_name : (c x : Certificate) (found : Option Kept) → clash_at found c ≡ false →
      not (pointwise nat_eq x.key c.key) || clash_at found x ≡ clash_at (Some (kept_as rows stamp found c)) x
  same_name c x None none = or_false (not (pointwise nat_eq x.key c.key)) false refl
  same_name c x (Some a) none =
      let same : c.key ≡ a.cert.key = keys_same c.key a.cert.key none in
      ap (λ (key : List ℕ). not (pointwise nat_eq x.key key) || not (pointwise nat_eq x.key a.cert.key)) same
      ∙ or_itself (not (pointwise nat_eq x.key a.cert.key))

  alike_on : (earlier : List Certificate) (es : Entries) (c : Certificate) → ClashAlike earlier es →
      clash_at (found_for es c) c ≡ false → ClashAlike (c ∷ earlier) (kept_with rows stamp es c)
  alike_on earlier es c alike none x =
      let found : found_for (kept_with rows stamp es c) x ≡ cond (is_fpr (fpr_of x.key) (fpr_of c.key))
      (Some (kept_as rows stamp (found_for es c) c)) (found_for es x) =
      lookup_insert (fpr_of x.key) es (fpr_of c.key) (kept_as rows stamp (found_for es c) c) in
      ap (λ b. clash x c || b) (alike x)
      ∙ ((elim (is_fpr (fpr_of x.key) (fpr_of c.key)) as (λ b. is_fpr (fpr_of x.key) (fpr_of c.key) ≡ b →
      (b && not (pointwise nat_eq x.key c.key)) || clash_at (found_for es x) x ≡ clash_at
      (cond b (Some (kept_as rows stamp (found_for es c) c)) (found_for es x)) x) [
        | true ↦ λ t.
            let one : fpr_of x.key ≡ fpr_of c.key = same_fpr-true (fpr_of x.key) (fpr_of c.key) t in
            ap (λ (f : Fpr). not (pointwise nat_eq x.key c.key) || clash_at (lookup (is_fpr f) es) x) one
            ∙ same_name c x (found_for es c) none
        | false ↦ λ t. refl
      ]) refl)
      ∙ ap (λ (o : Option Kept). clash_at o x) (sym found)

  pub clashes_alike : (earlier : List Certificate) (es : Entries) (cs : List Certificate) → ClashAlike earlier es →
      any_clash earlier cs ≡ clash_in rows stamp es cs
  clashes_alike earlier es [] alike = refl
  clashes_alike earlier es (c ∷ cs) alike =
      ap (λ b. b || any_clash (c ∷ earlier) cs) (alike c)
      ∙ ((elim (clash_at (found_for es c) c) as (λ b. clash_at (found_for es c) c ≡ b →
      b || any_clash (c ∷ earlier) cs ≡ b || clash_in rows stamp (kept_with rows stamp es c) cs) [
        | true ↦ λ t. refl
        | false ↦ λ f. clashes_alike (c ∷ earlier) (kept_with rows stamp es c) cs (alike_on earlier es c alike f)
      ]) refl)

  -- Two certificates clash if and only if one clashes with what is kept.
  pub clashes_told : (es : Entries) (cs : List Certificate) → AreNamed es → AreSortedByFpr es →
      any_clash (map (λ (e : Fpr × Certificate). e.1) (stripped es)) cs ≡ clash_in rows stamp es cs
  clashes_told es cs named sorted =
      ap (λ (earlier : List Certificate). any_clash earlier cs) (bodies_same es) ∙ clashes_alike (bodies_of es) es cs
      (λ x. clash_kept x es named sorted)
