-- Merging the gathered certificates has the effect of merging the list.
use Rattle.std.proofs.Common.{◌≡◌, ℕ, take, drop, true, false, cond, List, [], ◌∷◌, ◌++◌, Option, Some, None, sym, ap}
use Rattle.std.proofs.Common.{◌∙◌, subst, refl}
use Rattle.std.specs.declared.cmp.Ordering.TheVariants.{Less, Equal, Greater}
use Rattle.std.specs.Ordering.{is_eq, match_ordering}
use Rattle.std.specs.List.{AllByRecursion}
use Rattle.std.proofs.lemmas.List.{take-append-drop}
use Rattle.std.specs.BTreeMap.{insert_entry}
use Rattle.std.specs.Map.{lookup, remove_entry, values_of}
use Rattle.wot_types.specs.declared.fpr.Fpr.{Fpr}
use Rattle.wot_types.specs.Fpr.{fpr_cmp}
use Rattle.wot_types.specs.FprLaws.{same_fpr-true, same_fpr-sym}
use Rattle.wot_key.specs.Key.{fpr_of}
use Rattle.wot_policy.specs.declared.rows.PolicyRows.{PolicyRows}
use Rattle.wot_component.specs.Certificate.{Certificate, unite, unmarked}
use Rattle.wot_component.specs.Judged.{judged}
use Rattle.wot_component.specs.Whole.{IsCertificate}
use Rattle.wot_merge.specs.declared.staging.Fault.{Fault}
use Rattle.wot_merge.specs.declared.staging.Fault.TheVariants.{Clash, Memory}
use Rattle.wot_merge.specs.Gather.{taken_one, taken_all, IsWholeState, DoTheSame, ComeToNothing, IsNothingTold, IsOwn}
use Rattle.wot_merge.specs.Gather.{AreOwn, IsGathered}
use Rattle.wot_keyring_spec.specs.Keyring.{Certificates, is_fpr}
use Rattle.wot_keyring_spec.proofs.Inserts.{put_at, found_at}
use Rattle.wot_merge.proofs.MergedInTurn.{none_stays, all_of_both, swapped, come_to_nothing, whole_with_all, united_first}

-- ---- names

-- none of these has the fingerprint
abbrev AreOthers : Fpr → Certificates → Type 0
AreOthers fpr es = AllByRecursion (λ (e : Fpr × Certificate). is_fpr fpr (fpr_of e.1.key) ≡ false) es

others : (fpr : Fpr) (es : Certificates) → AreOwn es → lookup (is_fpr fpr) es ≡ None → AreOthers fpr es
others fpr [] own none = tt
others fpr (e ∷ es) own none =
    (elim (is_fpr fpr e.0) as (λ b. is_fpr fpr e.0 ≡ b → cond b (Some e.1) (lookup (is_fpr fpr) es) ≡ None →
    AreOthers fpr (e ∷ es)) [
      | true ↦ λ t n. absurd (some_none e.1 n)
      | false ↦ λ f n. (ap (is_fpr fpr) (sym own.0.0) ∙ f, others fpr es own.1 n)
    ]) refl none
  where
    some_none : (c : Certificate) → Some c ≡ None → ⊥
    some_none c n = cc

own_out : (fpr : Fpr) (es : Certificates) → AreOwn es → AreOwn (remove_entry (is_fpr fpr) es)
own_out fpr [] own = tt
own_out fpr (e ∷ es) own =
    elim (is_fpr fpr e.0) as (λ b. AreOwn (cond b es (e ∷ remove_entry (is_fpr fpr) es))) [
      | true ↦ own.1
      | false ↦ (own.0, own_out fpr es own.1)
    ]

pub own_in : (es : Certificates) (c : Certificate) → AreOwn es → IsCertificate c →
    AreOwn (insert_entry fpr_cmp es (fpr_of c.key) c)
own_in es c own whole = put_at (λ fpr x. (fpr ≡ fpr_of x.key) × IsCertificate x) es (fpr_of c.key) c own (refl, whole)

pub values_whole : (es : Certificates) → AreOwn es → AllByRecursion IsCertificate (values_of es)
values_whole [] own = tt
values_whole (e ∷ es) own = (own.0.1, values_whole es own.1)

-- ---- places

module _ (rows : PolicyRows) where
  -- A certificate moves past those of other fingerprints.
  moved : (es : Certificates) (c : Certificate) (rest : List Certificate) → AreOthers (fpr_of c.key) es →
      (kept : Option Certificates) → taken_all rows kept (values_of es ++ c ∷ rest) ≡ taken_all rows
      (taken_one rows kept c) (values_of es ++ rest)
  moved [] c rest apart kept = refl
  moved (e ∷ es) c rest apart kept =
      moved es c rest apart.1 (taken_one rows kept e.1)
      ∙ ap (λ (s : Option Certificates). taken_all rows s (values_of es ++ rest))
      (sym (swapped rows kept c e.1 (turned_so c e.1 apart.0)))
    where
      turned_so : (x y : Certificate) → is_fpr (fpr_of x.key) (fpr_of y.key) ≡ false →
          is_fpr (fpr_of y.key) (fpr_of x.key) ≡ false
      turned_so x y h = same_fpr-sym (fpr_of y.key) (fpr_of x.key) ∙ h

  -- what was removed can be appended
  taken_behind : (fpr : Fpr) (es : Certificates) (c : Certificate) (rest : List Certificate) → AreOwn es →
      lookup (is_fpr fpr) (remove_entry (is_fpr fpr) es) ≡ None → lookup (is_fpr fpr) es ≡ Some c
      → (kept : Option Certificates) → taken_all rows kept (values_of es ++ rest) ≡ taken_all rows kept
      (values_of (remove_entry (is_fpr fpr) es) ++ c ∷ rest)
  taken_behind fpr [] c rest own gone found kept = absurd cc
  taken_behind fpr (e ∷ es) c rest own gone found kept =
      (elim (is_fpr fpr e.0) as (λ b. is_fpr fpr e.0 ≡ b →
      lookup (is_fpr fpr) (cond b es (e ∷ remove_entry (is_fpr fpr) es)) ≡ None →
      cond b (Some e.1) (lookup (is_fpr fpr) es) ≡ Some c
      → taken_all rows (taken_one rows kept e.1) (values_of es ++ rest) ≡ taken_all rows kept
      (values_of (cond b es (e ∷ remove_entry (is_fpr fpr) es)) ++ c ∷ rest)) [
        | true ↦ λ t none some.
            let this : e.1 ≡ c = cc in
            let one : fpr ≡ fpr_of e.1.key = same_fpr-true fpr e.0 t ∙ own.0.0 in
            sym (moved es e.1 rest (subst (λ (f : Fpr). AreOthers f es) one (others fpr es own.1 none)) kept)
            ∙ ap (λ (x : Certificate). taken_all rows kept (values_of es ++ x ∷ rest)) this
        | false ↦ λ f none some.
            taken_behind fpr es c rest own.1
            (sym (ap (λ b. cond b (Some e.1) (lookup (is_fpr fpr) (remove_entry (is_fpr fpr) es))) f) ∙ none) some
            (taken_one rows kept e.1)
      ]) refl gone found

  -- what is inserted may as well be appended
  put_behind : (es : Certificates) (fpr : Fpr) (c : Certificate) (rest : List Certificate) → AreOwn es →
      fpr ≡ fpr_of c.key → lookup (is_fpr fpr) es ≡ None
      → (kept : Option Certificates) →
      taken_all rows kept (values_of (insert_entry fpr_cmp es fpr c) ++ rest) ≡ taken_all rows kept
      (values_of es ++ c ∷ rest)
  put_behind [] fpr c rest own one none kept = refl
  put_behind (e ∷ es) fpr c rest own one none kept =
      (elim (fpr_cmp fpr e.0) as (λ r. fpr_cmp fpr e.0 ≡ r →
      taken_all rows kept (values_of (match_ordering r ((fpr, c) ∷ e ∷ es) ((e.0, c) ∷ es)
      (e ∷ insert_entry fpr_cmp es fpr c)) ++ rest) ≡ taken_all rows kept (values_of (e ∷ es) ++ c ∷ rest)) [
        | Less ↦ λ h. sym (moved (e ∷ es) c rest (subst (λ (f : Fpr). AreOthers f (e ∷ es)) one
            (others fpr (e ∷ es) own none)) kept)
        | Equal ↦ λ h. absurd (some_none e.1 (sym (ap (λ r. cond (is_eq r) (Some e.1) (lookup (is_fpr fpr) es)) h)
            ∙ none))
        | Greater ↦ λ h. put_behind es fpr c rest own.1 one
            (sym (ap (λ r. cond (is_eq r) (Some e.1) (lookup (is_fpr fpr) es)) h) ∙ none) (taken_one rows kept e.1)
      ]) refl
    where
      some_none : (x : Certificate) → Some x ≡ None → ⊥
      some_none x n = cc

-- ---- one more

-- added to the others
pub put_beside : (es es' new : Certificates) (c : Certificate) (fpr : Fpr) → fpr ≡ fpr_of c.key → es' ≡ es →
    lookup (is_fpr fpr) es' ≡ None → new ≡ insert_entry fpr_cmp es' (fpr_of c.key) c → AreOwn es → IsCertificate c →
    AreOwn new × IsGathered es c new
put_beside es es' new c fpr one same none put own whole =
    let put_so : new ≡ insert_entry fpr_cmp es (fpr_of c.key) c =
    put ∙ ap (λ (x : Certificates). insert_entry fpr_cmp x (fpr_of c.key) c) same in
    let none_so : lookup (is_fpr (fpr_of c.key)) es ≡ None = ap (λ (f : Fpr). lookup (is_fpr f) es) (sym one)
    ∙ ap (lookup (is_fpr fpr)) (sym same) ∙ none in (
      subst AreOwn (sym put_so) (own_in es c own whole),
      subst (λ (x : Certificates). IsGathered es c x) (sym put_so) (λ rest rows kept all. put_behind rows es
          (fpr_of c.key) c rest own refl none_so kept),
    )

module _ (united : (a b : Certificate) → IsCertificate a → IsCertificate b → a.key ≡ b.key → IsCertificate (unite a b))
    (marked : (rows : PolicyRows) (c : Certificate) → IsCertificate c → IsCertificate (judged rows c)) where
  module _ (es less : Certificates) (c there : Certificate) (fpr : Fpr) (one : fpr ≡ fpr_of c.key) (own : AreOwn es)
      (out : less ≡ remove_entry (is_fpr fpr) es) (gone : lookup (is_fpr fpr) less ≡ None)
      (found : lookup (is_fpr fpr) es ≡ Some there) where
    -- the two are next to each other
    beside : (rows : PolicyRows) (kept : Option Certificates) (rest : List Certificate) →
        taken_all rows kept (values_of es ++ c ∷ rest) ≡ taken_all rows
        (taken_one rows (taken_one rows (taken_all rows kept (values_of less)) there) c) rest
    beside rows kept rest =
        taken_behind rows fpr es there (c ∷ rest) own (ap (lookup (is_fpr fpr)) (sym out) ∙ gone) found kept
        ∙ ap (λ (x : Certificates). taken_all rows kept (values_of x ++ there ∷ c ∷ rest)) (sym out)
        ∙ all_of_both rows kept (values_of less) (there ∷ c ∷ rest)

    there_own : IsOwn (fpr, there)
    there_own = found_at (λ f x. (f ≡ fpr_of x.key) × IsCertificate x) fpr es there own found

    -- two keys
    pub clash_there : (there.key ≡ c.key → ⊥) → (rest : List Certificate) → ComeToNothing (values_of es ++ c ∷ rest)
    clash_there apart rest rows kept whole =
        beside rows kept rest
        ∙ ap (λ (s : Option Certificates). taken_all rows s rest)
        (come_to_nothing rows (taken_all rows kept (values_of less)) there c (sym one ∙ there_own.0) apart)
        ∙ none_stays rows rest

    module _ (unmarks : (rows : PolicyRows) (x : Certificate) → judged rows (unmarked x) ≡ judged rows x)
        (unites : (rows : PolicyRows) (a b : Certificate) → judged rows (unite a b) ≡ unite (judged rows a)
        (judged rows b)) (groups : (x y z : Certificate) → IsCertificate x → IsCertificate y → IsCertificate z →
        unite (unite x y) z ≡ unite x (unite y z)) (whole : IsCertificate c) (same : there.key ≡ c.key)
        (u : Certificate) (is : u ≡ unmarked (unite there c)) (new : Certificates)
        (put : new ≡ insert_entry fpr_cmp less (fpr_of u.key) u) where
      less_own : AreOwn less
      less_own = subst AreOwn (sym out) (own_out fpr es own)

      -- one key
      pub united_there : IsGathered es c new
      united_there rest rows kept all =
          let named : fpr_of u.key ≡ fpr = ap (λ (x : Certificate). fpr_of x.key) is ∙ sym there_own.0 in
          ap (λ (x : Certificates). taken_all rows kept (values_of x ++ rest)) put
          ∙ put_behind rows less (fpr_of u.key) u rest less_own refl (ap (λ (f : Fpr). lookup (is_fpr f) less) named
          ∙ gone) kept
          ∙ all_of_both rows kept (values_of less) (u ∷ rest)
          ∙ ap (λ (x : Certificate). taken_all rows (taken_one rows (taken_all rows kept (values_of less)) x) rest) is
          ∙ ap (λ (s : Option Certificates). taken_all rows s rest)
          (sym (united_first unmarks unites groups marked rows (taken_all rows kept (values_of less)) there c
          (whole_with_all united marked rows kept (values_of less) all (values_whole less less_own)) there_own.1
          whole same))
          ∙ sym (beside rows kept rest)

      pub united_own : IsCertificate u → AreOwn new
      united_own w = subst AreOwn (sym put) (own_in less u less_own w)

-- ---- one after the other

-- What is gathered and what is still to come have the effect of the whole list.
abbrev pub IsPoured : List Certificate → Certificates → Certificates → Type 0
IsPoured all certs from = DoTheSame (values_of certs ++ values_of from) all

-- ---- halves

-- the first list, and then the second
abbrev AreBoth : List Certificate → List Certificate → List Certificate → Type 0
AreBoth list first second = list ≡ first ++ second

pub both_halves : (n : ℕ) (list first second : List Certificate) → first ≡ take n list → second ≡ drop n list →
    AreBoth list first second
both_halves n list first second f s = sym (take-append-drop n list) ∙ (λ i. sym f i ++ sym s i)

module _ (united : (a b : Certificate) → IsCertificate a → IsCertificate b → a.key ≡ b.key → IsCertificate (unite a b))
    (marked : (rows : PolicyRows) (c : Certificate) → IsCertificate c → IsCertificate (judged rows c))
    (list first second : List Certificate) (halves : AreBoth list first second) where
  then_second : (rows : PolicyRows) (kept : Option Certificates) → taken_all rows kept list ≡ taken_all rows
      (taken_all rows kept first) second
  then_second rows kept = ap (taken_all rows kept) halves ∙ all_of_both rows kept first second

  pub none_first : (fault : Fault) → IsNothingTold fault first → IsNothingTold fault list
  none_first Memory told = tt
  none_first Clash told = λ rows kept whole.
      then_second rows kept ∙ ap (λ (k : Option Certificates). taken_all rows k second) (told rows kept whole)
      ∙ none_stays rows second

  module _ (left right : Certificates) (own : AreOwn left) (same : DoTheSame first (values_of left)) where
    then_gathered : (rows : PolicyRows) (kept : Option Certificates) → IsWholeState kept →
        taken_all rows kept list ≡ taken_all rows (taken_all rows kept (values_of left)) second
    then_gathered rows kept whole = then_second rows kept ∙ ap (λ (k : Option Certificates). taken_all rows k second)
        (same rows kept whole)

    whole_then : (rows : PolicyRows) (kept : Option Certificates) → IsWholeState kept →
        IsWholeState (taken_all rows kept (values_of left))
    whole_then rows kept whole = whole_with_all united marked rows kept (values_of left) whole (values_whole left own)

    pub none_second : (fault : Fault) → IsNothingTold fault second → IsNothingTold fault list
    none_second Memory told = tt
    none_second Clash told = λ rows kept whole. then_gathered rows kept whole
        ∙ told rows (taken_all rows kept (values_of left)) (whole_then rows kept whole)

    module _ (same_right : DoTheSame second (values_of right)) where
      same_both : DoTheSame list (values_of left ++ values_of right)
      same_both rows kept whole =
          then_gathered rows kept whole
          ∙ same_right rows (taken_all rows kept (values_of left)) (whole_then rows kept whole)
          ∙ sym (all_of_both rows kept (values_of left) (values_of right))

      pub same_poured : (new : Certificates) → DoTheSame (values_of new) (values_of left ++ values_of right) →
          DoTheSame list (values_of new)
      same_poured new poured rows kept whole = same_both rows kept whole ∙ sym (poured rows kept whole)

      pub none_poured : (fault : Fault) → IsNothingTold fault (values_of left ++ values_of right) →
          IsNothingTold fault list
      none_poured Memory told = tt
      none_poured Clash told = λ rows kept whole. same_both rows kept whole ∙ told rows kept whole
