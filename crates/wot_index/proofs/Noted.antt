-- The index stays the index of what is kept, after a removal and a change of a verdict.
use Rattle.std.proofs.Common.{◌≡◌, ℕ, Bool, true, false, cond, [], ◌∷◌, Option, Some, None, sym, ap}
use Rattle.std.proofs.Common.{◌∙◌, subst, refl}
use Rattle.std.specs.declared.cmp.Ordering.TheVariants.{Less}
use Rattle.std.specs.Ordering.{is_eq}
use Rattle.std.specs.Option.{option_map, option_map_or, MatchOption}
use Rattle.std.specs.List.{AllByRecursion}
use Rattle.std.specs.Map.{lookup, remove_entry, set_value, keys_of}
use Rattle.std.proofs.lemmas.Cmp.{eq_by_cmp_equiv}
use Rattle.std.proofs.lemmas.Map.{lookup-remove_entry}
use Rattle.std.proofs.lemmas.Map.Keys.{IsDistinct-from_sorted, sorted_head, sorted_tail}
use Rattle.std.proofs.lemmas.Map.Made.{lookup-map_values}
use Rattle.wot_types.specs.declared.fpr.Fpr.{Fpr}
use Rattle.wot_types.specs.declared.number.SigNumber.{SigNumber}
use Rattle.wot_types.specs.Fpr.{fpr_cmp}
use Rattle.wot_types.specs.FprLaws.{fpr_total, same_fpr-true, same_fpr-refl}
use Rattle.wot_verdict.specs.Verdicts.{Holders, holder_at}
use Rattle.wot_index.specs.declared.index.Index.{Index}
use Rattle.wot_keyring_spec.specs.declared.kept.Kept.{Kept}
use Rattle.wot_index.specs.Index.{holder_of, is_holder, stands_at, unless, IsIndexOf}
use Rattle.wot_keyring_spec.specs.Keyring.{Entries, is_fpr}
use Rattle.wot_keyring_spec.specs.Kept.{AreSortedByFpr}
use Rattle.wot_keyring_spec.specs.Verdict.{has_number, restamped, restamped_all}
use Rattle.wot_keyring_spec.proofs.Inserts.{found_each}

-- whether the certificate that was found has a signature of this number
abbrev on_found : SigNumber → Option Kept → Bool
on_found n found = option_map_or (λ (x : Kept). has_number n x.cert) found false

-- ---- a certificate removed

place_is : (holder : Option Fpr) (p q : Fpr) → is_holder holder p ≡ true → is_holder holder q ≡ is_fpr p q
place_is None p q h = absurd cc
place_is (Some r) p q h = ap (λ (x : Fpr). is_fpr x q) (same_fpr-true r p h)

module _ (n : SigNumber) (fpr q : Fpr) (holder : Option Fpr) (es : Entries) (noted : (f : Fpr) →
    is_holder holder f ≡ stands_at es n f) where
  out_there : is_holder holder fpr ≡ true → false ≡ on_found n (cond (is_fpr fpr q) None (lookup (is_fpr q) es))
  out_there there =
      (elim (is_fpr fpr q) as (λ b. is_fpr fpr q ≡ b → false ≡ on_found n (cond b None (lookup (is_fpr q) es))) [
        | true ↦ λ same. refl
        | false ↦ λ other. sym (sym (noted q) ∙ place_is holder fpr q there ∙ other)
      ]) refl

  out_not_there : is_holder holder fpr ≡ false →
      is_holder holder q ≡ on_found n (cond (is_fpr fpr q) None (lookup (is_fpr q) es))
  out_not_there not_there =
      (elim (is_fpr fpr q) as (λ b. is_fpr fpr q ≡ b →
      is_holder holder q ≡ on_found n (cond b None (lookup (is_fpr q) es))) [
        | true ↦ λ same. ap (is_holder holder) (sym (same_fpr-true fpr q same)) ∙ not_there
        | false ↦ λ other. noted q
      ]) refl

  pub out : (b : Bool) → is_holder holder fpr ≡ b → is_holder (unless b holder) q ≡ on_found n
      (cond (is_fpr fpr q) None (lookup (is_fpr q) es))
  out true h = out_there h
  out false h = out_not_there h

-- what is found once an entry is removed
pub found_without : (q fpr : Fpr) (es : Entries) → AreSortedByFpr es →
    lookup (is_fpr q) (remove_entry (is_fpr fpr) es) ≡ cond (is_fpr fpr q) None (lookup (is_fpr q) es)
found_without q fpr es sorted =
    lookup-remove_entry (eq_by_cmp_equiv fpr_total) (is_fpr fpr) (λ x y h. ap (λ (z : Fpr). is_fpr z y)
    (same_fpr-true fpr x h)) q es (IsDistinct-from_sorted fpr_cmp (keys_of es) sorted)

-- What was on a removed certificate isn't noted any more.
pub indexed_without : (old new : Index) (es : Entries) (fpr : Fpr) (kept : Kept) → AreSortedByFpr es →
    Some kept ≡ lookup (is_fpr fpr) es → new.exact ≡ old.exact →
    ((n : SigNumber) → holder_of new.verdicts n ≡ unless (has_number n kept.cert)
    (holder_of old.verdicts n)) → IsIndexOf old es
    → IsIndexOf new (remove_entry (is_fpr fpr) es)
indexed_without old new es fpr kept sorted found same holders before exact n q =
    let noted = before (sym same ∙ exact) n in
    ap (λ (p : Option Fpr). is_holder p q) (holders n)
    ∙ out n fpr q (holder_of old.verdicts n) es noted (has_number n kept.cert)
    (noted fpr ∙ ap (on_found n) (sym found))
    ∙ ap (on_found n) (sym (found_without q fpr es sorted))

-- ---- a verdict altered

-- The same signatures are noted.
pub indexed_same : (old new : Index) (es : Entries) → new.exact ≡ old.exact →
    new.verdicts.holders ≡ old.verdicts.holders → IsIndexOf old es → IsIndexOf new es
indexed_same old new es same holders before exact n q =
    ap (λ (hs : Holders). is_holder (holder_at hs n) q) holders ∙ before (sym same ∙ exact) n q

found_again : (n m : SigNumber) (stamp : ℕ) (found : Option Kept) →
    on_found n (option_map (restamped m stamp) found) ≡ on_found n found
found_again n m stamp None = refl
found_again n m stamp (Some x) = refl

pub indexed_restamped : (i : Index) (m : SigNumber) (stamp : ℕ) (es : Entries) → IsIndexOf i es →
    IsIndexOf i (restamped_all m stamp es)
indexed_restamped i m stamp es before exact n q =
    before exact n q ∙ sym (ap (on_found n) (lookup-map_values (restamped m stamp) (is_fpr q) es)
    ∙ found_again n m stamp (lookup (is_fpr q) es))

module _ (n : SigNumber) (stamp : ℕ) where
  each_noted : (holder : Option Fpr) (all es : Entries) → ((q : Fpr) → is_holder holder q ≡ stands_at all n q) →
      AllByRecursion (λ (x : Fpr × Kept). lookup (is_fpr x.0) all ≡ Some x.1) es →
      AllByRecursion (λ (x : Fpr × Kept). has_number n x.1.cert ≡ is_holder holder x.0) es
  each_noted holder all [] noted found = tt
  each_noted holder all (e ∷ es) noted found =
      (sym (noted e.0 ∙ ap (on_found n) found.0), each_noted holder all es noted found.1)

  unmoved : (es : Entries) → AllByRecursion (λ (x : Fpr × Kept). has_number n x.1.cert ≡ false) es →
      restamped_all n stamp es ≡ es
  unmoved [] none = refl
  unmoved (e ∷ es) none = λ i. (e.0, record { cert = e.1.cert; stamp = cond (none.0 i) stamp e.1.stamp }) ∷ unmoved es
      none.1 i

  apart : (g : Fpr) (es : Entries) → AllByRecursion (λ y. fpr_cmp g y ≡ Less) (keys_of es) →
      AllByRecursion (λ (x : Fpr × Kept). has_number n x.1.cert ≡ is_fpr g x.0) es →
      AllByRecursion (λ (x : Fpr × Kept). has_number n x.1.cert ≡ false) es
  apart g [] below noted = tt
  apart g (e ∷ es) below noted = (noted.0 ∙ ap is_eq below.0, apart g es below.1 noted.1)

  moved : (g : Fpr) (x : Kept) (es : Entries) → AreSortedByFpr es →
      AllByRecursion (λ (x : Fpr × Kept). has_number n x.1.cert ≡ is_fpr g x.0) es → lookup (is_fpr g) es ≡ Some x →
      set_value (is_fpr g) es (record { cert = x.cert; stamp = stamp }) ≡ restamped_all n stamp es
  moved g x [] sorted noted found = absurd cc
  moved g x (e ∷ es) sorted noted found =
      (elim (is_fpr g e.0) as (λ b. is_fpr g e.0 ≡ b → has_number n e.1.cert ≡ b →
      cond b (Some e.1) (lookup (is_fpr g) es) ≡ Some x →
      cond b ((e.0, record { cert = x.cert; stamp = stamp }) ∷ es)
      (e ∷ set_value (is_fpr g) es (record { cert = x.cert; stamp = stamp })) ≡ restamped_all n stamp (e ∷ es)) [
        | true ↦ λ t h f.
            let same : e.1 ≡ x = cc in
            let below = subst (λ (y : Fpr). AllByRecursion (λ z. fpr_cmp y z ≡ Less) (keys_of es))
            (sym (same_fpr-true g e.0 t)) (sorted_head fpr_cmp e.0 (keys_of es) sorted) in
            sym (λ i. (e.0, record { cert = (same i).cert; stamp = cond (h i) stamp e.1.stamp }) ∷ unmoved es
            (apart g es below noted.1) i)
        | false ↦ λ t h f.
            λ i. (e.0, record { cert = e.1.cert; stamp = cond (sym h i) stamp e.1.stamp }) ∷ moved g x es
            (sorted_tail fpr_cmp e.0 (keys_of es) sorted) noted.1 f i
      ]) refl noted.0 found

  -- A number that is on no certificate alters no stamp.
  pub restamped_nowhere : (i : Index) (es : Entries) → AreSortedByFpr es → IsIndexOf i es → i.exact ≡ true →
      holder_of i.verdicts n ≡ None → es ≡ restamped_all n stamp es
  restamped_nowhere i es sorted indexed exact none =
      sym (unmoved es (each_noted None es es (λ q. ap (λ (p : Option Fpr). is_holder p q) (sym none)
      ∙ indexed exact n q) (found_each es sorted)))

  -- A number that is on one certificate alters its stamp.
  pub restamped_there : (i : Index) (es new : Entries) (fpr : Fpr) → AreSortedByFpr es → IsIndexOf i es →
      i.exact ≡ true → holder_of i.verdicts n ≡ Some fpr
      → MatchOption (lookup (is_fpr fpr) es) (new ≡ es) (λ (x : Kept). new ≡ set_value (is_fpr fpr) es
      (record { cert = x.cert; stamp = stamp })) → new ≡ restamped_all n stamp es
  restamped_there i es new fpr sorted indexed exact some done =
      let noted : (q : Fpr) → is_fpr fpr q ≡ stands_at es n q = λ q. ap (λ (p : Option Fpr). is_holder p q) (sym some)
      ∙ indexed exact n q in
      (elim (lookup (is_fpr fpr) es) as (λ (o : Option Kept). lookup (is_fpr fpr) es ≡ o →
      MatchOption o (new ≡ es) (λ (x : Kept). new ≡ set_value (is_fpr fpr) es
      (record { cert = x.cert; stamp = stamp })) → new ≡ restamped_all n stamp es) [
        | None ↦ λ absent d. absurd (true_false (same_fpr-refl fpr) (noted fpr ∙ ap (on_found n) absent))
        | Some x ↦ λ found d. d ∙ moved fpr x es sorted (each_noted (Some fpr) es es noted (found_each es sorted)) found
      ]) refl done
    where
      true_false : {b : Bool} → b ≡ true → b ≡ false → ⊥
      true_false h k = cc

-- ---- which certificate has a number, by the index

module _ (n : SigNumber) (i : Index) (es : Entries) where
  -- It is on no certificate.
  pub noted_nowhere : IsIndexOf i es → i.exact ≡ true → holder_of i.verdicts n ≡ None → (q : Fpr) →
      stands_at es n q ≡ true → ⊥
  noted_nowhere indexed exact none q h = let e : false ≡ true = ap (λ (p : Option Fpr). is_holder p q) (sym none)
      ∙ indexed exact n q ∙ h in cc

  -- It is on at most one certificate.
  pub noted_there : (fpr : Fpr) → IsIndexOf i es → i.exact ≡ true → holder_of i.verdicts n ≡ Some fpr →
      (q : Fpr) → stands_at es n q ≡ true → is_fpr fpr q ≡ true
  noted_there fpr indexed exact some q h = ap (λ (p : Option Fpr). is_holder p q) (sym some) ∙ indexed exact n q ∙ h
