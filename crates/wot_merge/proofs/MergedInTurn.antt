-- Certificates merged one after the other: those of two fingerprints in either order, and two of one key merged first.
use Rattle.std.proofs.Common.{◌≡◌, ℕ, Bool, true, false, not, ◌&&◌, cond, nat_eq, List, [], ◌∷◌, ◌++◌, Option, Some}
use Rattle.std.proofs.Common.{None, sym, ap, ◌∙◌, refl, arith}
use Rattle.std.specs.Cmp.Lexicographic.{pointwise}
use Rattle.std.specs.List.{AllByRecursion}
use Rattle.std.specs.BTreeMap.{insert_entry}
use Rattle.std.specs.Map.{lookup}
use Rattle.std.proofs.lemmas.Bool.Decides.{nat_tests}
use Rattle.wot_types.specs.declared.fpr.Fpr.{Fpr}
use Rattle.wot_types.specs.Fpr.{fpr_cmp}
use Rattle.wot_types.specs.FprLaws.{same_fpr-refl, same_fpr-sym}
use Rattle.wot_key.specs.Key.{fpr_of}
use Rattle.wot_policy.specs.declared.rows.PolicyRows.{PolicyRows}
use Rattle.wot_component.specs.Certificate.{Certificate, unite, unmarked}
use Rattle.wot_component.specs.Judged.{judged}
use Rattle.wot_component.specs.Whole.{IsCertificate}
use Rattle.wot_merge.specs.Gather.{clashes_with, taken_one, taken_all, IsWholeState}
use Rattle.wot_keyring_spec.specs.Import.{merged_into, with_cert}
use Rattle.wot_keyring_spec.specs.Keyring.{Certificates, is_fpr}
use Rattle.wot_merge.proofs.Clashes.{keys_same}
use Rattle.wot_keyring_spec.proofs.Inserts.{put_at, found_at, lookup_insert}
use Rattle.wot_merge.proofs.Puts.{either_order, put_twice}

-- ---- lists

pub none_stays : (rows : PolicyRows) (cs : List Certificate) → taken_all rows None cs ≡ None
none_stays rows [] = refl
none_stays rows (c ∷ cs) = none_stays rows cs

pub all_of_both : (rows : PolicyRows) (kept : Option Certificates) (xs ys : List Certificate) →
    taken_all rows kept (xs ++ ys) ≡ taken_all rows (taken_all rows kept xs) ys
all_of_both rows kept [] ys = refl
all_of_both rows kept (x ∷ xs) ys = all_of_both rows (taken_one rows kept x) xs ys

-- ---- two fingerprints

then_one : (rows : PolicyRows) (b : Bool) (certs : Certificates) (d : Certificate) →
    taken_one rows (cond b None (Some certs)) d ≡ cond b None (taken_one rows (Some certs) d)
then_one rows true certs d = refl
then_one rows false certs d = refl

either_test : (a b : Bool) (x y : Certificates) → x ≡ y → cond a None (cond b None (Some x)) ≡ cond b None
    (cond a None (Some y))
either_test true true x y e = refl
either_test true false x y e = refl
either_test false true x y e = refl
either_test false false x y e = ap (λ (z : Certificates). Some z) e

true_false : (b : Bool) → b ≡ true → b ≡ false → ⊥
true_false b h k = let e : true ≡ false = sym h ∙ k in cc

module _ (rows : PolicyRows) where
  -- the one, and then another of a different fingerprint
  one_then_other : (certs : Certificates) (c d : Certificate) → is_fpr (fpr_of d.key) (fpr_of c.key) ≡ false
      → taken_one rows (taken_one rows (Some certs) c) d ≡ cond (clashes_with (lookup (is_fpr (fpr_of c.key)) certs) c)
      None (cond (clashes_with (lookup (is_fpr (fpr_of d.key)) certs) d) None
      (Some (insert_entry fpr_cmp (insert_entry fpr_cmp certs (fpr_of c.key)
      (merged_into (lookup (is_fpr (fpr_of c.key)) certs) (judged rows c))) (fpr_of d.key)
      (merged_into (lookup (is_fpr (fpr_of d.key)) certs) (judged rows d)))))
  one_then_other certs c d apart =
      let with_c : Certificates = with_cert rows certs c in
      let found : lookup (is_fpr (fpr_of d.key)) with_c ≡ lookup (is_fpr (fpr_of d.key)) certs =
      lookup_insert (fpr_of d.key) certs (fpr_of c.key) (merged_into (lookup (is_fpr (fpr_of c.key)) certs)
      (judged rows c))
      ∙ ap (λ b. cond b (Some (merged_into (lookup (is_fpr (fpr_of c.key)) certs) (judged rows c)))
      (lookup (is_fpr (fpr_of d.key)) certs)) apart in
      then_one rows (clashes_with (lookup (is_fpr (fpr_of c.key)) certs) c) with_c d
      ∙ ap (λ (o : Option Certificate). cond (clashes_with (lookup (is_fpr (fpr_of c.key)) certs) c) None
      (cond (clashes_with o d) None
      (Some (insert_entry fpr_cmp (with_cert rows certs c) (fpr_of d.key) (merged_into o (judged rows d)))))) found

  pub swapped : (kept : Option Certificates) (c d : Certificate) → is_fpr (fpr_of d.key) (fpr_of c.key) ≡ false →
      taken_one rows (taken_one rows kept c) d ≡ taken_one rows (taken_one rows kept d) c
  swapped None c d apart = refl
  swapped (Some certs) c d apart =
      one_then_other certs c d apart
      ∙ either_test (clashes_with (lookup (is_fpr (fpr_of c.key)) certs) c)
      (clashes_with (lookup (is_fpr (fpr_of d.key)) certs) d) _ _
      (either_order certs (fpr_of c.key) (fpr_of d.key) _ _ (λ same. true_false _ (same_fpr-refl (fpr_of d.key))
      (ap (λ (f : Fpr). is_fpr (fpr_of d.key) f) (sym same) ∙ apart)))
      ∙ sym (one_then_other certs d c (same_fpr-sym (fpr_of c.key) (fpr_of d.key) ∙ apart))

-- ---- one fingerprint

same_octets : (a : List ℕ) → pointwise nat_eq a a ≡ true
same_octets [] = refl
same_octets (x ∷ xs) = ap (λ b. b && pointwise nat_eq xs xs) (same_octet x) ∙ same_octets xs
  where
    same_octet : (n : ℕ) → nat_eq n n ≡ true
    same_octet n = grind (arith, nat_tests)

not_clashing : (a b : List ℕ) → a ≡ b → not (pointwise nat_eq a b) ≡ false
not_clashing a b e = ap (λ (x : List ℕ). not (pointwise nat_eq a x)) (sym e) ∙ ap not (same_octets a)

clashing : (a b : List ℕ) → (a ≡ b → ⊥) → not (pointwise nat_eq a b) ≡ true
clashing a b apart =
    (elim (not (pointwise nat_eq a b)) as (λ t. not (pointwise nat_eq a b) ≡ t → t ≡ true) [
      | true ↦ λ t. refl
      | false ↦ λ f. absurd (apart (keys_same a b f))
    ]) refl

module _ (rows : PolicyRows) (certs : Certificates) (fpr : Fpr) (x d : Certificate) (one : fpr_of d.key ≡ fpr) where
  -- what follows one of the same fingerprint
  follows : taken_one rows (Some (insert_entry fpr_cmp certs fpr x)) d ≡ cond (not (pointwise nat_eq d.key x.key)) None
      (Some (insert_entry fpr_cmp certs fpr (unite x (judged rows d))))
  follows =
      let there : lookup (is_fpr fpr) (insert_entry fpr_cmp certs fpr x) ≡ Some x =
      lookup_insert fpr certs fpr x ∙ ap (λ b. cond b (Some x) (lookup (is_fpr fpr) certs)) (same_fpr-refl fpr) in
      ap (λ (f : Fpr). cond (clashes_with (lookup (is_fpr f) (insert_entry fpr_cmp certs fpr x)) d) None
      (Some (insert_entry fpr_cmp (insert_entry fpr_cmp certs fpr x) f
      (merged_into (lookup (is_fpr f) (insert_entry fpr_cmp certs fpr x)) (judged rows d))))) one
      ∙ ap (λ (o : Option Certificate). cond (clashes_with o d) None
      (Some (insert_entry fpr_cmp (insert_entry fpr_cmp certs fpr x) fpr (merged_into o (judged rows d))))) there
      ∙ ap (λ (es : Certificates). cond (not (pointwise nat_eq d.key x.key)) None (Some es))
      (put_twice certs fpr x (unite x (judged rows d)))

  united_behind : d.key ≡ x.key → taken_one rows (Some (insert_entry fpr_cmp certs fpr x)) d ≡ Some
      (insert_entry fpr_cmp certs fpr (unite x (judged rows d)))
  united_behind same = follows ∙ ap (λ b. cond b None (Some (insert_entry fpr_cmp certs fpr (unite x (judged rows d)))))
      (not_clashing d.key x.key same)

  clashing_behind : (d.key ≡ x.key → ⊥) → taken_one rows (Some (insert_entry fpr_cmp certs fpr x)) d ≡ None
  clashing_behind apart =
      follows ∙ ap (λ b. cond b None (Some (insert_entry fpr_cmp certs fpr (unite x (judged rows d)))))
      (clashing d.key x.key apart)

-- Two keys of one fingerprint have no result.
pub come_to_nothing : (rows : PolicyRows) (kept : Option Certificates) (c d : Certificate) →
    fpr_of d.key ≡ fpr_of c.key → (c.key ≡ d.key → ⊥) → taken_one rows (taken_one rows kept c) d ≡ None
come_to_nothing rows None c d one apart = refl
come_to_nothing rows (Some certs) c d one apart =
    by (lookup (is_fpr (fpr_of c.key)) certs)
  where
    by : (o : Option Certificate) →
        taken_one rows (cond (clashes_with o c) None
        (Some (insert_entry fpr_cmp certs (fpr_of c.key) (merged_into o (judged rows c))))) d ≡ None
    by None = clashing_behind rows certs (fpr_of c.key) (judged rows c) d one (λ same. apart (sym same))
    by (Some a) =
        (elim (not (pointwise nat_eq c.key a.key)) as (λ b. not (pointwise nat_eq c.key a.key) ≡ b →
        taken_one rows (cond b None (Some (insert_entry fpr_cmp certs (fpr_of c.key) (unite a (judged rows c)))))
        d ≡ None) [
          | true ↦ λ t. refl
          | false ↦ λ f. clashing_behind rows certs (fpr_of c.key) (unite a (judged rows c)) d one
              (λ same. apart (keys_same c.key a.key f ∙ sym same))
        ]) refl

module _ (united : (a b : Certificate) → IsCertificate a → IsCertificate b → a.key ≡ b.key → IsCertificate (unite a b))
    (marked : (rows : PolicyRows) (c : Certificate) → IsCertificate c → IsCertificate (judged rows c))
    (rows : PolicyRows) where
  -- All certificates stay whole.
  pub whole_with : (kept : Option Certificates) (c : Certificate) → IsWholeState kept → IsCertificate c →
      IsWholeState (taken_one rows kept c)
  whole_with None c all whole = tt
  whole_with (Some certs) c all whole =
      (elim (lookup (is_fpr (fpr_of c.key)) certs) as (λ (o : Option Certificate). lookup (is_fpr (fpr_of c.key))
      certs ≡ o → IsWholeState
      (cond (clashes_with o c) None
      (Some (insert_entry fpr_cmp certs (fpr_of c.key) (merged_into o (judged rows c)))))) [
        | None ↦ λ none. put_at (λ fpr x. IsCertificate x) certs (fpr_of c.key) (judged rows c) all
            (marked rows c whole)
        | Some a ↦ λ found.
            (elim (not (pointwise nat_eq c.key a.key)) as (λ b. not (pointwise nat_eq c.key a.key) ≡ b →
            IsWholeState (cond b None (Some (insert_entry fpr_cmp certs (fpr_of c.key) (unite a (judged rows c)))))) [
              | true ↦ λ t. tt
              | false ↦ λ f.
                  put_at (λ fpr x. IsCertificate x) certs (fpr_of c.key) (unite a (judged rows c)) all
                  (united a (judged rows c) (found_at (λ fpr x. IsCertificate x) (fpr_of c.key) certs a all found)
                  (marked rows c whole) (sym (keys_same c.key a.key f)))
            ]) refl
      ]) refl

  pub whole_with_all : (kept : Option Certificates) (cs : List Certificate) → IsWholeState kept →
      AllByRecursion IsCertificate cs → IsWholeState (taken_all rows kept cs)
  whole_with_all kept [] all whole = all
  whole_with_all kept (c ∷ cs) all whole = whole_with_all (taken_one rows kept c) cs (whole_with kept c all whole.0)
      whole.1

-- Two of one key may be merged first.
module _ (unmarks : (rows : PolicyRows) (c : Certificate) → judged rows (unmarked c) ≡ judged rows c)
    (unites : (rows : PolicyRows) (a b : Certificate) → judged rows (unite a b) ≡ unite (judged rows a) (judged rows b))
    (groups : (a b c : Certificate) → IsCertificate a → IsCertificate b → IsCertificate c →
    unite (unite a b) c ≡ unite a (unite b c)) (marked : (rows : PolicyRows) (c : Certificate) → IsCertificate c →
    IsCertificate (judged rows c)) (rows : PolicyRows) where
  pub united_first : (kept : Option Certificates) (c d : Certificate) → IsWholeState kept → IsCertificate c →
      IsCertificate d → c.key ≡ d.key → taken_one rows (taken_one rows kept c) d ≡ taken_one rows kept
      (unmarked (unite c d))
  united_first None c d all wc wd same = refl
  united_first (Some certs) c d all wc wd same =
      let as_both : judged rows (unmarked (unite c d)) ≡ unite (judged rows c) (judged rows d) =
      unmarks rows (unite c d) ∙ unites rows c d in
      (elim (lookup (is_fpr (fpr_of c.key)) certs) as (λ (o : Option Certificate). lookup (is_fpr (fpr_of c.key))
      certs ≡ o → taken_one rows
      (cond (clashes_with o c) None
      (Some (insert_entry fpr_cmp certs (fpr_of c.key) (merged_into o (judged rows c))))) d
      ≡ cond (clashes_with o (unmarked (unite c d))) None
      (Some (insert_entry fpr_cmp certs (fpr_of c.key) (merged_into o (judged rows (unmarked (unite c d))))))) [
        | None ↦ λ none.
            united_behind rows certs (fpr_of c.key) (judged rows c) d (ap fpr_of (sym same)) (sym same)
            ∙ ap (λ (x : Certificate). Some (insert_entry fpr_cmp certs (fpr_of c.key) x)) (sym as_both)
        | Some a ↦ λ found.
            (elim (not (pointwise nat_eq c.key a.key)) as (λ b. not (pointwise nat_eq c.key a.key) ≡ b →
            taken_one rows (cond b None
            (Some (insert_entry fpr_cmp certs (fpr_of c.key) (unite a (judged rows c))))) d
            ≡ cond b None (Some (insert_entry fpr_cmp certs (fpr_of c.key)
            (unite a (judged rows (unmarked (unite c d))))))) [
              | true ↦ λ t. refl
              | false ↦ λ f.
                  united_behind rows certs (fpr_of c.key) (unite a (judged rows c)) d (ap fpr_of (sym same))
                  (sym same ∙ keys_same c.key a.key f)
                  ∙ ap (λ (x : Certificate). Some (insert_entry fpr_cmp certs (fpr_of c.key) x))
                  (groups a (judged rows c) (judged rows d) (found_at (λ fpr x. IsCertificate x) (fpr_of c.key) certs a
                  all found) (marked rows c wc) (marked rows d wd) ∙ ap (unite a) (sym as_both))
            ]) refl
      ]) refl
