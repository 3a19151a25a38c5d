-- The index stays the index of what is kept after an import.
use Rattle.std.proofs.Common.{◌≡◌, ℕ, Bool, true, false, ◌&&◌, ◌||◌, cond, List, [], ◌∷◌, Option, Some, None, sym, ap}
use Rattle.std.proofs.Common.{◌∙◌, refl}
use Rattle.std.specs.Option.{option_map_or}
use Rattle.std.specs.List.{AllByRecursion}
use Rattle.std.specs.Map.{lookup}
use Rattle.std.proofs.lemmas.Bool.{or_parts}
use Rattle.wot_types.specs.declared.fpr.Fpr.{Fpr}
use Rattle.wot_types.specs.declared.number.SigNumber.{SigNumber}
use Rattle.wot_types.specs.FprLaws.{same_fpr-true, same_fpr-sym}
use Rattle.wot_key.specs.Key.{fpr_of}
use Rattle.wot_policy.specs.declared.rows.PolicyRows.{PolicyRows}
use Rattle.wot_component.specs.Certificate.{Certificate, unite}
use Rattle.wot_component.specs.Judged.{judged}
use Rattle.wot_component.specs.Whole.{IsCertificate}
use Rattle.wot_index.specs.declared.index.Index.{Index}
use Rattle.wot_keyring_spec.specs.declared.kept.Kept.{Kept}
use Rattle.wot_index.specs.Index.{stands_at, stands_among, IsIndexOf, Notes}
use Rattle.wot_keyring_spec.specs.Keyring.{Entries, is_fpr}
use Rattle.wot_keyring_spec.specs.Kept.{AreWhole}
use Rattle.wot_merge.specs.Staging.{found_for, kept_as, kept_with, kept_all, clash_at, clash_in}
use Rattle.wot_keyring_spec.specs.Verdict.{has_number}
use Rattle.wot_keyring.proofs.ImportEffects.{whole_all}
use Rattle.wot_index.proofs.Choices.{or_false, or_more, and_true, and_false}
use Rattle.wot_merge.proofs.Clashes.{keys_same}
use Rattle.wot_keyring_spec.proofs.Inserts.{found_at, lookup_insert}
use Rattle.wot_keyring.proofs.Numbers.{united_numbers, judged_numbers}

-- whether the certificate that was found has a signature of this number
abbrev on_found : SigNumber → Option Kept → Bool
on_found n found = option_map_or (λ (x : Kept). has_number n x.cert) found false

module _ (united : (a b : Certificate) → IsCertificate a → IsCertificate b → a.key ≡ b.key → IsCertificate (unite a b))
    (marked : (rows : PolicyRows) (c : Certificate) → IsCertificate c → IsCertificate (judged rows c))
    (rows : PolicyRows) (stamp : ℕ) where
  on_kept : (n : SigNumber) (found : Option Kept) (c : Certificate) (es : Entries) → found_for es c ≡ found →
      AreWhole es → IsCertificate c → clash_at found c ≡ false →
      has_number n (kept_as rows stamp found c).cert ≡ (on_found n found || has_number n c)
  on_kept n None c es found all whole none = judged_numbers rows n c
  on_kept n (Some x) c es found all whole none =
      united_numbers n x.cert (judged rows c) (found_at (λ fpr y. IsCertificate y.cert) (fpr_of c.key) es x all found)
      (marked rows c whole) (sym (keys_same c.key x.cert.key none))
      ∙ ap (λ b. has_number n x.cert || b) (judged_numbers rows n c)

  stands_with : (n : SigNumber) (q : Fpr) (c : Certificate) (es : Entries) → AreWhole es → IsCertificate c →
      clash_at (found_for es c) c ≡ false →
      stands_at (kept_with rows stamp es c) n q ≡ (stands_at es n q || (has_number n c && is_fpr (fpr_of c.key) q))
  stands_with n q c es all whole none =
      ap (on_found n) (lookup_insert q es (fpr_of c.key) (kept_as rows stamp (found_for es c) c))
      ∙ ((elim (is_fpr q (fpr_of c.key)) as (λ b. is_fpr q (fpr_of c.key) ≡ b →
      on_found n (cond b (Some (kept_as rows stamp (found_for es c) c)) (lookup (is_fpr q) es)) ≡ (stands_at es n
      q || (has_number n c && b))) [
        | true ↦ λ same.
            on_kept n (found_for es c) c es refl all whole none
            ∙ (λ i. on_found n (lookup (is_fpr (sym (same_fpr-true q (fpr_of c.key) same) i)) es) || sym
            (and_true (has_number n c)) i)
        | false ↦ λ other. sym (or_false (stands_at es n q)) ∙ ap (λ b. stands_at es n q || b)
            (sym (and_false (has_number n c)))
      ]) refl)
      ∙ ap (λ b. stands_at es n q || (has_number n c && b)) (same_fpr-sym q (fpr_of c.key))

  stands_all : (n : SigNumber) (q : Fpr) (es : Entries) (cs : List Certificate) → AreWhole es →
      AllByRecursion IsCertificate cs → clash_in rows stamp es cs ≡ false →
      stands_at (kept_all rows stamp es cs) n q ≡ (stands_at es n q || stands_among cs n q)
  stands_all n q es [] all whole none = sym (or_false (stands_at es n q))
  stands_all n q es (c ∷ cs) all whole none =
      let apart = or_parts (clash_at (found_for es c) c) (clash_in rows stamp (kept_with rows stamp es c) cs) none in
      let one : clash_in rows stamp es (c ∷ []) ≡ false = or_false (clash_at (found_for es c) c) ∙ apart.0 in
      stands_all n q (kept_with rows stamp es c) cs (whole_all united marked rows stamp es (c ∷ []) all (whole.0, tt)
      one) whole.1 apart.1
      ∙ ap (λ b. b || stands_among cs n q) (stands_with n q c es all whole.0 apart.0)
      ∙ or_more (stands_at es n q) (has_number n c && is_fpr (fpr_of c.key) q) (stands_among cs n q)

  -- What an import merges is noted.
  pub indexed_all : (old new : Index) (es : Entries) (cs : List Certificate) → AreWhole es →
      AllByRecursion IsCertificate cs → clash_in rows stamp es cs ≡ false → Notes old new (stands_among cs) →
      IsIndexOf old es → IsIndexOf new (kept_all rows stamp es cs)
  indexed_all old new es cs all whole none notes before exact n q =
      let step = notes exact in
      step.1 n q ∙ ap (λ b. b || stands_among cs n q) (before step.0 n q) ∙ sym (stands_all n q es cs all whole none)
