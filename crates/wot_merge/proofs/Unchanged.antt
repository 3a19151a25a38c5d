-- If nothing was added, nothing changed.
use Rattle.std.proofs.Common.{◌≡◌, ◌≤◌, ◌+◌, ℕ, false, cond, nat_lt, List, [], ◌∷◌, Option, Some, None, sym, ap, ◌∙◌}
use Rattle.std.proofs.Common.{refl, arith}
use Rattle.std.specs.BTreeMap.{insert_entry}
use Rattle.std.proofs.lemmas.Bool.Decides.{nat_tests}
use Rattle.wot_types.specs.Fpr.{fpr_cmp}
use Rattle.wot_key.specs.Key.{fpr_of}
use Rattle.wot_policy.specs.declared.rows.PolicyRows.{PolicyRows}
use Rattle.wot_component.specs.Certificate.{Certificate, unite}
use Rattle.wot_component.specs.Counts.{items_of}
use Rattle.wot_component.specs.Judged.{judged}
use Rattle.wot_keyring_spec.specs.declared.kept.Kept.{Kept}
use Rattle.wot_keyring_spec.specs.Keyring.{Entries}
use Rattle.wot_keyring_spec.specs.Kept.{AreSortedByFpr}
use Rattle.wot_merge.specs.Staging.{found_for, found_by, joined, kept_as, kept_with, kept_all, weigh_kept}
use Rattle.wot_keyring_spec.proofs.Inserts.{insert_same}
use Rattle.wot_merge.proofs.Steps.{weighs_by}
use Rattle.wot_merge.proofs.ImportSteps.{more_with, more_in_all, sorted_insert}

pub not_below : (n : ℕ) → nat_lt n n ≡ false
not_below n = grind (arith, nat_tests)

nothing_more : (v f w n : ℕ) → v + f ≡ w + n → v ≡ w → f ≡ n
nothing_more v f w n e g = omega arith

zero_not : (n : ℕ) → 0 ≡ 1 + n → ⊥
zero_not n e = omega arith

between : (a b c : ℕ) → a ≤ b → b ≤ c → c ≡ a → b ≡ a
between a b c h k e = omega arith

module _ (rows : PolicyRows) (stamp : ℕ) (still : (a b : Certificate) → items_of (unite a b) ≡ items_of a →
    unite a b ≡ a) (grows : (a b : Certificate) → items_of a ≤ items_of (unite a b)) where
  pub kept_same : (x : Kept) (c : Certificate) → items_of x.cert ≡ items_of (unite x.cert (judged rows c)) →
      kept_as rows stamp (Some x) c ≡ x
  kept_same x c e =
      let u : unite x.cert (judged rows c) ≡ x.cert = still x.cert (judged rows c) (sym e) in
      let t : nat_lt (items_of x.cert) (items_of (unite x.cert (judged rows c))) ≡ false =
      ap (λ n. nat_lt (items_of x.cert) n) (sym e) ∙ not_below (items_of x.cert) in
      let s : cond (nat_lt (items_of x.cert) (items_of (unite x.cert (judged rows c)))) stamp x.stamp ≡ x.stamp =
      ap (λ b. cond b stamp x.stamp) t in
      λ i. record { cert = u i; stamp = s i }

  with_same : (es : Entries) (c : Certificate) → AreSortedByFpr es →
      weigh_kept items_of (kept_with rows stamp es c) ≡ weigh_kept items_of es → kept_with rows stamp es c ≡ es
  with_same es c sorted e =
      (elim (found_for es c) as (λ (o : Option Kept). found_for es c ≡ o →
      found_by items_of o ≡ items_of (joined rows o c) → insert_entry fpr_cmp es (fpr_of c.key)
      (kept_as rows stamp o c) ≡ es) [
        | None ↦ λ n g. absurd (zero_not _ g)
        | Some x ↦ λ s g. ap (insert_entry fpr_cmp es (fpr_of c.key)) (kept_same x c g)
            ∙ insert_same es (fpr_of c.key) x sorted s
      ]) refl (nothing_more _ _ _ _ (weighs_by items_of es (fpr_of c.key) (kept_as rows stamp (found_for es c) c)
      sorted) e)

  pub all_same : (es : Entries) (cs : List Certificate) → AreSortedByFpr es →
      weigh_kept items_of (kept_all rows stamp es cs) ≡ weigh_kept items_of es → kept_all rows stamp es cs ≡ es
  all_same es [] sorted e = refl
  all_same es (c ∷ cs) sorted e =
      let one : kept_with rows stamp es c ≡ es =
      with_same es c sorted (between _ _ _ (more_with items_of grows rows stamp es c sorted)
      (more_in_all items_of grows rows stamp (kept_with rows stamp es c) cs
      (sorted_insert es (fpr_of c.key) (kept_as rows stamp (found_for es c) c) sorted)) e) in
      let rest : kept_all rows stamp (kept_with rows stamp es c) cs ≡ kept_all rows stamp es cs =
      ap (λ (x : Entries). kept_all rows stamp x cs) one in
      rest ∙ all_same es cs sorted (ap (weigh_kept items_of) (sym rest) ∙ e)
