-- What a trial merge under any policy rows shows.
use Rattle.std.proofs.Common.{◌≡◌, ℕ, nat_lt, if◌then◌else◌, List, length, sym, ap, ◌∙◌, refl}
use Rattle.wot_types.specs.declared.limits.Limits.{Limits}
use Rattle.wot_policy.specs.declared.rows.PolicyRows.{PolicyRows}
use Rattle.wot_component.specs.Certificate.{Certificate, unite, unmarked}
use Rattle.wot_component.specs.Counts.{signatures_of}
use Rattle.wot_component.specs.Judged.{judged}
use Rattle.wot_component.specs.Text.{size_of, text_of}
use Rattle.wot_merge.specs.declared.tally.Weight.{Weight}
use Rattle.wot_keyring_spec.specs.Import.{weigh, with_certs, first_full}
use Rattle.wot_keyring_spec.specs.Keyring.{Entries, stripped}
use Rattle.wot_merge.specs.Staging.{kept_all, long_of, weigh_kept, IsTally, full_by}
use Rattle.wot_merge.proofs.Transport.{seen_by, judged_all, certs_all, seen_weighs, seen_length}
use Rattle.wot_merge.proofs.Within.{full_is}

module _ (rows other : PolicyRows) (unmarks : (rows : PolicyRows) (c : Certificate) →
    judged rows (unmarked c) ≡ judged rows c) (forgets : (rows : PolicyRows) (c : Certificate) →
    unmarked (judged rows c) ≡ unmarked c) (unites : (rows : PolicyRows) (a b : Certificate) →
    judged rows (unite a b) ≡ unite (judged rows a) (judged rows b)) where
  both : (stamp : ℕ) (es : Entries) (cs : List Certificate) →
      seen_by (judged rows) (kept_all other stamp es cs) ≡ seen_by (judged rows) (kept_all rows stamp es cs)
  both stamp es cs =
      judged_all rows other (unmarks rows) (forgets other) (unites rows) stamp es cs
      ∙ sym (judged_all rows rows (unmarks rows) (forgets rows) (unites rows) stamp es cs)

  tried_weighs : (measure : Certificate → ℕ) → ((c : Certificate) → measure (judged rows c) ≡ measure c) →
      (stamp : ℕ) (es : Entries) (cs : List Certificate) → weigh_kept measure (kept_all other stamp es cs) ≡ weigh
      measure (with_certs rows (stripped es) cs)
  tried_weighs measure same stamp es cs =
      sym (seen_weighs measure (judged rows) same (kept_all other stamp es cs))
      ∙ ap (weigh measure) (both stamp es cs)
      ∙ seen_weighs measure (judged rows) same (kept_all rows stamp es cs)
      ∙ sym (seen_weighs measure (λ (c : Certificate). c) (λ c. refl) (kept_all rows stamp es cs))
      ∙ ap (weigh measure) (certs_all rows stamp es cs)

  tried_length : (stamp : ℕ) (es : Entries) (cs : List Certificate) → length (kept_all other stamp es cs) ≡ length
      (with_certs rows (stripped es) cs)
  tried_length stamp es cs =
      sym (seen_length (judged rows) (kept_all other stamp es cs))
      ∙ ap length (both stamp es cs)
      ∙ seen_length (judged rows) (kept_all rows stamp es cs)
      ∙ sym (seen_length (λ (c : Certificate). c) (kept_all rows stamp es cs))
      ∙ ap length (certs_all rows stamp es cs)

  -- The totals of a trial show the first limit that the merge exceeds.
  pub tried_full : (texts : (c : Certificate) → text_of (judged rows c) ≡ text_of c) →
      (signed : (c : Certificate) → signatures_of (judged rows c) ≡ signatures_of c)
      → (l : Limits) (stamp : ℕ) (es : Entries) (cs : List Certificate) (new : Entries) (total : Weight) (count : ℕ) →
      new ≡ kept_all other stamp es cs → IsTally l.certificate new total → count ≡ length new
      → full_by l total count ≡ first_full l (with_certs rows (stripped es) cs)
  tried_full texts signed l stamp es cs new total count put t n =
      full_is l (with_certs rows (stripped es) cs) total count
      (t.octets ∙ ap (weigh_kept size_of) put ∙ tried_weighs size_of (λ c. ap length (texts c)) stamp es cs)
      (t.signatures ∙ ap (weigh_kept signatures_of) put ∙ tried_weighs signatures_of signed stamp es cs)
      (t.long ∙ ap (weigh_kept (long_of l.certificate)) put ∙ tried_weighs (long_of l.certificate)
      (λ c. ap (λ m. if nat_lt l.certificate m then 1 else 0) (ap length (texts c))) stamp es cs)
      (n ∙ ap length put ∙ tried_length stamp es cs)
