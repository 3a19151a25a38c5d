-- The facts about an accepted import in the shape that the code has them, for any stamp, limit and list.
use Rattle.std.proofs.Common.{◌≡◌, ◌≤◌, ◌+◌, inl, ℕ, false, if◌then◌else◌, nat_lt, List, Ok, sym}
use Rattle.std.proofs.Common.{ap, ◌∙◌, subst}
use Rattle.std.specs.List.{AllByRecursion}
use Rattle.wot_policy.specs.declared.rows.PolicyRows.{PolicyRows}
use Rattle.wot_component.specs.Certificate.{Certificate, unite}
use Rattle.wot_component.specs.Counts.{items_of}
use Rattle.wot_component.specs.Judged.{judged, sound_of}
use Rattle.wot_component.specs.Whole.{IsCertificate}
use Rattle.wot_merge.specs.declared.tally.Weight.{Weight}
use Rattle.wot_keyring_spec.specs.Import.{with_certs, holding, IsNext, IsOneChange}
use Rattle.wot_keyring_spec.specs.Importing.{MayUnite, asked_for}
use Rattle.wot_keyring_spec.specs.Later.{IsLater}
use Rattle.wot_keyring_spec.specs.Keyring.{Entries, Keyring, certificates_in}
use Rattle.wot_keyring_spec.specs.Kept.{AreSortedByFpr, IsKeyring, AreTotals}
use Rattle.wot_merge.specs.Staging.{kept_all, clash_in, weigh_kept, IsTally}
use Rattle.wot_keyring.specs.Merging.{counted_as, AnswersCounting}
use Rattle.wot_keyring.proofs.ImportEffects.{answered, held, changed_once, keyring_after, totals_after, asked_all}
use Rattle.wot_keyring.proofs.ImportEffects.{asked_some}

module _ (rows : PolicyRows) (k now : Keyring) (v : k ≡ now) (stamp : ℕ) (st : stamp ≡ now.changes + 1)
    (list cs : List Certificate) (ls : list ≡ cs) (h : IsKeyring k) where
  steps : kept_all rows stamp k.certs list ≡ kept_all rows (k.changes + 1) k.certs cs
  steps = λ i. kept_all rows ((st ∙ ap (λ (z : Keyring). z.changes + 1) (sym v)) i) k.certs (ls i)

  clashes : clash_in rows stamp k.certs list ≡ clash_in rows (k.changes + 1) k.certs cs
  clashes = λ i. clash_in rows ((st ∙ ap (λ (z : Keyring). z.changes + 1) (sym v)) i) k.certs (ls i)

  may_before : MayUnite now.limits (certificates_in now) cs → MayUnite k.limits (certificates_in k) cs
  may_before may = subst (λ (z : Keyring). MayUnite z.limits (certificates_in z) cs) (sym v) may

  pub asked_now : (n : ℕ) → n + weigh_kept sound_of k.certs ≡ weigh_kept sound_of (kept_all rows stamp k.certs list) →
      n ≡ asked_for rows now cs
  asked_now n e = asked_all rows (k.changes + 1) k.certs cs n (e ∙ ap (weigh_kept sound_of) steps)
      ∙ ap (λ (z : Keyring). asked_for rows z cs) v

  pub asked_by_now : (n : ℕ) → n + weigh_kept sound_of k.certs ≤ weigh_kept sound_of
      (kept_all rows stamp k.certs list) → n ≤ asked_for rows now cs
  asked_by_now n e =
      subst (λ (z : Keyring). n ≤ asked_for rows z cs) v
      (asked_some rows (k.changes + 1) k.certs cs n
      (subst (λ (es : Entries). n + weigh_kept sound_of k.certs ≤ weigh_kept sound_of es) steps e))

  module _ (new : Entries) (fresh changes : ℕ) (put : new ≡ kept_all rows stamp k.certs list)
      (more : fresh + weigh_kept items_of k.certs ≡ weigh_kept items_of new) (grows : (a b : Certificate) →
      items_of a ≤ items_of (unite a b))
      (raised : changes ≡ (if nat_lt 0 fresh then k.changes + 1 else k.changes)) where
    put_now : new ≡ kept_all rows (k.changes + 1) k.certs cs
    put_now = put ∙ steps

    abbrev with_changes : ℕ → Keyring
    with_changes n = record { limits = k.limits; certs = new; verdicts = k.verdicts; changes = n }

    pub answered_now : (taken skipped : ℕ) → MayUnite now.limits (certificates_in now) cs →
        AnswersCounting taken (Ok (record { taken = taken; skipped = skipped; fresh = fresh })) rows now cs skipped
    answered_now taken skipped may =
        subst (λ (z : Keyring). AnswersCounting taken
        (Ok (record { taken = taken; skipped = skipped; fresh = fresh })) rows z cs skipped) v
        (inl (ap (counted_as taken) (answered rows k cs new fresh h put_now more grows skipped (may_before may))))

    pub held_now : with_changes changes ≡ holding now (with_certs rows (certificates_in now) cs)
    held_now = ap with_changes raised ∙ held rows k cs new fresh h put_now more grows
        ∙ ap (λ (z : Keyring). holding z (with_certs rows (certificates_in z) cs)) v

    module _ (still : (a b : Certificate) → items_of (unite a b) ≡ items_of a → unite a b ≡ a) where
      counted_now : IsLater now (with_changes changes) → IsOneChange now (with_changes changes)
      counted_now later =
          let before : IsLater k (with_changes (if nat_lt 0 fresh then k.changes + 1 else k.changes)) =
          subst (λ n. IsLater k (with_changes n)) raised (subst (λ (z : Keyring). IsLater z (with_changes changes))
          (sym v) later) in
          subst (λ (z : Keyring). IsOneChange z (with_changes changes)) v
          (subst (λ n. IsOneChange k (with_changes n)) (sym raised) (changed_once rows k cs new fresh h put_now more
          grows still before))

      pub next_now : IsLater now (with_changes changes) → IsNext now (with_changes changes)
      next_now later = record { counted = counted_now later; later = later; limits = ap (λ (z : Keyring). z.limits) v }

      pub keyring_now : ((a b : Certificate) → IsCertificate a → IsCertificate b → a.key ≡ b.key →
          IsCertificate (unite a b)) → ((rows : PolicyRows) (c : Certificate) → IsCertificate c →
          IsCertificate (judged rows c))
          → (total : Weight) (limit : ℕ) → limit ≡ now.limits.certificate → AreSortedByFpr new →
          IsTally limit new total → clash_in rows stamp k.certs list ≡ false → AllByRecursion IsCertificate cs →
          MayUnite now.limits (certificates_in now) cs
          → IsKeyring (with_changes changes) × AreTotals (with_changes changes) total.octets total.signatures
      keyring_now united marked total limit lim sorted t none whole may =
          let tally = subst (λ l. IsTally l new total) (lim ∙ ap (λ (z : Keyring). z.limits.certificate) (sym v)) t in
          let clear = sym clashes ∙ none in
          let before = may_before may in
          let totals = totals_after rows k cs new fresh h put_now more grows still united marked total sorted tally
          clear whole before in (
            subst (λ n. IsKeyring (with_changes n)) (sym raised) (keyring_after rows k cs new fresh h put_now more grows
                still united marked total sorted tally clear whole before),
            record { octets = totals.octets; signatures = totals.signatures },
          )
