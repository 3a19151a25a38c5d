-- What an import stamps: each certificate that is kept afterwards is unchanged, or has the new stamp and is one of
-- those that were merged.
use Rattle.std.proofs.Common.{◌≡◌, ◌≤◌, ◌<◌, ◌+◌, ◌⊎◌, inl, inr, ℕ, Bool, true, false, ◌||◌, cond, nat_lt}
use Rattle.std.proofs.Common.{if◌then◌else◌, List, [], ◌∷◌, Option, Some, None, refl, sym, ap, ◌∙◌, subst, arith}
use Rattle.std.specs.Prelude.{MatchBool}
use Rattle.std.specs.List.{AllByRecursion}
use Rattle.std.specs.Map.{lookup}
use Rattle.std.proofs.lemmas.Bool.Decides.{nat_tests}
use Rattle.wot_types.specs.declared.fpr.Fpr.{Fpr}
use Rattle.wot_types.specs.FprLaws.{same_fpr-true, same_fpr-sym}
use Rattle.wot_key.specs.Key.{fpr_of}
use Rattle.wot_policy.specs.declared.rows.PolicyRows.{PolicyRows}
use Rattle.wot_component.specs.Certificate.{Certificate, unite}
use Rattle.wot_component.specs.Counts.{items_of, all_sigs}
use Rattle.wot_verdict.specs.Verdicts as verdicts
use Rattle.wot_component.specs.Judged.{judged}
use Rattle.wot_keyring_spec.specs.declared.kept.Kept.{Kept}
use Rattle.wot_keyring_spec.specs.Keyring.{Entries, Keyring, is_fpr, kept_at}
use Rattle.wot_keyring_spec.specs.Kept.{IsKeyring}
use Rattle.wot_keyring_spec.specs.Later.{SaysSame, IsLaterAt, IsLater}
use Rattle.wot_index.specs.declared.log.Log.{Log}
use Rattle.wot_index.specs.Log.{is_named_in, IsLogOf, LogsAt, RestampsThese}
use Rattle.wot_merge.specs.Staging.{found_for, kept_as, kept_with, kept_all, weigh_kept}
use Rattle.wot_keyring_spec.proofs.Inserts.{lookup_insert}
use Rattle.wot_index.proofs.Later.{above, stamp_by, says_same}
use Rattle.wot_index.proofs.Logged.{one_on, logged_on, logged_again}
use Rattle.wot_merge.proofs.Unchanged.{kept_same, all_same}

equal_by : (a b : ℕ) → a ≤ b → nat_lt a b ≡ false → a ≡ b
equal_by a b le none = grind (arith, nat_tests)

-- It has the new stamp and is one of these, or it is unchanged.
abbrev pub IsStampedOr : ℕ → (Fpr → Bool) → Entries → Fpr → Kept → Type 0
IsStampedOr stamp these old q x = ((x.stamp ≡ stamp) × (these q ≡ true)) ⊎ (lookup (is_fpr q) old ≡ Some x)

module _ (rows : PolicyRows) (stamp : ℕ) (still : (a b : Certificate) → items_of (unite a b) ≡ items_of a →
    unite a b ≡ a) (grows : (a b : Certificate) → items_of a ≤ items_of (unite a b)) where
  -- a certificate that was found is unchanged, or has the new stamp
  one_by : (found : Option Kept) (c : Certificate) →
      ((kept_as rows stamp found c).stamp ≡ stamp) ⊎ (found ≡ Some (kept_as rows stamp found c))
  one_by None c = inl refl
  one_by (Some x) c = by (nat_lt (items_of x.cert) (items_of (unite x.cert (judged rows c)))) refl
    where
      by : (b : Bool) → nat_lt (items_of x.cert) (items_of (unite x.cert (judged rows c))) ≡ b →
          ((kept_as rows stamp (Some x) c).stamp ≡ stamp) ⊎ (Some x ≡ Some (kept_as rows stamp (Some x) c))
      by true e = inl (ap (λ b. cond b stamp x.stamp) e)
      by false e = inr (ap Some
          (sym (kept_same rows stamp still grows x c (equal_by _ _ (grows x.cert (judged rows c)) e))))

  with_one : (es : Entries) (c : Certificate) (q : Fpr) (x : Kept) →
      lookup (is_fpr q) (kept_with rows stamp es c) ≡ Some x → IsStampedOr stamp (is_named_in (c ∷ [])) es q x
  with_one es c q x e = by (is_fpr q (fpr_of c.key)) refl
    where
      found : (b : Bool) → is_fpr q (fpr_of c.key) ≡ b → cond b (Some (kept_as rows stamp (found_for es c) c))
          (lookup (is_fpr q) es) ≡ Some x
      found b t = ap (λ b. cond b (Some (kept_as rows stamp (found_for es c) c)) (lookup (is_fpr q) es)) (sym t)
          ∙ sym (lookup_insert q es (fpr_of c.key) (kept_as rows stamp (found_for es c) c)) ∙ e

      by : (b : Bool) → is_fpr q (fpr_of c.key) ≡ b → IsStampedOr stamp (is_named_in (c ∷ [])) es q x
      by false t = inr (found false t)
      by true t =
          let same : kept_as rows stamp (found_for es c) c ≡ x =
          (let f : Some (kept_as rows stamp (found_for es c) c) ≡ Some x = found true t in cc) in
          (elim (one_by (found_for es c) c) as (λ _. IsStampedOr stamp (is_named_in (c ∷ [])) es q x) [
            | inl s ↦ inl (
              ap (λ (k : Kept). k.stamp) (sym same) ∙ s,
              ap (λ b. b || false) (same_fpr-sym (fpr_of c.key) q ∙ t),
            )
            | inr s ↦ inr (ap (λ (f : Fpr). lookup (is_fpr f) es) (same_fpr-true q (fpr_of c.key) t) ∙ s ∙ ap Some same)
          ])

  or_left : (a b : Bool) → a ≡ true → a || b ≡ true
  or_left true b h = refl
  or_left false b h = cc

  or_right : (a b : Bool) → b ≡ true → a || b ≡ true
  or_right true b h = refl
  or_right false b h = h

  without : (a : Bool) → a || false ≡ true → a ≡ true
  without true h = refl
  without false h = h

  pub all_stamped : (es : Entries) (cs : List Certificate) (q : Fpr) (x : Kept) →
      lookup (is_fpr q) (kept_all rows stamp es cs) ≡ Some x → IsStampedOr stamp (is_named_in cs) es q x
  all_stamped es [] q x e = inr e
  all_stamped es (c ∷ cs) q x e =
      (elim (all_stamped (kept_with rows stamp es c) cs q x e) as (λ _. IsStampedOr stamp (is_named_in (c ∷ cs)) es q
      x) [
        | inl s ↦ inl (s.0, or_right (is_fpr (fpr_of c.key) q) (is_named_in cs q) s.1)
        | inr f ↦ before (with_one es c q x f)
      ])
    where
      before : IsStampedOr stamp (is_named_in (c ∷ [])) es q x → IsStampedOr stamp (is_named_in (c ∷ cs)) es q x
      before (inl s) = inl (
        s.0,
        or_left (is_fpr (fpr_of c.key) q) (is_named_in cs q)
            (without (is_fpr (fpr_of c.key) q) s.1),
      )
      before (inr f) = inr f

  -- what the log needs
  pub restamps_all : (es : Entries) (cs : List Certificate) → RestampsThese stamp (is_named_in cs) es
      (kept_all rows stamp es cs)
  restamps_all es cs q x e =
      (elim (all_stamped es cs q x e) as (λ _. ((x.stamp ≡ stamp) × (is_named_in cs q ≡ true)) ⊎
      ((y : Kept) × (lookup (is_fpr q) es ≡ Some y) × (y.stamp ≡ x.stamp))) [
        | inl s ↦ inl s
        | inr f ↦ inr (x, f, refl)
      ])

  -- and what is later
  pub united_later : (k new : Keyring) (cs : List Certificate) → stamp ≡ k.changes + 1 →
      new.certs ≡ kept_all rows stamp k.certs cs → new.verdicts ≡ k.verdicts → k.changes ≤ new.changes → IsLater k new
  united_later k new cs st put said counted = record { counted = counted; at = λ q. by q (kept_at new q) refl }
    where
      by : (q : Fpr) (found : Option Kept) → kept_at new q ≡ found → IsLaterAt k new q
      by q None e = inr (inl e)
      by q (Some x) e =
          (elim (all_stamped k.certs cs q x (ap (λ (es : Entries). lookup (is_fpr q) es) (sym put) ∙ e)) as (λ _.
          IsLaterAt k new q) [
            | inl s ↦ inr (inr (subst (λ n. k.changes < n) (sym (stamp_by new q (Some x) e ∙ s.0 ∙ st))
                (above k.changes)))
            | inr f ↦ inl (record {
              kept = e ∙ sym f;
              said =
                  λ y g. subst (λ (v : verdicts.Entries). AllByRecursion (SaysSame k.verdicts v) (all_sigs y.cert))
                  (sym said) (says_same k.verdicts (all_sigs y.cert));
            })
          ])

  -- ---- these facts in the shape that the code has them

  pub united_later_now : (k now : Keyring) → k ≡ now → stamp ≡ now.changes + 1 →
      (cs : List Certificate) (new : Entries) (fresh changes : ℕ) → new ≡ kept_all rows stamp k.certs cs →
      changes ≡ (if nat_lt 0 fresh then k.changes + 1 else k.changes)
      → IsLater now (record { limits = k.limits; certs = new; verdicts = k.verdicts; changes = changes })
  united_later_now k now v st cs new fresh changes put raised =
      subst (λ (z : Keyring). IsLater z (record {
        limits = k.limits;
        certs = new;
        verdicts = k.verdicts;
        changes =
            changes;
      })) v
      (united_later k (record { limits = k.limits; certs = new; verdicts = k.verdicts; changes = changes }) cs
      (st ∙ ap (λ (z : Keyring). z.changes + 1) (sym v)) put refl (subst (λ n. k.changes ≤ n) (sym raised)
      (up (nat_lt 0 fresh))))
    where
      one : (n : ℕ) → n ≤ n + 1
      one n = omega arith

      no : (n : ℕ) → n ≤ n
      no n = omega arith

      up : (b : Bool) → k.changes ≤ (if b then k.changes + 1 else k.changes)
      up true = one k.changes
      up false = no k.changes

  nothing_fresh : (fresh a b : ℕ) → fresh + a ≡ b → nat_lt 0 fresh ≡ false → b ≡ a
  nothing_fresh fresh a b e f = let z : fresh ≡ 0 = grind (arith, nat_tests) in omega (arith, e, z)

  pub logged_now : (k now : Keyring) → k ≡ now → stamp ≡ now.changes + 1 →
      (cs : List Certificate) (old room log : Log) (new : Entries) (fresh changes : ℕ) → IsKeyring k →
      new ≡ kept_all rows stamp k.certs cs
      → changes ≡ (if nat_lt 0 fresh then k.changes + 1 else k.changes) →
      fresh + weigh_kept items_of k.certs ≡ weigh_kept items_of new
      → room.from ≡ old.from → room.entries.items ≡ old.entries.items →
      MatchBool (nat_lt 0 fresh) (LogsAt stamp (is_named_in cs) room log) (log ≡ room) →
      IsLogOf old k.certs k.changes → IsLogOf log new changes
  logged_now k now v st cs old room log new fresh changes h put raised more from same logs before =
      by (nat_lt 0 fresh) refl raised logs
    where
      is_room : IsLogOf room k.certs k.changes
      is_room = logged_again old room k.certs k.changes from same before

      given : stamp ≡ k.changes + 1
      given = st ∙ ap (λ (z : Keyring). z.changes + 1) (sym v)

      by : (b : Bool) → nat_lt 0 fresh ≡ b → changes ≡ (if b then k.changes + 1 else k.changes) →
          MatchBool b (LogsAt stamp (is_named_in cs) room log) (log ≡ room) → IsLogOf log new changes
      by true e r l =
          subst (λ n. IsLogOf log new n) (given ∙ sym r)
          (subst (λ (es : Entries). IsLogOf log es stamp) (sym put)
          (logged_on room log k.certs (kept_all rows stamp k.certs cs) k.changes stamp (is_named_in cs)
          (subst (λ n. k.changes ≤ n) (sym given) (one_on k.changes)) h.stamped (restamps_all k.certs cs) l
          is_room))
      by false e r l =
          let unaltered : new ≡ k.certs = put ∙ all_same rows stamp still grows k.certs cs h.sorted
          (ap (weigh_kept items_of) (sym put) ∙ nothing_fresh fresh _ _ more e) in
          subst (λ (z : Log). IsLogOf z new changes) (sym l) (subst (λ n. IsLogOf room new n) (sym r)
          (subst (λ (es : Entries). IsLogOf room es k.changes) (sym unaltered) is_room))
