-- A certificate that came alone and is kept itself: how it leaves its list, and that what is noted and logged of the
-- kept one is what the list says.
use Rattle.std.proofs.Common.{◌≡◌, ℕ, Bool, true, false, ◌&&◌, ◌||◌, cond, List, [], ◌∷◌, ◌++◌, Option, Some, None}
use Rattle.std.proofs.Common.{option_to_list, nat_lt, sym, ap, ◌∙◌, subst, refl}
use Rattle.std.specs.Prelude.{IfSome, MatchBool}
use Rattle.std.specs.Map.{lookup}
use Rattle.wot_types.specs.declared.fpr.Fpr.{Fpr}
use Rattle.wot_types.specs.FprLaws.{same_fpr-refl}
use Rattle.wot_key.specs.Key.{fpr_of}
use Rattle.wot_policy.specs.declared.rows.PolicyRows.{PolicyRows}
use Rattle.wot_component.specs.Certificate.{Certificate}
use Rattle.wot_component.specs.Judged.{judged}
use Rattle.wot_keyring_spec.specs.declared.kept.Kept.{Kept}
use Rattle.wot_keyring_spec.specs.Keyring.{Entries, is_fpr}
use Rattle.wot_index.specs.declared.index.Index.{Index}
use Rattle.wot_index.specs.declared.log.Log.{Log}
use Rattle.wot_index.specs.Index.{is_noted, stands_among, Notes}
use Rattle.wot_index.specs.Log.{is_named_in, LogsAt}
use Rattle.wot_merge.specs.Staging.{found_for, kept_as, kept_with, clash_at, clash_in}
use Rattle.wot_keyring.specs.declared.uniting.Merged.TheVariants.{New}
use Rattle.wot_keyring.specs.Uniting.{certs_in, found_alone, NamesSame}
use Rattle.wot_keyring_spec.proofs.Inserts.{lookup_insert}
use Rattle.wot_index.proofs.Choices.{or_false}
use Rattle.wot_keyring.proofs.Numbers.{judged_numbers}

-- ---- the only certificate of a list

pub only_popped : (xs rest : List Certificate) (x : Certificate) (o : Option Certificate) → xs ≡ x ∷ [] →
    xs ≡ rest ++ option_to_list o → IfSome o (λ (c : Certificate). xs ≡ c ∷ [])
only_popped xs rest x None one popped = tt
only_popped xs [] x (Some c) one popped = popped
only_popped xs (y ∷ []) x (Some c) one popped = absurd cc
only_popped xs (y ∷ z ∷ zs) x (Some c) one popped = absurd cc

pub only_absent : (es : Entries) (xs : List Certificate) (x : Certificate) (o : Option Certificate) → xs ≡ x ∷ [] →
    found_for es x ≡ None → IfSome o (λ (c : Certificate). xs ≡ c ∷ []) →
    IfSome o (λ (c : Certificate). found_for es c ≡ None)
only_absent es xs x None one absent only = tt
only_absent es xs x (Some c) one absent only =
    let both : x ∷ [] ≡ c ∷ [] = sym one ∙ only in
    let same : x ≡ c = cc in
    subst (λ (z : Certificate). found_for es z ≡ None) same absent

-- ---- what is kept of it

module _ (rows : PolicyRows) (stamp : ℕ) where
  pub clash_alone : (es : Entries) (c : Certificate) (cs : List Certificate) → cs ≡ c ∷ [] →
      clash_at (found_for es c) c ≡ clash_in rows stamp es cs
  clash_alone es c cs only = sym (or_false (clash_at (found_for es c) c)) ∙ ap (clash_in rows stamp es) (sym only)

  found_new : (es new : Entries) (c : Certificate) → found_for es c ≡ None → new ≡ kept_with rows stamp es c →
      lookup (is_fpr (fpr_of c.key)) new ≡ Some (record { cert = judged rows c; stamp = stamp })
  found_new es new c absent put =
      ap (λ (x : Entries). lookup (is_fpr (fpr_of c.key)) x) put
      ∙ lookup_insert (fpr_of c.key) es (fpr_of c.key) (kept_as rows stamp (found_for es c) c)
      ∙ ap (λ b. cond b (Some (kept_as rows stamp (found_for es c) c)) (found_for es c)) (same_fpr-refl (fpr_of c.key))
      ∙ ap (λ (o : Option Kept). Some (kept_as rows stamp o c)) absent

  judged_named : (c : Certificate) → NamesSame (judged rows c ∷ []) (c ∷ [])
  judged_named c = record {
    stands = λ n q. ap (λ b. (b && is_fpr (fpr_of c.key) q) || false) (judged_numbers rows n c);
    named = λ q. refl;
  }

  pub new_named : (es new : Entries) (c : Certificate) (fpr : Fpr) (cs : List Certificate) → fpr ≡ fpr_of c.key →
      found_for es c ≡ None → new ≡ kept_with rows stamp es c → cs ≡ c ∷ [] → NamesSame (certs_in new (New fpr)) cs
  new_named es new c fpr cs named absent put only =
      let kept : certs_in new (New fpr) ≡ judged rows c ∷ [] =
      ap (λ (f : Fpr). found_alone (lookup (is_fpr f) new)) named ∙ ap found_alone (found_new es new c absent put) in
      subst (λ (ds : List Certificate). NamesSame (certs_in new (New fpr)) ds) (sym only)
      (subst (λ (ds : List Certificate). NamesSame ds (c ∷ [])) (sym kept) (judged_named c))

-- ---- what is noted and logged

pub names_itself : (cs ds : List Certificate) → cs ≡ ds → NamesSame cs ds
names_itself cs ds e = record {
  stands = λ n q. ap (λ (xs : List Certificate). stands_among xs n q) e;
  named = λ q. ap (λ (xs : List Certificate). is_named_in xs q) e;
}

module _ (cs ds : List Certificate) (same : NamesSame cs ds) where
  pub notes_same : (old new : Index) → Notes old new (stands_among cs) → Notes old new (stands_among ds)
  notes_same old new notes exact =
      let step = notes exact in (step.0, λ n q. step.1 n q ∙ ap (λ b. is_noted old n q || b) (same.stands n q))

  logs_by : (b : Bool) (stamp : ℕ) (old new : Log) → MatchBool b (LogsAt stamp (is_named_in cs) old new) (new ≡ old) →
      MatchBool b (LogsAt stamp (is_named_in ds) old new) (new ≡ old)
  logs_by true stamp old new logs = record {
    from = logs.from;
    past = logs.past;
    kept = logs.kept;
    logged = λ q past named. logs.logged q past (same.named q ∙ named);
    rising = logs.rising;
  }
  logs_by false stamp old new logs = logs

  pub logs_same : (fresh stamp : ℕ) (old new : Log) →
      MatchBool (nat_lt 0 fresh) (LogsAt stamp (is_named_in cs) old new) (new ≡ old) →
      MatchBool (nat_lt 0 fresh) (LogsAt stamp (is_named_in ds) old new) (new ≡ old)
  logs_same fresh = logs_by (nat_lt 0 fresh)
