-- What a change alters differs from before.
use Rattle.std.proofs.Common.{◌≡◌, ◌≢◌, inl, inr, ℕ, ◌+◌, ◌<◌, Bool, true, false, cond, List, [], ◌∷◌, length, Option}
use Rattle.std.proofs.Common.{Some, None, refl, sym, ap, subst, ◌∙◌, arith}
use Rattle.std.specs.declared.cmp.Ordering.{Ordering}
use Rattle.std.specs.declared.cmp.Ordering.TheVariants.{Less, Equal, Greater}
use Rattle.std.specs.Ordering.{match_ordering}
use Rattle.std.specs.Cmp.{IsTotalOrder}
use Rattle.std.specs.Cmp.Lexicographic.{on_texts}
use Rattle.std.specs.BTreeMap.{insert_entry, is_at}
use Rattle.std.specs.Prelude.{◌&&◌, is_none, is_some}
use Rattle.std.specs.Map.{lookup, remove_entry}
use Rattle.std.specs.Option.{option_map}
use Rattle.std.proofs.lemmas.Cmp.{tied_itself}
use Rattle.std.proofs.lemmas.List.{length-map}
use Rattle.std.proofs.lemmas.Map.Made.{lookup-map_values}
use Rattle.wot_types.specs.declared.fpr.Fpr.{Fpr}
use Rattle.wot_types.specs.declared.number.SigNumber.{SigNumber}
use Rattle.wot_types.specs.SigNumber.{number_cmp}
use Rattle.wot_verdict.specs.Verdicts as verdicts
use Rattle.wot_verdict.specs.declared.verdict.Verdict.{Verdict}
use Rattle.wot_component.specs.Certificate.{Certificate}
use Rattle.wot_keyring_spec.specs.declared.kept.Kept.{Kept}
use Rattle.wot_keyring_spec.specs.Held.{Held}
use Rattle.wot_keyring_spec.specs.Import.{IsAltered, IsOneChange, KeepsAll}
use Rattle.wot_keyring_spec.specs.Keyring.{Entries, Keyring, is_fpr, kept_at, verdict_on}
use Rattle.wot_keyring_spec.specs.Kept.{IsKeyring}
use Rattle.wot_keyring_spec.specs.Removal.{without_cert}
use Rattle.wot_keyring_spec.specs.Verdict.{counted_at, restamped, with_verdict_on, without_verdict_on}
use Rattle.wot_index.proofs.Later.{cleared_later, removed_later, set_later}

-- ---- entries

-- removing what was found leaves one fewer
removed_one : {K X : Type 0} (test : K → Bool) (es : List (K × X)) (x : X) → lookup test es ≡ Some x →
    length (remove_entry test es) + 1 ≡ length es
removed_one test [] x found = absurd cc
removed_one test (e ∷ es) x found =
    (elim (test e.0) as (λ b. cond b (Some e.1) (lookup test es) ≡ Some x →
    length (cond b es (e ∷ remove_entry test es)) + 1 ≡ length (e ∷ es)) [
      | true ↦ λ f. omega arith
      | false ↦ λ f. omega (arith, removed_one test es x f)
    ]) found

-- what was inserted is found
put_found : {K X : Type 0} (R : K → K → Ordering) → IsTotalOrder R → (es : List (K × X)) (k : K) (v : X) →
    lookup (is_at (R k)) (insert_entry R es k v) ≡ Some v
put_found R o [] k v = rw (tied_itself o k) refl
put_found R o (e ∷ es) k v =
    elim (R k e.0) as (λ r. R k e.0 ≡ r → lookup (is_at (R k)) (match_ordering r ((k, v) ∷ e ∷ es) ((e.0, v) ∷ es)
    (e ∷ insert_entry R es k v)) ≡ Some v) [
      | Less ↦ λ less. rw (tied_itself o k) refl
      | Equal ↦ λ equal. rw equal refl
      | Greater ↦ λ greater. rw greater (put_found R o es k v)
    ] refl

-- ---- changes

numbers_total : IsTotalOrder number_cmp
numbers_total = on_texts (λ (n : SigNumber). n.0)

one_less : (n m : ℕ) → n + 1 ≡ m → n ≡ m → ⊥
one_less n m e f = omega arith

more_than : (n m : ℕ) → n + 1 ≡ m → n < m
more_than n m e = omega arith

abbrev bare : Fpr × Kept → Fpr × Certificate
bare e = (e.0, e.1.cert)

pub removed_altered : (k : Keyring) (fpr : Fpr) (x : Kept) → Some x ≡ kept_at k fpr → IsAltered k (without_cert fpr k)
removed_altered k fpr x found = λ same.
    one_less (length (remove_entry (is_fpr fpr) k.certs)) (length k.certs)
    (removed_one (is_fpr fpr) k.certs x (sym found))
    (sym (length-map (remove_entry (is_fpr fpr) k.certs) bare) ∙ ap (λ (h : Held). length h.certs) same
    ∙ length-map k.certs bare)

pub set_altered : (k : Keyring) (number : SigNumber) (v : Verdict) → verdict_on k number ≢ Some v →
    IsAltered k (with_verdict_on number v k)
set_altered k number v unsaid = λ same.
    unsaid
    (ap (λ (h : Held). verdicts.verdict_at h.verdicts number) (sym same)
    ∙ put_found number_cmp numbers_total k.verdicts number v)

pub cleared_altered : (k : Keyring) (number : SigNumber) (v : Verdict) → verdict_on k number ≡ Some v →
    IsAltered k (without_verdict_on number k)
cleared_altered k number v said = λ same.
    one_less (length (verdicts.without_verdict k.verdicts number)) (length k.verdicts)
    (removed_one (verdicts.is_number number) k.verdicts v said)
    (ap (λ (h : Held). length h.verdicts) same)

-- a change of a verdict removes no certificate
verdict_keeps : (k : Keyring) (number : SigNumber) (said : verdicts.Entries) →
    KeepsAll k (counted_at number (record k { verdicts = said }))
verdict_keeps k number said fpr none =
    by (kept_at k fpr) (sym (lookup-map_values (restamped number (k.changes + 1)) (is_fpr fpr) k.certs) ∙ none)
  where
    by : (o : Option Kept) → option_map (restamped number (k.changes + 1)) o ≡ None → o ≡ None
    by None e = refl
    by (Some x) e = absurd cc

-- ---- these facts in the shape that the code has them

pub removed_once : (k now : Keyring) (fpr : Fpr) (x : Kept) (es : Entries) → k ≡ now → IsKeyring k →
    Some x ≡ kept_at k fpr → es ≡ remove_entry (is_fpr fpr) k.certs
    → IsOneChange now (record { limits = k.limits; certs = es; verdicts = k.verdicts; changes = k.changes + 1 })
removed_once k now fpr x es seen h found out = rw (out, ← seen) (inr (record {
  counted = refl;
  altered = removed_altered k fpr x found;
  later = removed_later k fpr h;
  kept = inr (more_than (length (remove_entry (is_fpr fpr) k.certs)) (length k.certs)
      (removed_one (is_fpr fpr) k.certs x (sym found)));
}))

-- a new verdict exceeds no limit if there is one on the number
pub not_over : (o : Option Verdict) (v : Verdict) (full : Bool) → o ≡ Some v → is_none o && full ≡ false
not_over None v full is = absurd cc
not_over (Some w) v full is = refl

pub set_now : (k now new : Keyring) (number : SigNumber) (v : Verdict) (said : verdicts.Entries) → k ≡ now
    → said ≡ verdicts.with_verdict k.verdicts number v → new ≡ counted_at number (record k { verdicts = said })
    → new ≡ with_verdict_on number v now
set_now k now new number v said seen set counted = rw (counted, set, ← seen) refl

pub set_once : (k now new : Keyring) (number : SigNumber) (v : Verdict) (said : verdicts.Entries) → k ≡ now →
    verdict_on now number ≢ Some v
    → said ≡ verdicts.with_verdict k.verdicts number v → new ≡ counted_at number (record k { verdicts = said }) →
    IsOneChange now new
set_once k now new number v said seen unsaid set counted =
    let before : verdict_on k number ≢ Some v = subst (λ (z : Keyring). verdict_on z number ≢ Some v)
    (sym seen) unsaid in
    rw (counted, set, ← seen) (inr (record {
      counted = refl;
      altered = set_altered k number v before;
      later = set_later k number v;
      kept = inl (verdict_keeps k number (verdicts.with_verdict k.verdicts number v));
    }))

pub cleared_once : (k now new : Keyring) (number : SigNumber) (said : verdicts.Entries) → k ≡ now →
    is_some (verdict_on k number) ≡ true
    → said ≡ verdicts.without_verdict k.verdicts number → new ≡ counted_at number (record k { verdicts = said }) →
    IsOneChange now new
cleared_once k now new number said seen there cleared counted = rw (counted, cleared, ← seen) (inr (record {
  counted = refl;
  altered = altered (verdict_on k number) refl there;
  later = cleared_later k number;
  kept = inl (verdict_keeps k number (verdicts.without_verdict k.verdicts number));
}))
  where
    altered : (o : Option Verdict) → verdict_on k number ≡ o → is_some o ≡ true →
        IsAltered k (without_verdict_on number k)
    altered None is there = absurd cc
    altered (Some v) is there = cleared_altered k number v is
