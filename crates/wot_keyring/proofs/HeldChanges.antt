-- A change of the keyring changes what is held in the same way.
use Rattle.std.proofs.Common.{◌≡◌, ◌≢◌, ℕ, ◌+◌, Bool, true, false, cond, if◌then◌else◌, List, [], ◌∷◌, map, Option}
use Rattle.std.proofs.Common.{Some, None, Result, Ok, Err, OnOk, refl, sym, ap, subst, ◌∙◌}
use Rattle.std.specs.Option.{option_map_or}
use Rattle.std.specs.Map.{remove_entry}
use Rattle.wot_types.specs.declared.fpr.Fpr.{Fpr}
use Rattle.wot_types.specs.declared.number.SigNumber.{SigNumber}
use Rattle.wot_types.specs.FprLaws.{same_fpr-true, same_fpr-refl}
use Rattle.wot_policy.specs.declared.rows.PolicyRows.{PolicyRows}
use Rattle.wot_verdict.specs.Verdicts as verdicts
use Rattle.wot_verdict.specs.Verdicts.{verdict_at, with_verdict, without_verdict}
use Rattle.wot_verdict.specs.declared.verdict.Verdict.{Verdict}
use Rattle.wot_verdict.specs.declared.verdict.Verdict.TheVariants.{Good, Bad}
use Rattle.wot_component.specs.Certificate.{Certificate}
use Rattle.wot_keyring_spec.specs.Keyring.{Entries, Keyring, Certificates, is_fpr, certificates_in, stripped, verdict_on}
use Rattle.wot_keyring_spec.specs.Held.{Held, held_of, is_said, is_verdict, verdict_set, removing, verdict_cleared}
use Rattle.wot_keyring_spec.specs.Import.{imported, importing, spelled_in, stamped, with_united}
use Rattle.wot_keyring_spec.specs.Removal.{without_cert}
use Rattle.wot_keyring_spec.specs.Verdict.{counted_at, with_verdict_on, without_verdict_on}
use Rattle.wot_keyring.proofs.InvariantKept.{restamped_same}

-- ---- certificates

stamped_stripped : (old : Keyring) (certs : Certificates) → stripped (map (stamped old) certs) ≡ certs
stamped_stripped old [] = refl
stamped_stripped old (e ∷ es) = ap (λ (xs : Certificates). e ∷ xs) (stamped_stripped old es)

removed_stripped : (test : Fpr → Bool) (es : Entries) → stripped (remove_entry test es) ≡ remove_entry test
    (stripped es)
removed_stripped test [] = refl
removed_stripped test (e ∷ es) =
    elim (test e.0) as (λ b. stripped (cond b es (e ∷ remove_entry test es)) ≡ cond b (stripped es)
    ((e.0, e.1.cert) ∷ remove_entry test (stripped es))) [
      | true ↦ refl
      | false ↦ ap (λ (xs : Certificates). (e.0, e.1.cert) ∷ xs) (removed_stripped test es)
    ]

-- what a keyring with these entries holds
abbrev with_certs_of : Keyring → Certificates → Held
with_certs_of k certs = record { certs = certs; verdicts = k.verdicts }

pub held_imported : (rows : PolicyRows) (k : Keyring) (octets : List ℕ) →
    held_of (imported rows k octets) ≡ importing rows octets (held_of k)
held_imported rows k octets = ap (with_certs_of k) (stamped_stripped k (importing rows octets (held_of k)).certs)

pub held_removed : (k : Keyring) (fpr : Fpr) → held_of (without_cert fpr k) ≡ removing fpr (held_of k)
held_removed k fpr = ap (with_certs_of k) (removed_stripped (is_fpr fpr) k.certs)

-- ---- verdicts

verdict_same : (a b : Verdict) → is_verdict a b ≡ true → b ≡ a
verdict_same (Good fpr) (Good other) e = ap Good (sym (same_fpr-true fpr other e))
verdict_same (Good fpr) Bad e = absurd cc
verdict_same Bad (Good other) e = absurd cc
verdict_same Bad Bad e = refl

verdict_itself : (a : Verdict) → is_verdict a a ≡ true
verdict_itself (Good fpr) = same_fpr-refl fpr
verdict_itself Bad = refl

said : (v : Verdict) (o : Option Verdict) → option_map_or (is_verdict v) o false ≡ true → o ≡ Some v
said v None e = absurd cc
said v (Some w) e = ap (λ (x : Verdict). Some x) (verdict_same v w e)

-- Setting the current verdict again changes nothing.
pub held_said : (k : Keyring) (number : SigNumber) (v : Verdict) → verdict_on k number ≡ Some v →
    held_of k ≡ verdict_set number v (held_of k)
held_said k number v same =
    let there : is_said k.verdicts number v ≡ true = ap (λ (o : Option Verdict). option_map_or (is_verdict v) o false)
    same ∙ verdict_itself v in
    sym (ap (λ b. if b then held_of k else record {
      certs = certificates_in k;
      verdicts =
          with_verdict k.verdicts number v;
    }) there)

pub held_set : (k : Keyring) (number : SigNumber) (v : Verdict) → verdict_on k number ≢ Some v →
    held_of (with_verdict_on number v k) ≡ verdict_set number v (held_of k)
held_set k number v unsaid =
    ap (λ (certs : Certificates). record { certs = certs; verdicts = with_verdict k.verdicts number v })
    (restamped_same number (k.changes + 1) k.certs)
    ∙ (elim (is_said k.verdicts number v) as (λ b. is_said k.verdicts number v ≡ b →
    record { certs = certificates_in k; verdicts = with_verdict k.verdicts number v } ≡ (if b then held_of k
    else record { certs = certificates_in k; verdicts = with_verdict k.verdicts number v })) [
      | true ↦ λ t. absurd (unsaid (said v (verdict_at k.verdicts number) t))
      | false ↦ λ f. refl
    ]) refl

pub held_cleared : (k : Keyring) (number : SigNumber) → held_of (without_verdict_on number k) ≡ verdict_cleared number
    (held_of k)
held_cleared k number =
    ap (λ (certs : Certificates). record { certs = certs; verdicts = (verdict_cleared number (held_of k)).verdicts })
    (restamped_same number (k.changes + 1) k.certs)

-- ---- these facts in the shape that the code has them

pub removed_in_place : (k now : Keyring) (fpr : Fpr) (es : Entries) → k ≡ now → es ≡ remove_entry (is_fpr fpr) k.certs
    → held_of (record { limits = k.limits; certs = es; verdicts = k.verdicts; changes = k.changes + 1 }) ≡ removing fpr
    (held_of now)
removed_in_place k now fpr es seen out = rw (out, ← seen) (held_removed k fpr)

pub set_in_place : (k now new : Keyring) (number : SigNumber) (v : Verdict) (said : verdicts.Entries) → k ≡ now →
    verdict_on now number ≢ Some v
    → said ≡ with_verdict k.verdicts number v → new ≡ counted_at number (record k { verdicts = said }) →
    held_of new ≡ verdict_set number v (held_of now)
set_in_place k now new number v said seen unsaid set counted =
    let before : verdict_on k number ≢ Some v = subst (λ (z : Keyring). verdict_on z number ≢ Some v)
    (sym seen) unsaid in
    rw (counted, set, ← seen) (held_set k number v before)

pub cleared_in_place : (k now new : Keyring) (number : SigNumber) (said : verdicts.Entries) → k ≡ now
    → said ≡ without_verdict k.verdicts number → new ≡ counted_at number (record k { verdicts = said }) →
    held_of new ≡ verdict_cleared number (held_of now)
cleared_in_place k now new number said seen cleared counted = rw (counted, cleared, ← seen) (held_cleared k number)

pub imported_in_place : {A E : Type 0} (result : Result A E) (rows : PolicyRows) (old new : Keyring) (octets : List ℕ)
    (cs : List Certificate)
    → OnOk result (new ≡ with_united rows old cs) → cs ≡ spelled_in octets →
    OnOk result (held_of new ≡ importing rows octets (held_of old))
imported_in_place (Ok done) rows old new octets cs united read = rw (united, read) (held_imported rows old octets)
imported_in_place (Err fault) rows old new octets cs united read = united
