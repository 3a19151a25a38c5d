-- What is kept after an import, without stamps, marked or not: the merge of the definitions.
use Rattle.std.proofs.Common.{◌≡◌, List, [], ◌∷◌, map, length, Option, Some, None, sym, ap, ◌∙◌, refl, ℕ, ◌+◌, arith}
use Rattle.std.specs.Option.{option_map}
use Rattle.std.specs.BTreeMap.{insert_entry}
use Rattle.std.proofs.lemmas.Map.Made.{lookup-map_values}
use Rattle.wot_types.specs.declared.fpr.Fpr.{Fpr}
use Rattle.wot_types.specs.Fpr.{fpr_cmp}
use Rattle.wot_key.specs.Key.{fpr_of}
use Rattle.wot_policy.specs.declared.rows.PolicyRows.{PolicyRows}
use Rattle.wot_component.specs.Certificate.{Certificate, unite, unmarked}
use Rattle.wot_component.specs.Judged.{judged}
use Rattle.wot_keyring_spec.specs.declared.kept.Kept.{Kept}
use Rattle.wot_keyring_spec.specs.Keyring.{Entries, Certificates, is_fpr, stripped}
use Rattle.wot_keyring_spec.specs.Import.{merged_into, with_cert, with_certs, weigh}
use Rattle.wot_merge.specs.Staging.{found_for, joined, kept_as, kept_with, kept_all, weigh_kept}
use Rattle.wot_keyring_spec.proofs.Inserts.{map_insert}

-- the certificates of entries, mapped
abbrev pub seen_by : (Certificate → Certificate) → Entries → Certificates
seen_by change es = map (λ (e : Fpr × Kept). (e.0, change e.1.cert)) es

module _ (rows other : PolicyRows) (stamp : ℕ) (change : Certificate → Certificate)
    (agrees : (found : Option Kept) (c : Certificate) → change (joined other found c) ≡ merged_into
    (option_map (λ (x : Kept). change x.cert) found) (judged rows c)) where
  pub seen_with : (es : Entries) (c : Certificate) → seen_by change (kept_with other stamp es c) ≡ with_cert rows
      (seen_by change es) c
  seen_with es c =
      map_insert (λ (x : Kept). change x.cert) es (fpr_of c.key) (kept_as other stamp (found_for es c) c)
      ∙ ap (insert_entry fpr_cmp (seen_by change es) (fpr_of c.key)) (agrees (found_for es c) c
      ∙ ap (λ (o : Option Certificate). merged_into o (judged rows c))
      (sym (lookup-map_values (λ (x : Kept). change x.cert) (is_fpr (fpr_of c.key)) es)))

  pub seen_all : (es : Entries) (cs : List Certificate) → seen_by change (kept_all other stamp es cs) ≡ with_certs rows
      (seen_by change es) cs
  seen_all es [] = refl
  seen_all es (c ∷ cs) = seen_all (kept_with other stamp es c) cs
      ∙ ap (λ (certs : Certificates). with_certs rows certs cs) (seen_with es c)

-- as they are
as_is : (rows : PolicyRows) (found : Option Kept) (c : Certificate) →
    joined rows found c ≡ merged_into (option_map (λ (x : Kept). x.cert) found) (judged rows c)
as_is rows found c = refl

pub certs_all : (rows : PolicyRows) (stamp : ℕ) (es : Entries) (cs : List Certificate) →
    stripped (kept_all rows stamp es cs) ≡ with_certs rows (stripped es) cs
certs_all rows stamp es cs = seen_all rows rows stamp (λ (c : Certificate). c) (as_is rows) es cs

-- marked again, whatever rows marked them before
module _ (rows other : PolicyRows) (unmarks : (c : Certificate) → judged rows (unmarked c) ≡ judged rows c)
    (forgets : (c : Certificate) → unmarked (judged other c) ≡ unmarked c) (unites : (a b : Certificate) →
    judged rows (unite a b) ≡ unite (judged rows a) (judged rows b)) where
  again : (c : Certificate) → judged rows (judged other c) ≡ judged rows c
  again c = sym (unmarks (judged other c)) ∙ ap (judged rows) (forgets c) ∙ unmarks c

  anew : (found : Option Kept) (c : Certificate) → judged rows (joined other found c) ≡ merged_into
      (option_map (λ (x : Kept). judged rows x.cert) found) (judged rows c)
  anew None c = again c
  anew (Some x) c = unites x.cert (judged other c) ∙ ap (unite (judged rows x.cert)) (again c)

  pub judged_all : (stamp : ℕ) (es : Entries) (cs : List Certificate) →
      seen_by (judged rows) (kept_all other stamp es cs) ≡ with_certs rows (seen_by (judged rows) es) cs
  judged_all stamp es cs = seen_all rows other stamp (judged rows) anew es cs

-- a weight that doesn't depend on the marks
pub seen_weighs : (measure : Certificate → ℕ) (change : Certificate → Certificate) →
    ((c : Certificate) → measure (change c) ≡ measure c) → (es : Entries) →
    weigh measure (seen_by change es) ≡ weigh_kept measure es
seen_weighs measure change same [] = refl
seen_weighs measure change same (e ∷ es) = λ i. same e.1.cert i + seen_weighs measure change same es i

pub seen_length : (change : Certificate → Certificate) (es : Entries) → length (seen_by change es) ≡ length es
seen_length change [] = refl
seen_length change (e ∷ es) = omega (arith, seen_length change es)
