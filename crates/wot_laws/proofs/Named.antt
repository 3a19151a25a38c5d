-- Each certificate is filed under the fingerprint of its primary key, also after an import or a removal.
use Rattle.std.proofs.Common.{◌≡◌, ℕ, Bool, true, false, cond, List, [], ◌∷◌, Option, Some, None, refl, sym, ap, ◌∙◌}
use Rattle.std.specs.declared.cmp.Ordering.{Ordering}
use Rattle.std.specs.declared.cmp.Ordering.TheVariants.{Less, Equal, Greater}
use Rattle.std.specs.Ordering.{is_eq, match_ordering}
use Rattle.std.specs.List.{AllByRecursion}
use Rattle.std.specs.BTreeMap.{insert_entry}
use Rattle.std.specs.Map.{lookup, remove_entry}
use Rattle.wot_types.specs.declared.fpr.Fpr.{Fpr}
use Rattle.wot_types.specs.Fpr.{fpr_cmp}
use Rattle.wot_types.specs.FprLaws.{fpr_exact}
use Rattle.wot_key.specs.Key.{fpr_of}
use Rattle.wot_policy.specs.declared.rows.PolicyRows.{PolicyRows}
use Rattle.wot_component.specs.Certificate.{Certificate}
use Rattle.wot_component.specs.Judged.{judged}
use Rattle.wot_keyring_spec.specs.Keyring.{Certificates, is_fpr}
use Rattle.wot_keyring_spec.specs.Import.{spelled_in, merged_into, with_cert, with_certs}
use Rattle.wot_laws.proofs.Stays.{all_without}

abbrev pub AreNamed : Certificates → Type 0
AreNamed certs = AllByRecursion (λ (e : Fpr × Certificate). e.0 ≡ fpr_of e.1.key) certs

is-equal : (o : Ordering) → is_eq o ≡ true → o ≡ Equal
is-equal Less e = absurd cc
is-equal Equal e = refl
is-equal Greater e = absurd cc

pub named_without : (fpr : Fpr) (certs : Certificates) → AreNamed certs → AreNamed (remove_entry (is_fpr fpr) certs)
named_without fpr certs all = all_without (λ (e : Fpr × Certificate). e.0 ≡ fpr_of e.1.key) (is_fpr fpr) certs all

named_with : (certs : Certificates) (fpr : Fpr) (c : Certificate) → fpr ≡ fpr_of c.key → AreNamed certs →
    AreNamed (insert_entry fpr_cmp certs fpr c)
named_with [] fpr c e all = (e, tt)
named_with (x ∷ xs) fpr c e all = by (named_with xs fpr c e all.1) (fpr_cmp fpr x.0) refl
  where
    by : AreNamed (insert_entry fpr_cmp xs fpr c) → (o : Ordering) → fpr_cmp fpr x.0 ≡ o →
        AreNamed (match_ordering o ((fpr, c) ∷ x ∷ xs) ((x.0, c) ∷ xs) (x ∷ insert_entry fpr_cmp xs fpr c))
    by rest Less f = (e, all)
    by rest Equal f = (sym (fpr_exact fpr x.0 f) ∙ e, all.1)
    by rest Greater f = (all.0, rest)

-- a certificate found under a fingerprint has that fingerprint
found_named : (certs : Certificates) (fpr : Fpr) (kept : Certificate) → AreNamed certs →
    lookup (is_fpr fpr) certs ≡ Some kept → fpr ≡ fpr_of kept.key
found_named [] fpr kept all e = absurd cc
found_named (x ∷ xs) fpr kept all e = by (found_named xs fpr kept all.1) (is_fpr fpr x.0) refl e
  where
    by : (lookup (is_fpr fpr) xs ≡ Some kept → fpr ≡ fpr_of kept.key) → (b : Bool) → is_fpr fpr x.0 ≡ b →
        cond b (Some x.1) (lookup (is_fpr fpr) xs) ≡ Some kept → fpr ≡ fpr_of kept.key
    by rest true f g =
        let same : x.1 ≡ kept = cc in
        fpr_exact fpr x.0 (is-equal (fpr_cmp fpr x.0) f) ∙ all.0 ∙ ap (λ (c : Certificate). fpr_of c.key) same
    by rest false f g = rest g

united_named : (certs : Certificates) (fpr : Fpr) (o : Option Certificate) (c : Certificate) → AreNamed certs →
    lookup (is_fpr fpr) certs ≡ o → fpr ≡ fpr_of c.key → fpr ≡ fpr_of (merged_into o c).key
united_named certs fpr None c all e f = f
united_named certs fpr (Some kept) c all e f = found_named certs fpr kept all e

named_one : (rows : PolicyRows) (certs : Certificates) (c : Certificate) → AreNamed certs →
    AreNamed (with_cert rows certs c)
named_one rows certs c all =
    named_with certs (fpr_of c.key) (merged_into (lookup (is_fpr (fpr_of c.key)) certs) (judged rows c))
    (united_named certs (fpr_of c.key) (lookup (is_fpr (fpr_of c.key)) certs) (judged rows c) all refl refl) all

named_many : (rows : PolicyRows) (certs : Certificates) (cs : List Certificate) → AreNamed certs →
    AreNamed (with_certs rows certs cs)
named_many rows certs [] all = all
named_many rows certs (c ∷ cs) all = named_many rows (with_cert rows certs c) cs (named_one rows certs c all)

pub named_all : (rows : PolicyRows) (certs : Certificates) (octets : List ℕ) → AreNamed certs →
    AreNamed (with_certs rows certs (spelled_in octets))
named_all rows certs octets all = named_many rows certs (spelled_in octets) all
