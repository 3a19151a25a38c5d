-- Each change keeps what holds for every keyring.
use Rattle.std.proofs.Common.{◌≡◌, ℕ, ◌+◌, ◌-◌, min, nat_le, ◌<◌, ◌⊎◌, inl, inr, is_none, ◌&&◌, ◌≤◌, ◌^◌, Bool, true}
use Rattle.std.proofs.Common.{false, cond, List, [], ◌∷◌, length, Option, Some, None, refl, sym, ap, ◌∙◌, subst, arith}
use Rattle.std.specs.List.{AllByRecursion}
use Rattle.std.specs.Map.{lookup, remove_entry}
use Rattle.std.specs.List.Sorted.{IsStrictlySortedBy}
use Rattle.std.specs.Cmp.{IsTotalOrder}
use Rattle.std.proofs.lemmas.Bool.Decides.{nat_tests}
use Rattle.std.proofs.lemmas.Cmp.{nat_list_cmp_total, on_total}
use Rattle.std.proofs.lemmas.Map.Made.{keys_of-map_values}
use Rattle.wot_types.specs.declared.fpr.Fpr.{Fpr}
use Rattle.wot_types.specs.declared.limits.Limits.{Limits}
use Rattle.wot_types.specs.declared.number.SigNumber.{SigNumber}
use Rattle.wot_types.specs.Fpr.{fpr_cmp}
use Rattle.wot_types.specs.SigNumber.{number_cmp}
use Rattle.wot_types.specs.SigNumber.{number_cmp}
use Rattle.wot_key.specs.Key.{fpr_of}
use Rattle.wot_verdict.specs.Verdicts as verdicts
use Rattle.wot_verdict.specs.declared.verdict.Verdict as verdict
use Rattle.wot_component.specs.Certificate.{Certificate}
use Rattle.wot_component.specs.Counts.{signatures_of}
use Rattle.wot_component.specs.Text.{size_of}
use Rattle.wot_component.specs.Whole.{IsCertificate}
use Rattle.wot_keyring_spec.specs.declared.kept.Kept.{Kept}
use Rattle.wot_keyring_spec.specs.Import.{weigh}
use Rattle.wot_keyring_spec.specs.Keyring.{Entries, Keyring, Certificates, is_fpr, stripped}
use Rattle.wot_keyring_spec.specs.Kept.{AreSortedByFpr, IsKeyring, AreTotals}
use Rattle.wot_keyring_spec.specs.Removal.{without_cert}
use Rattle.wot_keyring_spec.specs.Verdict.{restamped, restamped_all, counted_at, is_over}
use Rattle.wot_keyring_spec.proofs.Stamps.{removed_stamped, restamped_stamped}
use Rattle.wot_merge.proofs.TotalWeight.{removed_fewer, insert_weighs, found_weight, ones}

-- ---- a certificate removed

pub removed_all : (P : Fpr × Kept → Type 0) (test : Fpr → Bool) (es : Entries) → AllByRecursion P es →
    AllByRecursion P (remove_entry test es)
removed_all P test [] all = tt
removed_all P test (e ∷ es) all =
    elim (test e.0) as (λ b. AllByRecursion P (cond b es (e ∷ remove_entry test es))) [
      | true ↦ all.1
      | false ↦ (all.0, removed_all P test es all.1)
    ]

less_by : (w a r : ℕ) → r ≤ a → r ≤ w + a
less_by w a r h = omega arith

less_both : (w a r : ℕ) → r ≤ a → w + r ≤ w + a
less_both w a r h = omega arith

reach : (n : ℕ) → n ≤ n
reach n = omega arith

removed_less : (weight : Certificate → ℕ) (test : Fpr → Bool) (es : Entries) →
    weigh weight (stripped (remove_entry test es)) ≤ weigh weight (stripped es)
removed_less weight test [] = reach 0
removed_less weight test (e ∷ es) =
    elim (test e.0) as (λ b. weigh weight (stripped (cond b es (e ∷ remove_entry test es))) ≤ weight e.1.cert + weigh
    weight (stripped es)) [
      | true ↦ less_by (weight e.1.cert) _ _ (reach (weigh weight (stripped es)))
      | false ↦ less_both (weight e.1.cert) _ _ (removed_less weight test es)
    ]

chain : (a b c : ℕ) → a ≤ b → b ≤ c → a ≤ c
chain a b c h k = omega arith

pub removed_keyring : (k : Keyring) (fpr : Fpr) → IsKeyring k → AreSortedByFpr (remove_entry (is_fpr fpr) k.certs) →
    IsKeyring (without_cert fpr k)
removed_keyring k fpr h sorted = record {
  small = h.small;
  named = removed_all _ (is_fpr fpr) k.certs h.named;
  whole = removed_all _ (is_fpr fpr) k.certs h.whole;
  sorted = sorted;
  within = record {
    certificate = removed_all _ (is_fpr fpr) k.certs h.within.certificate;
    certificates = chain _ _ _ (removed_fewer (is_fpr fpr) k.certs) h.within.certificates;
    octets = chain _ _ _ (removed_less size_of (is_fpr fpr) k.certs) h.within.octets;
    signatures = chain _ _ _ (removed_less signatures_of (is_fpr fpr) k.certs) h.within.signatures;
    verdicts = h.within.verdicts;
  };
  stamped = removed_stamped k.changes (is_fpr fpr) k.certs h.stamped;
}

here : (a w : ℕ) → a + w ≡ w + a
here a w = omega arith

there : (a b r w : ℕ) → r + w ≡ a → (b + r) + w ≡ b + a
there a b r w h = omega arith

-- The weight of what was removed.
pub removed_weighs : (weight : Certificate → ℕ) (test : Fpr → Bool) (es : Entries) (kept : Kept) →
    lookup test es ≡ Some kept
    → weigh weight (stripped (remove_entry test es)) + weight kept.cert ≡ weigh weight (stripped es)
removed_weighs weight test [] kept found = cc
removed_weighs weight test (e ∷ es) kept found =
    (elim (test e.0) as (λ b. cond b (Some e.1) (lookup test es) ≡ Some kept →
    weigh weight (stripped (cond b es (e ∷ remove_entry test es))) + weight kept.cert ≡ weight e.1.cert + weigh
    weight (stripped es)) [
      | true ↦ λ f. let same : e.1 ≡ kept = cc in ap (λ (x : Kept). weigh weight (stripped es) + weight x.cert)
          (sym same) ∙ here (weigh weight (stripped es)) (weight e.1.cert)
      | false ↦ λ f. there (weigh weight (stripped es)) (weight e.1.cert) _ (weight kept.cert)
          (removed_weighs weight test es kept f)
    ]) found

-- what holds for each holds for the one that is found
pub found_all : (P : Kept → Type 0) (test : Fpr → Bool) (es : Entries) (kept : Kept) →
    AllByRecursion (λ (e : Fpr × Kept). P e.1) es → lookup test es ≡ Some kept → P kept
found_all P test [] kept all found = absurd cc
found_all P test (e ∷ es) kept all found =
    (elim (test e.0) as (λ b. cond b (Some e.1) (lookup test es) ≡ Some kept → P kept) [
      | true ↦ λ f. let same : e.1 ≡ kept = cc in subst P same all.0
      | false ↦ λ f. found_all P test es kept all.1 f
    ]) found

-- ---- a verdict altered

pub restamped_same : (number : SigNumber) (stamp : ℕ) (es : Entries) →
    stripped (restamped_all number stamp es) ≡ stripped es
restamped_same number stamp [] = refl
restamped_same number stamp (e ∷ es) = ap (λ (rest : Certificates). (e.0, e.1.cert) ∷ rest)
    (restamped_same number stamp es)

restamped_length : (number : SigNumber) (stamp : ℕ) (es : Entries) → length (restamped_all number stamp es) ≡ length es
restamped_length number stamp [] = refl
restamped_length number stamp (e ∷ es) = omega (arith, restamped_length number stamp es)

restamped_each : (P : Fpr → Certificate → Type 0) (number : SigNumber) (stamp : ℕ) (es : Entries) →
    AllByRecursion (λ (e : Fpr × Kept). P e.0 e.1.cert) es → AllByRecursion (λ (e : Fpr × Kept). P e.0 e.1.cert)
    (restamped_all number stamp es)
restamped_each P number stamp [] all = tt
restamped_each P number stamp (e ∷ es) all = (all.0, restamped_each P number stamp es all.1)

pub restamped_weigh : (weight : Certificate → ℕ) (number : SigNumber) (stamp : ℕ) (es : Entries) →
    weigh weight (stripped (restamped_all number stamp es)) ≡ weigh weight (stripped es)
restamped_weigh weight number stamp es = ap (weigh weight) (restamped_same number stamp es)

pub restamped_keyring : (k : Keyring) (number : SigNumber) → IsKeyring k → IsKeyring (counted_at number k)
restamped_keyring k number h =
    let InOrder : List Fpr → Type 0 = λ keys. IsStrictlySortedBy fpr_cmp keys in
    let Below : ℕ → ℕ → Type 0 = λ limit n. n ≤ limit in
    record {
      small = h.small;
      named = restamped_each (λ f c. f ≡ fpr_of c.key) number (k.changes + 1) k.certs h.named;
      whole = restamped_each (λ f c. IsCertificate c) number (k.changes + 1) k.certs h.whole;
      sorted = subst InOrder (sym (keys_of-map_values (restamped number (k.changes + 1)) k.certs)) h.sorted;
      within = record {
        certificate = restamped_each (λ f c. size_of c ≤ k.limits.certificate) number (k.changes + 1) k.certs
            h.within.certificate;
        certificates = subst (Below k.limits.certificates) (sym (restamped_length number (k.changes + 1) k.certs))
            h.within.certificates;
        octets = subst (Below k.limits.octets) (sym (restamped_weigh size_of number (k.changes + 1) k.certs))
            h.within.octets;
        signatures = subst (Below k.limits.signatures)
            (sym (restamped_weigh signatures_of number (k.changes + 1) k.certs)) h.within.signatures;
        verdicts = h.within.verdicts;
      };
      stamped = restamped_stamped k.changes number k.certs h.stamped;
    }

-- other verdicts, at most as many as the limit allows
pub judged_keyring : (k : Keyring) (others : verdicts.Entries) → IsKeyring k → length others ≤ k.limits.verdicts →
    IsKeyring (record k { verdicts = others })
judged_keyring k others h few = record {
  small = h.small;
  named = h.named;
  whole = h.whole;
  sorted = h.sorted;
  within = record {
    certificate = h.within.certificate;
    certificates = h.within.certificates;
    octets = h.within.octets;
    signatures = h.within.signatures;
    verdicts = few;
  };
  stamped = h.stamped;
}

-- The size of a kept certificate is small.
pub kept_small : (k : Keyring) (test : Fpr → Bool) (kept : Kept) → IsKeyring k → lookup test k.certs ≡ Some kept →
    size_of kept.cert ≤ 4194304
kept_small k test kept h found =
    chain _ _ _ (found_all (λ (x : Kept). size_of x.cert ≤ k.limits.certificate) test k.certs kept h.within.certificate
    found) h.small.certificate

pub few_octets : (s : ℕ) → s ≤ 4194304 → s < 2 ^ 63
few_octets s h = omega arith

less_of : (t a w r s : ℕ) → s ≡ min w (2 ^ 64 - 1) → w ≤ 4194304 → t ≡ a → r + w ≡ a → (s ≤ t) × (t - s ≡ r)
less_of t a w r s e h f g = (omega arith, omega arith)

less_so : (t a w r s : ℕ) → s ≡ w → t ≡ a → r + w ≡ a → (s ≤ t) × (t - s ≡ r)
less_so t a w r s e f g = (omega arith, omega arith)

-- The totals without a certificate of this size and this number of signatures.
pub record AreLess (k : Keyring) (fpr : Fpr) (octets signatures octets_less signatures_less : ℕ) : Type 0 where
  pub size : octets_less ≤ octets
  pub signed : signatures_less ≤ signatures
  pub rest : AreTotals (without_cert fpr k) (octets - octets_less) (signatures - signatures_less)

pub removed_totals : (k : Keyring) (fpr : Fpr) (kept : Kept) (octets signatures size signed : ℕ) → IsKeyring k →
    AreTotals k octets signatures → Some kept ≡ lookup (is_fpr fpr) k.certs
    → size ≡ min (size_of kept.cert) (2 ^ 64 - 1) → signed ≡ signatures_of kept.cert →
    AreLess k fpr octets signatures size signed
removed_totals k fpr kept octets signatures size signed h t found e f =
    let o = less_of octets _ (size_of kept.cert) _ size e (kept_small k (is_fpr fpr) kept h (sym found)) t.octets
    (removed_weighs size_of (is_fpr fpr) k.certs kept (sym found)) in
    let s = less_so signatures _ (signatures_of kept.cert) _ signed f t.signatures
    (removed_weighs signatures_of (is_fpr fpr) k.certs kept (sym found)) in
    record { size = o.0; signed = s.0; rest = record { octets = o.1; signatures = s.1 } }

pub restamped_totals : (k : Keyring) (number : SigNumber) (octets signatures : ℕ) → AreTotals k octets signatures →
    AreTotals (counted_at number k) octets signatures
restamped_totals k number octets signatures t = record {
  octets = t.octets ∙ sym (restamped_weigh size_of number (k.changes + 1) k.certs);
  signatures = t.signatures ∙ sym (restamped_weigh signatures_of number (k.changes + 1) k.certs);
}

-- ---- a verdict set or removed

numbers_total : IsTotalOrder number_cmp
numbers_total = on_total (λ (n : SigNumber). n.0) nat_list_cmp_total

abbrev one : verdict.Verdict → ℕ
one v = 1

passed_not : (n m f limit : ℕ) → m + f ≡ n + 1 → (f ≡ 1) ⊎ (n < limit) → n ≤ limit → m ≤ limit
passed_not n m f limit e (inl found) h = omega arith
passed_not n m f limit e (inr below) h = omega arith

below_of : (n limit : ℕ) → nat_le limit n ≡ false → n < limit
below_of n limit h = grind (arith, nat_tests)

not_over : (l : Limits) (vs : verdicts.Entries) (number : SigNumber) → is_over l vs number ≡ false →
    (found_weight one (verdicts.verdict_at vs number) ≡ 1) ⊎ (length vs < l.verdicts)
not_over l vs number h =
    (elim (verdicts.verdict_at vs number) as (λ (o : Option verdict.Verdict).
    (is_none o && nat_le l.verdicts (length vs)) ≡ false → (found_weight one o ≡ 1) ⊎ (length vs < l.verdicts)) [
      | None ↦ λ g. inr (below_of (length vs) l.verdicts g)
      | Some v ↦ λ g. inl refl
    ]) h

pub set_few : (l : Limits) (vs : verdicts.Entries) (number : SigNumber) (v : verdict.Verdict) →
    verdicts.AreSortedByNumber vs → is_over l vs number ≡ false → length vs ≤ l.verdicts →
    length (verdicts.with_verdict vs number v) ≤ l.verdicts
set_few l vs number v sorted h few =
    passed_not (length vs) _ _ l.verdicts
    (ap (λ n. n + found_weight one (verdicts.verdict_at vs number)) (sym (ones (verdicts.with_verdict vs number v)))
    ∙ insert_weighs number_cmp numbers_total one number v vs sorted ∙ ap (λ n. n + 1) (ones vs))
    (not_over l vs number h) few

pub cleared_few : (l : Limits) (vs : verdicts.Entries) (number : SigNumber) → length vs ≤ l.verdicts →
    length (verdicts.without_verdict vs number) ≤ l.verdicts
cleared_few l vs number few = chain _ _ _ (removed_fewer (verdicts.is_number number) vs) few
