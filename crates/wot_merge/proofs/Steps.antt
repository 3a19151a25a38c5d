-- One step of an import: a certificate merged with what is kept under its fingerprint.
use Rattle.std.proofs.Common.{◌≡◌, ◌≤◌, ◌+◌, ℕ, Bool, true, false, cond, [], ◌∷◌, Option, Some, None, sym, ap, ◌∙◌}
use Rattle.std.proofs.Common.{subst, refl, arith}
use Rattle.std.specs.declared.cmp.Ordering.TheVariants.{Less, Equal, Greater}
use Rattle.std.specs.Ordering.{match_ordering}
use Rattle.std.specs.List.{AllByRecursion}
use Rattle.std.specs.BTreeMap.{insert_entry}
use Rattle.std.specs.Map.{lookup}
use Rattle.wot_types.specs.declared.fpr.Fpr.{Fpr}
use Rattle.wot_types.specs.Fpr.{fpr_cmp}
use Rattle.wot_types.specs.FprLaws.{fpr_total}
use Rattle.wot_key.specs.Key.{fpr_of}
use Rattle.wot_policy.specs.declared.rows.PolicyRows.{PolicyRows}
use Rattle.wot_component.specs.Certificate.{Certificate}
use Rattle.wot_component.specs.Counts.{items_of, signatures_of}
use Rattle.wot_component.specs.Judged.{IsJudged, sound_of}
use Rattle.wot_component.specs.Text.{size_of}
use Rattle.wot_keyring_spec.specs.declared.kept.Kept.{Kept}
use Rattle.wot_merge.specs.declared.staging.Staged.{Staged}
use Rattle.wot_merge.specs.declared.tally.Weight.{Weight}
use Rattle.wot_keyring_spec.specs.Keyring.{Entries, is_fpr}
use Rattle.wot_keyring_spec.specs.Kept.{AreSortedByFpr, AreJudged}
use Rattle.wot_merge.specs.Staging.{found_for, found_by, kept_as, kept_with, long_of, WeighsFound, weigh_kept, IsTally}
use Rattle.wot_merge.specs.Staging.{CanMove, Moves, IsFoundJudged, IsStaged, joined}
use Rattle.wot_merge.proofs.TotalWeight.{found_weight, insert_weighs}

-- ---- an insertion

-- what holds for all and for what is inserted
pub put_all : (P : Kept → Type 0) (es : Entries) (fpr : Fpr) (kept : Kept) →
    AllByRecursion (λ (e : Fpr × Kept). P e.1) es → P kept → AllByRecursion (λ (e : Fpr × Kept). P e.1)
    (insert_entry fpr_cmp es fpr kept)
put_all P [] fpr kept all p = (p, tt)
put_all P (e ∷ es) fpr kept all p =
    elim (fpr_cmp fpr e.0) as (λ r. AllByRecursion (λ (x : Fpr × Kept). P x.1) (match_ordering r ((fpr, kept) ∷ e ∷ es)
    ((e.0, kept) ∷ es) (e ∷ insert_entry fpr_cmp es fpr kept))) [
      | Less ↦ (p, all)
      | Equal ↦ (p, all.1)
      | Greater ↦ (all.0, put_all P es fpr kept all.1 p)
    ]

pub weighs_by : (measure : Certificate → ℕ) (es : Entries) (fpr : Fpr) (kept : Kept) → AreSortedByFpr es
    → weigh_kept measure (insert_entry fpr_cmp es fpr kept) + found_by measure (lookup (is_fpr fpr) es) ≡ weigh_kept
    measure es + measure kept.cert
weighs_by measure es fpr kept sorted =
    ap (λ n. weigh_kept measure (insert_entry fpr_cmp es fpr kept) + n) (sym (same_found (lookup (is_fpr fpr) es)))
    ∙ insert_weighs fpr_cmp fpr_total (λ (x : Kept). measure x.cert) fpr kept es sorted
  where
    same_found : (o : Option Kept) → found_weight (λ (x : Kept). measure x.cert) o ≡ found_by measure o
    same_found None = refl
    same_found (Some x) = refl

-- ---- weights

found_octets : (limit : ℕ) (w : Weight) (o : Option Kept) → WeighsFound limit w o → w.octets ≡ found_by size_of o
found_octets limit w None h = h.0
found_octets limit w (Some x) h = h.octets

found_signatures : (limit : ℕ) (w : Weight) (o : Option Kept) → WeighsFound limit w o →
    w.signatures ≡ found_by signatures_of o
found_signatures limit w None h = h.1
found_signatures limit w (Some x) h = h.signatures

found_long : (limit : ℕ) (w : Weight) (o : Option Kept) → WeighsFound limit w o → w.long ≡ found_by (long_of limit) o
found_long limit w None h = h.2
found_long limit w (Some x) h = h.long

may : (b a t f n w v : ℕ) → b ≡ f → a ≡ n → t ≡ w → v + f ≡ w + n → b ≤ t + a
may b a t f n w v p q r e = omega arith

moves_to : (b a t f n w v u : ℕ) → b ≡ f → a ≡ n → t ≡ w → v + f ≡ w + n → u + b ≡ t + a → u ≡ v
moves_to b a t f n w v u p q r e m = omega arith

fresh_by : (t u i k f n w v first from : ℕ) → t + first ≡ from + w → i + k + f ≡ n → v + f ≡ w + n → u ≡ t + i + k →
    u + first ≡ from + v
fresh_by t u i k f n w v first from h s e m = omega arith

asked_by : (k f s w v : ℕ) → k + f ≡ s → v + f ≡ w + s → k + w ≡ v
asked_by k f s w v h e = omega arith

found_judged : (rows : PolicyRows) (test : Fpr → Bool) (es : Entries) → AreJudged rows es →
    IsFoundJudged rows (lookup test es)
found_judged rows test [] all = tt
found_judged rows test (e ∷ es) all =
    elim (test e.0) as (λ b. IsFoundJudged rows (cond b (Some e.1) (lookup test es))) [
      | true ↦ all.0
      | false ↦ found_judged rows test es all.1
    ]

module _ (rows : PolicyRows) (stamp limit : ℕ) (es es' : Entries) (c : Certificate) (s : Staged)
    (h : IsStaged rows stamp limit (found_for es c) c s) (sorted : AreSortedByFpr es) where
  abbrev after : Entries
  after = insert_entry fpr_cmp es (fpr_of c.key) s.kept

  by : (measure : Certificate → ℕ) → weigh_kept measure after + found_by measure (found_for es c) ≡ weigh_kept measure
      es + measure s.kept.cert
  by measure = weighs_by measure es (fpr_of c.key) s.kept sorted

  pub may_move : (total : Weight) → IsTally limit es total → CanMove s.before s.after total
  may_move total t = record {
    octets = may _ _ _ _ _ _ _ (found_octets limit s.before (found_for es c) h.before) h.after.octets t.octets
        (by size_of);
    signatures = may _ _ _ _ _ _ _ (found_signatures limit s.before (found_for es c) h.before) h.after.signatures
        t.signatures (by signatures_of);
    long = may _ _ _ _ _ _ _ (found_long limit s.before (found_for es c) h.before) h.after.long t.long
        (by (long_of limit));
  }

  module _ (put : es' ≡ after) where
    pub put_with : es' ≡ kept_with rows stamp es c
    put_with = put ∙ ap (insert_entry fpr_cmp es (fpr_of c.key)) h.kept

    pub tally_moved : (total new : Weight) → IsTally limit es total → Moves s.before s.after total new →
        IsTally limit es' new
    tally_moved total new t m =
        subst (λ (x : Entries). IsTally limit x new) (sym put) (record {
          octets = moves_to _ _ _ _ _ _ _ _ (found_octets limit s.before (found_for es c) h.before) h.after.octets
              t.octets (by size_of) m.octets;
          signatures = moves_to _ _ _ _ _ _ _ _ (found_signatures limit s.before (found_for es c) h.before)
              h.after.signatures t.signatures (by signatures_of) m.signatures;
          long = moves_to _ _ _ _ _ _ _ _ (found_long limit s.before (found_for es c) h.before) h.after.long t.long
              (by (long_of limit)) m.long;
        })

    pub fresh_moved : (fresh new first from : ℕ) → fresh + first ≡ from + weigh_kept items_of es →
        new ≡ fresh + s.items + s.keys → new + first ≡ from + weigh_kept items_of es'
    fresh_moved fresh new first from f n =
        fresh_by _ _ _ _ _ _ _ _ first from f h.items (by items_of) n
        ∙ ap (λ (x : Entries). from + weigh_kept items_of x) (sym put)

    pub judged_moved : AreJudged rows es → AreJudged rows es'
    judged_moved all =
        subst (AreJudged rows) (sym put) (put_all (λ (x : Kept). IsJudged rows x.cert) es (fpr_of c.key) s.kept all
        (h.judged (found_judged rows (is_fpr (fpr_of c.key)) es all)))

-- The policy was asked for what is valid and new in this step.
pub asked_moved : (rows : PolicyRows) (stamp : ℕ) (es : Entries) (c : Certificate) (k : ℕ) → AreSortedByFpr es →
    k + found_by sound_of (found_for es c) ≡ sound_of (joined rows (found_for es c) c) →
    k + weigh_kept sound_of es ≡ weigh_kept sound_of (kept_with rows stamp es c)
asked_moved rows stamp es c k sorted a =
    asked_by k _ _ _ _ a (weighs_by sound_of es (fpr_of c.key) (kept_as rows stamp (found_for es c) c) sorted)
