-- A kept certificate that grew in place, and its way back.
use Rattle.std.proofs.Common.{◌≡◌, ◌+◌, ◌≤◌, ℕ, true, false, cond, List, [], ◌∷◌, ◌++◌, Option, Some, None, is_some}
use Rattle.std.proofs.Common.{refl, sym, ap, ◌∙◌, subst, arith}
use Rattle.std.specs.declared.cmp.Ordering.TheVariants.{Less, Equal, Greater}
use Rattle.std.specs.Ordering.{is_eq, match_ordering}
use Rattle.std.specs.BTreeMap.{insert_entry}
use Rattle.std.specs.Map.{lookup, set_value, keys_of}
use Rattle.std.proofs.lemmas.Map.{lookup-none}
use Rattle.std.proofs.lemmas.Map.Entries.{none_below_head}
use Rattle.std.proofs.lemmas.Map.Keys.{sorted_tail}
use Rattle.wot_types.specs.declared.fpr.Fpr.{Fpr}
use Rattle.wot_types.specs.Fpr.{fpr_cmp}
use Rattle.wot_types.specs.FprLaws.{fpr_total}
use Rattle.wot_cert.specs.declared.growth.Growth.{Growth}
use Rattle.wot_component.specs.Certificate.{Certificate}
use Rattle.wot_cert.specs.Growing.{LeadsBack as CertLeadsBack}
use Rattle.wot_keyring_spec.specs.declared.kept.Kept.{Kept}
use Rattle.wot_merge.specs.declared.undo.Before.TheVariants.{Smaller}
use Rattle.wot_merge.specs.declared.undo.Was.{Was as TheWas}
use Rattle.wot_keyring_spec.specs.Keyring.{Entries, is_fpr}
use Rattle.wot_keyring_spec.specs.Kept.{AreSortedByFpr}
use Rattle.wot_key.specs.Key.{fpr_of}
use Rattle.wot_policy.specs.declared.rows.PolicyRows.{PolicyRows}
use Rattle.wot_component.specs.Judged.{sound_of}
use Rattle.wot_merge.specs.declared.staging.Step.{Step}
use Rattle.wot_merge.specs.Staging.{LeadsBack, IsLog, IsMergedAt, IsStaged, MayShrink, StillLeadsBack, found_by}
use Rattle.wot_merge.specs.Staging.{found_for, joined, kept_as, kept_with, shrunk_found, smaller, sound_in, staged_as}
use Rattle.wot_merge.proofs.Logs.{log_more}
use Rattle.wot_merge.proofs.Steps.{weighs_by}

none_some : (o : Option Kept) (x : Kept) → o ≡ None → o ≡ Some x → ⊥
none_some o x p q = cc

-- what replaced something is found
set_found : (es : Entries) (fpr : Fpr) (x y : Kept) → lookup (is_fpr fpr) es ≡ Some x →
    lookup (is_fpr fpr) (set_value (is_fpr fpr) es y) ≡ Some y
set_found [] fpr x y found = absurd cc
set_found (e ∷ es) fpr x y found =
    (elim (is_fpr fpr e.0) as (λ b. is_fpr fpr e.0 ≡ b → cond b (Some e.1) (lookup (is_fpr fpr) es) ≡ Some x →
    lookup (is_fpr fpr) (cond b ((e.0, y) ∷ es) (e ∷ set_value (is_fpr fpr) es y)) ≡ Some y) [
      | true ↦ λ t f. ap (λ b. cond b (Some y) (lookup (is_fpr fpr) es)) t
      | false ↦ λ t f. ap (λ b. cond b (Some e.1) (lookup (is_fpr fpr) (set_value (is_fpr fpr) es y))) t
          ∙ set_found es fpr x y f
    ]) refl found

-- and gives it back
set_again : (es : Entries) (fpr : Fpr) (x y : Kept) → lookup (is_fpr fpr) es ≡ Some x →
    set_value (is_fpr fpr) (set_value (is_fpr fpr) es y) x ≡ es
set_again [] fpr x y found = absurd cc
set_again (e ∷ es) fpr x y found =
    (elim (is_fpr fpr e.0) as (λ b. is_fpr fpr e.0 ≡ b → cond b (Some e.1) (lookup (is_fpr fpr) es) ≡ Some x →
    set_value (is_fpr fpr) (cond b ((e.0, y) ∷ es) (e ∷ set_value (is_fpr fpr) es y)) x ≡ e ∷ es) [
      | true ↦ λ t f.
          let same : e.1 ≡ x = cc in
          ap (λ b. cond b ((e.0, x) ∷ es) ((e.0, y) ∷ set_value (is_fpr fpr) es x)) t ∙ ap (λ (z : Kept). (e.0, z) ∷ es)
          (sym same)
      | false ↦ λ t f. ap (λ b. cond b ((e.0, x) ∷ set_value (is_fpr fpr) es y)
          (e ∷ set_value (is_fpr fpr) (set_value (is_fpr fpr) es y) x)) t ∙ ap (λ (rest : Entries). e ∷ rest)
          (set_again es fpr x y f)
    ]) refl found

-- replacing is inserting
pub set_insert : (es : Entries) (fpr : Fpr) (x y : Kept) → AreSortedByFpr es → lookup (is_fpr fpr) es ≡ Some x →
    set_value (is_fpr fpr) es y ≡ insert_entry fpr_cmp es fpr y
set_insert [] fpr x y sorted found = absurd cc
set_insert (e ∷ es) fpr x y sorted found =
    (elim (fpr_cmp fpr e.0) as (λ r. fpr_cmp fpr e.0 ≡ r → cond (is_eq r) (Some e.1) (lookup (is_fpr fpr) es) ≡ Some x →
    cond (is_eq r) ((e.0, y) ∷ es) (e ∷ set_value (is_fpr fpr) es y) ≡ match_ordering r ((fpr, y) ∷ e ∷ es)
    ((e.0, y) ∷ es) (e ∷ insert_entry fpr_cmp es fpr y)) [
      | Less ↦ λ less some.
          let absent : lookup (is_fpr fpr) (e ∷ es) ≡ None =
          lookup-none (is_fpr fpr) (e ∷ es) (none_below_head fpr_total fpr e es sorted less) in
          absurd (none_some _ _ absent found)
      | Equal ↦ λ equal some. refl
      | Greater ↦ λ greater some. ap (λ (rest : Entries). e ∷ rest)
          (set_insert es fpr x y (sorted_tail fpr_cmp e.0 (keys_of es) sorted) some)
    ]) refl found

some_found : (o : Option Kept) (x : Kept) → o ≡ Some x → is_some o ≡ true
some_found o x e = ap is_some e

-- The log of what grew goes on.
pub grown_goes_on : (es new : Entries) (log log' : List TheWas) (fpr : Fpr) (x y : Kept) (growth : Growth) (stamp : ℕ) →
    lookup (is_fpr fpr) es ≡ Some x → new ≡ set_value (is_fpr fpr) es y → CertLeadsBack growth x.cert y.cert →
    stamp ≡ x.stamp
    → log' ≡ log ++ record { fpr = fpr; before = Smaller growth stamp } ∷ [] → StillLeadsBack log es log' new
grown_goes_on es new log log' fpr x y growth stamp found n leads s l first led =
    let there : lookup (is_fpr fpr) new ≡ Some y = ap (lookup (is_fpr fpr)) n ∙ set_found es fpr x y found in
    let small : smaller growth stamp y ≡ x = (λ i. record { cert = leads.shrunk i; stamp = s i }) in
    let back : shrunk_found (lookup (is_fpr fpr) new) new fpr growth stamp ≡ es =
    ap (λ (o : Option Kept). shrunk_found o new fpr growth stamp) there ∙ (λ i. set_value (is_fpr fpr) (n i) (small i))
    ∙ set_again es fpr x y found in
    let step : LeadsBack es (record { fpr = fpr; before = Smaller growth stamp }) new = record {
      entries = back;
      present = some_found _ y there;
      may = subst (MayShrink growth) (sym there) (x.cert, leads);
    } in
    subst (λ (ws : List TheWas). IsLog first ws new) (sym l)
    (log_more first log (record { fpr = fpr; before = Smaller growth stamp }) es new led step)

-- replacing something by itself changes nothing
pub set_here : (es : Entries) (fpr : Fpr) (x : Kept) → lookup (is_fpr fpr) es ≡ Some x →
    set_value (is_fpr fpr) es x ≡ es
set_here [] fpr x found = absurd cc
set_here (e ∷ es) fpr x found =
    (elim (is_fpr fpr e.0) as (λ b. cond b (Some e.1) (lookup (is_fpr fpr) es) ≡ Some x →
    cond b ((e.0, x) ∷ es) (e ∷ set_value (is_fpr fpr) es x) ≡ e ∷ es) [
      | true ↦ λ f.
          let same : e.1 ≡ x = cc in
          ap (λ (z : Kept). (e.0, z) ∷ es) (sym same)
      | false ↦ λ f. ap (λ (rest : Entries). e ∷ rest) (set_here es fpr x f)
    ]) found

-- What one of the kept certificates became, among all of them.
pub grown_at : (rows : PolicyRows) (stamp limit : ℕ) (c : Certificate) (es es' : Entries) (fpr : Fpr) (x y : Kept)
    (s : Step)
    → IsStaged rows stamp limit (Some x) c (staged_as y s)
    → Some x ≡ lookup (is_fpr fpr) es → fpr ≡ fpr_of c.key → AreSortedByFpr es → es' ≡ set_value (is_fpr fpr) es y →
    IsMergedAt rows stamp limit c es es' s
grown_at rows stamp limit c es es' fpr x y s staged found e sorted n = record {
  kept = y;
  put = n ∙ set_insert es fpr x y sorted (sym found) ∙ ap (λ (f : Fpr). insert_entry fpr_cmp es f y) e;
  staged =
      subst (λ (o : Option Kept). IsStaged rows stamp limit o c (staged_as y s))
      (found ∙ ap (λ (f : Fpr). lookup (is_fpr f) es) e) staged;
}

none_more : (n m : ℕ) → n ≤ m → 0 + n ≤ m
none_more n m h = omega arith

-- if nothing was asked
pub none_asked : (a u : Certificate) → sound_of a ≤ sound_of u → 0 + sound_of a ≤ sound_of u
none_asked a u h = none_more (sound_of a) (sound_of u) h

pub no_more : (n m : ℕ) → n ≡ m → n ≤ m
no_more n m e = omega arith

less_by : (k f s w v : ℕ) → k + f ≤ s → v + f ≡ w + s → k + w ≤ v
less_by k f s w v h e = omega arith

pub asked_less : (rows : PolicyRows) (stamp : ℕ) (es : Entries) (c : Certificate) (k : ℕ) → AreSortedByFpr es →
    k + found_by sound_of (found_for es c) ≤ sound_of (joined rows (found_for es c) c) →
    k + sound_in es ≤ sound_in (kept_with rows stamp es c)
asked_less rows stamp es c k sorted h =
    less_by k _ _ _ _ h (weighs_by sound_of es (fpr_of c.key) (kept_as rows stamp (found_for es c) c) sorted)

-- What was asked of the one that was found, and of none.
pub asked_found : (rows : PolicyRows) (es : Entries) (c : Certificate) (fpr : Fpr) (x : Kept) (k : ℕ) →
    Some x ≡ lookup (is_fpr fpr) es → fpr ≡ fpr_of c.key → k + sound_of x.cert ≡ sound_of (joined rows (Some x) c) →
    k + found_by sound_of (found_for es c) ≡ sound_of (joined rows (found_for es c) c)
asked_found rows es c fpr x k found e h =
    subst (λ (o : Option Kept). k + found_by sound_of o ≡ sound_of (joined rows o c))
    (found ∙ ap (λ (f : Fpr). lookup (is_fpr f) es) e) h
