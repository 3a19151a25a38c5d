-- Undoing a log leads back to the first entries.
use Rattle.std.proofs.Common.{◌≡◌, true, cond, List, [], ◌∷◌, ◌++◌, Option, Some, None, is_some, refl, sym, ap, ◌∙◌}
use Rattle.std.proofs.Common.{subst}
use Rattle.std.specs.declared.cmp.Ordering.TheVariants.{Less, Equal, Greater}
use Rattle.std.specs.Ordering.{is_eq, match_ordering}
use Rattle.std.specs.BTreeMap.{insert_entry}
use Rattle.std.specs.Map.{lookup, remove_entry, keys_of}
use Rattle.std.proofs.lemmas.Map.{lookup-none}
use Rattle.std.proofs.lemmas.Map.Entries.{none_below_head}
use Rattle.std.proofs.lemmas.Map.Keys.{sorted_tail}
use Rattle.std.proofs.lemmas.Cmp.{tied_itself}
use Rattle.wot_types.specs.declared.fpr.Fpr.{Fpr}
use Rattle.wot_types.specs.Fpr.{fpr_cmp}
use Rattle.wot_types.specs.FprLaws.{fpr_total}
use Rattle.wot_keyring_spec.specs.declared.kept.Kept.{Kept}
use Rattle.wot_merge.specs.declared.undo.Before.TheVariants.{Was}
use Rattle.wot_merge.specs.declared.undo.Was.{Was as TheWas}
use Rattle.wot_keyring_spec.specs.Keyring.{Entries, is_fpr}
use Rattle.wot_keyring_spec.specs.Kept.{AreSortedByFpr}
use Rattle.wot_merge.specs.Staging.{back, LeadsBack, IsLog, StillLeadsBack}

-- the last step of a log
pub log_more : (first : Entries) (ws : List TheWas) (w : TheWas) (es es' : Entries) → IsLog first ws es →
    LeadsBack es w es' → IsLog first (ws ++ w ∷ []) es'
log_more first [] w es es' log step = (es', subst (λ (x : Entries). LeadsBack x w es') log step, refl)
log_more first (v ∷ ws) w es es' log step = (log.0, log.1, log_more log.0 ws w es es' log.2 step)

pub log_less : (first : Entries) (ws : List TheWas) (w : TheWas) (es' : Entries) → IsLog first (ws ++ w ∷ []) es' →
    (es : Entries) × LeadsBack es w es' × IsLog first ws es
log_less first [] w es' log = (first, subst (λ (x : Entries). LeadsBack first w x) (sym log.2) log.1, refl)
log_less first (v ∷ ws) w es' log =
    let found = log_less log.0 ws w es' log.2 in
    (found.0, found.1, (log.0, log.1, found.2))

-- ---- one step back

same_place : (fpr : Fpr) → fpr_cmp fpr fpr ≡ Equal
same_place fpr = tied_itself fpr_total fpr

-- a certificate that was inserted is found
pub put_found : (es : Entries) (fpr : Fpr) (kept : Kept) →
    is_some (lookup (is_fpr fpr) (insert_entry fpr_cmp es fpr kept)) ≡ true
put_found [] fpr kept = ap (λ r. is_some (cond (is_eq r) (Some kept) None)) (same_place fpr)
put_found (e ∷ es) fpr kept =
    elim (fpr_cmp fpr e.0) as (λ r. fpr_cmp fpr e.0 ≡ r →
    is_some (lookup (is_fpr fpr) (match_ordering r ((fpr, kept) ∷ e ∷ es) ((e.0, kept) ∷ es)
    (e ∷ insert_entry fpr_cmp es fpr kept))) ≡ true) [
      | Less ↦ λ less. ap (λ r. is_some (cond (is_eq r) (Some kept) (lookup (is_fpr fpr) (e ∷ es)))) (same_place fpr)
      | Equal ↦ λ equal. ap (λ r. is_some (cond (is_eq r) (Some kept) (lookup (is_fpr fpr) es))) equal
      | Greater ↦ λ greater. ap
          (λ r. is_some (cond (is_eq r) (Some e.1) (lookup (is_fpr fpr) (insert_entry fpr_cmp es fpr kept)))) greater
          ∙ put_found es fpr kept
    ] refl

-- what was inserted where nothing was is removed
out_again : (es : Entries) (fpr : Fpr) (kept : Kept) → lookup (is_fpr fpr) es ≡ None →
    remove_entry (is_fpr fpr) (insert_entry fpr_cmp es fpr kept) ≡ es
out_again [] fpr kept absent = ap (λ r. cond (is_eq r) [] ((fpr, kept) ∷ [])) (same_place fpr)
out_again (e ∷ es) fpr kept absent =
    (elim (fpr_cmp fpr e.0) as (λ r. fpr_cmp fpr e.0 ≡ r → cond (is_eq r) (Some e.1) (lookup (is_fpr fpr) es) ≡ None →
    remove_entry (is_fpr fpr) (match_ordering r ((fpr, kept) ∷ e ∷ es) ((e.0, kept) ∷ es)
    (e ∷ insert_entry fpr_cmp es fpr kept)) ≡ e ∷ es) [
      | Less ↦ λ less none. ap (λ r. cond (is_eq r) (e ∷ es) ((fpr, kept) ∷ remove_entry (is_fpr fpr) (e ∷ es)))
          (same_place fpr)
      | Equal ↦ λ equal none. absurd cc
      | Greater ↦ λ greater none. ap (λ r. cond (is_eq r) (insert_entry fpr_cmp es fpr kept)
          (e ∷ remove_entry (is_fpr fpr) (insert_entry fpr_cmp es fpr kept))) greater
          ∙ ap (λ (rest : Entries). e ∷ rest) (out_again es fpr kept none)
    ]) refl absent

-- what replaced something is replaced by it again
place_again : (es : Entries) (fpr : Fpr) (kept old : Kept) → AreSortedByFpr es → lookup (is_fpr fpr) es ≡ Some old →
    insert_entry fpr_cmp (insert_entry fpr_cmp es fpr kept) fpr old ≡ es
place_again [] fpr kept old sorted found = absurd cc
place_again (e ∷ es) fpr kept old sorted found =
    (elim (fpr_cmp fpr e.0) as (λ r. fpr_cmp fpr e.0 ≡ r → cond (is_eq r) (Some e.1) (lookup (is_fpr fpr) es) ≡ Some
    old → insert_entry fpr_cmp (match_ordering r ((fpr, kept) ∷ e ∷ es) ((e.0, kept) ∷ es)
    (e ∷ insert_entry fpr_cmp es fpr kept)) fpr old ≡ e ∷ es) [
      | Less ↦ λ less some.
          let absent : lookup (is_fpr fpr) (e ∷ es) ≡ None =
          lookup-none (is_fpr fpr) (e ∷ es) (none_below_head fpr_total fpr e es sorted less) in
          absurd (none_some _ _ absent found)
      | Equal ↦ λ equal some.
          let same : e.1 ≡ old = cc in
          ap (λ r. match_ordering r ((fpr, old) ∷ (e.0, kept) ∷ es) ((e.0, old) ∷ es)
          ((e.0, kept) ∷ insert_entry fpr_cmp es fpr old)) equal ∙ ap (λ (x : Kept). (e.0, x) ∷ es) (sym same)
      | Greater ↦ λ greater some.
          ap (λ r. match_ordering r ((fpr, old) ∷ e ∷ insert_entry fpr_cmp es fpr kept)
          ((e.0, old) ∷ insert_entry fpr_cmp es fpr kept)
          (e ∷ insert_entry fpr_cmp (insert_entry fpr_cmp es fpr kept) fpr old)) greater
          ∙ ap (λ (rest : Entries). e ∷ rest) (place_again es fpr kept old (sorted_tail fpr_cmp e.0 (keys_of es) sorted)
          some)
    ]) refl found
  where
    none_some : (o : Option Kept) (x : Kept) → o ≡ None → o ≡ Some x → ⊥
    none_some o x p q = cc

-- What was kept under a fingerprint undoes its replacement.
pub leads_back : (es : Entries) (fpr : Fpr) (kept : Kept) → AreSortedByFpr es →
    LeadsBack es (record { fpr = fpr; before = Was (lookup (is_fpr fpr) es) }) (insert_entry fpr_cmp es fpr kept)
leads_back es fpr kept sorted = record {
  entries = (elim (lookup (is_fpr fpr) es) as (λ (o : Option Kept). lookup (is_fpr fpr) es ≡ o →
      back (insert_entry fpr_cmp es fpr kept) fpr (Was o) ≡ es) [
        | None ↦ λ absent. out_again es fpr kept absent
        | Some old ↦ λ found. place_again es fpr kept old sorted found
      ]) refl;
  present = put_found es fpr kept;
  may = tt;
}

-- The log goes on.
pub log_goes_on : (es new : Entries) (log log' : List TheWas) (fpr : Fpr) (kept : Kept) (was : Option Kept) →
    AreSortedByFpr es → was ≡ lookup (is_fpr fpr) es → new ≡ insert_entry fpr_cmp es fpr kept →
    log' ≡ log ++ record { fpr = fpr; before = Was was } ∷ [] → StillLeadsBack log es log' new
log_goes_on es new log log' fpr kept was sorted w n l first leads =
    let step : LeadsBack es (record { fpr = fpr; before = Was was }) new =
    subst (λ (o : Option Kept). LeadsBack es (record { fpr = fpr; before = Was o }) new) (sym w)
    (subst (λ (x : Entries). LeadsBack es (record { fpr = fpr; before = Was (lookup (is_fpr fpr) es) }) x) (sym n)
    (leads_back es fpr kept sorted)) in
    subst (λ (x : List TheWas). IsLog first x new) (sym l) (log_more first log (record { fpr = fpr; before = Was was })
    es new leads step)

pub led_back : (first es mid : Entries) (ws log : List TheWas) (w : TheWas) → log ≡ ws ++ w ∷ [] → IsLog first log es →
    ((start : Entries) → LeadsBack start w es → mid ≡ start) → IsLog first ws mid
led_back first es mid ws log w e leads step =
    let found = log_less first ws w es (subst (λ (l : List TheWas). IsLog first l es) e leads) in
    subst (λ (x : Entries). IsLog first ws x) (sym (step found.0 found.1)) found.2
