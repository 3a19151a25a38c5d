-- The state after a change of the keyring.
use Rattle.std.proofs.Common.{◌≡◌, ℕ, Bool, List, Result, Ok, Err, OnOk, refl, sym, ap, subst}
use Rattle.std.specs.Fn.{Shared}
use Rattle.std.proofs.lemmas.Map.Made.{lookup-map_values}
use Rattle.wot_types.specs.declared.fpr.Fpr.{Fpr}
use Rattle.wot_policy.specs.declared.policy.Policy.{Policy}
use Rattle.wot_policy.specs.declared.rows.Ask.{Ask}
use Rattle.wot_policy.specs.declared.rows.PolicyRows.{PolicyRows}
use Rattle.wot_keyring_spec.specs.declared.kept.Kept.{Kept}
use Rattle.wot_keyring_spec.specs.Held.{Held, held_of, cert_in}
use Rattle.wot_keyring_spec.specs.Import.{IsOneChange, imported, importing}
use Rattle.wot_keyring_spec.specs.Judging.{IsJudging}
use Rattle.wot_keyring_spec.specs.Keyring.{Keyring, cert_at, is_fpr}
use Rattle.wot_answers.specs.Answers.{AllAnswers}
use Rattle.wot_cache.specs.Changes.{ChangesKeyring, IsImported}
use Rattle.wot_cache.specs.Inside.{Networks}
use Rattle.wot_cache.specs.Marks.{shown}
use Rattle.wot_cache.specs.Views.{Views}
use Rattle.wot_cache.specs.Dump.{engine_of}
use Rattle.wot_cache.specs.State.{Engine, State, ViewMarks, state_of, with_held}
use Rattle.wot_cache.specs.Revisions.{Revisions}

pub found : (k : Keyring) (fpr : Fpr) → cert_at k fpr ≡ cert_in (held_of k) fpr
found k fpr = sym (lookup-map_values (λ (x : Kept). x.cert) (is_fpr fpr) k.certs)

-- a change of what is held is the change of the state; the views stay
pub held_state : {A E : Type 0} {marks : ViewMarks} {revisions : Revisions} {answers : AllAnswers} (result : Result A E)
    (old : Engine) (k new : Keyring) (views : Views) (change : Held → Held)
    → record { keyring = k; views = views; marks = marks; revisions = revisions; answers = answers } ≡ old →
    OnOk result (held_of new ≡ change (held_of k)) →
    OnOk result (state_of (engine_of new views) ≡ with_held (state_of old) (change (held_of old.keyring)))
held_state (Ok done) old k new views change seen held =
    rw (← seen) (ap (λ (h : Held). record { held = h; views = views }) held)
held_state (Err fault) old k new views change seen held = held

-- a change of the keyring alone
pub changes_keyring : {revisions : Revisions} {answers : AllAnswers} (old : Engine) (k new : Keyring) (views : Views)
    (networks : Networks) → shown k views networks revisions answers ≡ old → IsOneChange k new → new.limits ≡ k.limits
    → ChangesKeyring old (shown new views networks revisions answers)
changes_keyring {revisions = revisions} {answers = answers} old k new views networks seen counted limits =
    subst (λ (e : Engine). ChangesKeyring e (shown new views networks revisions answers)) seen
    (record { counted = counted; limits = limits; views = refl; marks = refl; revisions = refl; answers = refl })

-- the state with this held, and these views
abbrev with_views : Views → Held → State
with_views views held = record { held = held; views = views }

-- an import into the keyring
pub imported_into : {A E : Type 0} {revisions : Revisions} {answers : AllAnswers} (result : Result A E) (old : Engine)
    (k new : Keyring) (views : Views) (networks : Networks) (rows : PolicyRows) (octets : List ℕ)
    → shown k views networks revisions answers ≡ old → OnOk result (new ≡ imported rows k octets)
    → OnOk result (held_of new ≡ importing rows octets (held_of k))
    → OnOk result (IsImported rows octets old (shown new views networks revisions answers))
imported_into {revisions = revisions} {answers = answers} (Ok done) old k new views networks rows octets seen put held =
    subst (λ (e : Engine). IsImported rows octets e (shown new views networks revisions answers)) seen
    (record { keyring = put; state = ap (with_views views) held })
imported_into {revisions = revisions} {answers = answers} (Err fault) old k new views networks rows octets seen put held = tt

-- what the engine's keyring is judged by, its own keyring is
pub judging_inside : {F : Type 0} {revisions : Revisions} {answers : AllAnswers} (calls : Shared F (Ask × Unit {0}) Bool)
    (policy : Policy F) (old : Engine) (k : Keyring) (views : Views) (networks : Networks)
    → shown k views networks revisions answers ≡ old → IsJudging calls policy old.keyring → IsJudging calls policy k
judging_inside calls policy old k views networks seen judging =
    subst (λ (e : Engine). IsJudging calls policy e.keyring) (sym seen) judging
