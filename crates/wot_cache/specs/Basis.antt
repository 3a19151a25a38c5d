-- A basis: what the answers to some questions depend on. While it is undisturbed they still hold, so they needn't be
-- asked again.
use Rattle.std.specs.Prelude.{◌≡◌, ◌<◌, ◌≤◌, ◌⊎◌, ℕ, Bool, true, false, List, [], Option, None}
use Rattle.std.specs.List.{AllByRecursion, list_any}
use Rattle.wot_types.specs.declared.fpr.Fpr.{Fpr}
use Rattle.wot_edge.specs.declared.path.Path.{Path}
use Rattle.wot_edge.specs.Answer.{IsAnswer, amount_of}
use Rattle.wot_edge.specs.Path.{Question, asks}
use Rattle.wot_keyring_spec.specs.Keyring.{Keyring, certificates_in, is_fpr, stamp_at}
use Rattle.wot_keyring_spec.specs.Later.{IsUnaltered}
use Rattle.wot_index.specs.Log.{Logged, is_listed}
use Rattle.wot_network.specs.Records.{record_of}
use Rattle.wot_answers.specs.declared.looked.Looked.{Looked}
use Rattle.wot_answers.specs.declared.asked.Asked.{Asked}
use Rattle.wot_cache.specs.declared.view.View.{View}
use Rattle.wot_cache.specs.Question.{OfQuestion}
use Rattle.wot_cache.specs.State.{Engine}
use Rattle.wot_cache.specs.Revisions.{IsOneClosing, IsOneRevision, Revisions}
use Rattle.wot_cache.specs.Views.{Views, is_name, view_at}

-- the counts of changes and of revisions at which the answers were found, the fingerprints that they depend on, and
-- whether one of them depends on the whole keyring
pub record Basis : Type 0 where
  pub changes : ℕ
  pub revisions : ℕ
  pub fprs : List Fpr
  pub whole : Bool

-- the basis of no answers, at the current counts
abbrev pub empty_at : Engine → Basis
empty_at engine =
    record { changes = engine.keyring.changes; revisions = engine.revisions.count; fprs = []; whole = false }

-- its counts are the current ones
pub record IsPresent (engine : Engine) (basis : Basis) : Type 0 where
  pub changes : basis.changes ≡ engine.keyring.changes
  pub revisions : basis.revisions ≡ engine.revisions.count

-- whether the basis has a fingerprint
abbrev pub is_in : Fpr → List Fpr → Bool
is_in fpr fprs = list_any (is_fpr fpr) fprs

-- the second list has all members of the first
abbrev pub Includes : List Fpr → List Fpr → Type 0
Includes old new = (fpr : Fpr) → is_in fpr old ≡ true → is_in fpr new ≡ true

-- all fingerprints that were consulted are in the list
abbrev pub AllIn : List Fpr → List Looked → Type 0
AllIn fprs looked = AllByRecursion (λ (l : Looked). is_in l.fpr fprs ≡ true) looked

-- none of the list's members is in the log of changes
abbrev pub IsFreeOf : List Fpr → Logged → Type 0
IsFreeOf fprs changed = (fpr : Fpr) → is_in fpr fprs ≡ true → is_listed fpr changed ≡ false

-- the new basis has the old counts and everything that the old one depends on
pub record HasGrown (old new : Basis) : Type 0 where
  pub changes : new.changes ≡ old.changes
  pub revisions : new.revisions ≡ old.revisions
  pub fprs : Includes old.fprs new.fprs
  pub whole : old.whole ≡ true → new.whole ≡ true

-- ---- how an engine develops

-- A fingerprint is unaltered, or it has a stamp that was never given before.
abbrev pub IsKeptAt : Keyring → Keyring → Fpr → Type 0
IsKeptAt old new fpr = IsUnaltered old new fpr ⊎ (old.changes < stamp_at new fpr)

-- The count of changes doesn't fall and no certificate is removed. If the count is unchanged, so is the keyring.
pub record IsKeyringOn (old new : Keyring) : Type 0 where
  pub counted : old.changes ≤ new.changes
  pub at : (fpr : Fpr) → IsKeptAt old new fpr
  pub same : new.changes ≡ old.changes → new ≡ old

-- the view is unchanged, or closed
abbrev pub IsSameOrClosed : Option View → Option View → Type 0
IsSameOrClosed old new = (new ≡ old) ⊎ (new ≡ None)

-- The count of revisions doesn't fall. If it is unchanged, each view is unchanged or closed.
pub record AreViewsOn (old : Views) (before : Revisions) (new : Views) (after : Revisions) : Type 0 where
  pub counted : before.count ≤ after.count
  pub each : after.count ≡ before.count → (name : List ℕ) → IsSameOrClosed (view_at old name) (view_at new name)

-- the engine after any number of lines that remove no certificate
pub record IsKeptOn (old new : Engine) : Type 0 where
  pub keyring : IsKeyringOn old.keyring new.keyring
  pub views : AreViewsOn old.views old.revisions new.views new.revisions

-- all other views are unchanged
abbrev pub OtherViewsStay : List ℕ → Views → Views → Type 0
OtherViewsStay name old new = (other : List ℕ) → is_name name other ≡ false → view_at new other ≡ view_at old other

-- ---- what depends on a basis

-- no member's stamp is above the count
abbrev pub AreCalm : Keyring → ℕ → List Fpr → Type 0
AreCalm k count fprs = (fpr : Fpr) → is_in fpr fprs ≡ true → stamp_at k fpr ≤ count

-- nothing that the answers depend on was altered since
pub record IsUndisturbed (later : Engine) (basis : Basis) : Type 0 where
  pub revisions : later.revisions.count ≡ basis.revisions
  pub calm : AreCalm later.keyring basis.changes basis.fprs
  pub whole : basis.whole ≡ true → later.keyring.changes ≡ basis.changes

-- the amount of the answer to this question
abbrev pub HasAmount : ℕ → ℕ → Question → Type 0
HasAmount wanted amount q = (paths : List Path) × IsAnswer q wanted paths × (amount ≡ amount_of paths)

-- the question in this keyring, from a view
abbrev pub question_on : Keyring → View → Fpr → List ℕ → Question
question_on k view target uid = asks (record_of (certificates_in k) k.verdicts view.time uid) view.roots target

-- This is the amount of the answer from a view, as long as no member's stamp is above the count.
abbrev pub RestsAt : Keyring → ℕ → List Fpr → View → Fpr → ℕ → List ℕ → ℕ → Type 0
RestsAt k count fprs view target wanted uid amount =
    (later : Keyring) → IsKeyringOn k later → AreCalm later count fprs
    → HasAmount wanted amount (question_on later view target uid)

-- the amount of what is asked depends on these fingerprints from now on
abbrev pub IsKeptSum : Keyring → List Fpr → View → Asked → ℕ → Type 0
IsKeptSum k fprs view asked amount = RestsAt k k.changes fprs view asked.target.now asked.wanted asked.uid.now amount

-- This is the amount of the answer from the named view as long as the view is open and the basis undisturbed, however
-- the engine develops.
abbrev pub RestsOn : Engine → Basis → List ℕ → Fpr → ℕ → List ℕ → ℕ → Type 0
RestsOn engine basis name target wanted uid amount =
    (later : Engine) → IsKeptOn engine later → IsUndisturbed later basis
    → OfQuestion later name target uid (HasAmount wanted amount)

-- This is the sum of what is asked from a view, and it depends on the basis.
pub record IsRested (engine : Engine) (name : List ℕ) (asked : Asked) (basis : Basis) (amount : ℕ) : Type 0 where
  pub sum : OfQuestion engine name asked.target.now asked.uid.now (HasAmount asked.wanted amount)
  pub rests : RestsOn engine basis name asked.target.now asked.wanted asked.uid.now amount

-- every answer that depends on the old basis depends on the new one, however the engine develops
abbrev pub CarriesOn : Engine → Basis → Basis → Type 0
CarriesOn engine old new = (later : Engine) → IsKeptOn engine later → IsUndisturbed later new → IsUndisturbed later old

-- ---- laws

-- An answer that depends on a basis still depends on it after the basis grows.
abbrev pub RestsOnMore : Type 0
RestsOnMore =
    (engine : Engine) (old new : Basis) (name : List ℕ) (target : Fpr) (wanted : ℕ) (uid : List ℕ) (amount : ℕ)
    → HasGrown old new → RestsOn engine old name target wanted uid amount
    → RestsOn engine new name target wanted uid amount

-- An answer that depends on a basis still does in every later engine.
abbrev pub RestsOnLater : Type 0
RestsOnLater =
    (old new : Engine) (basis : Basis) (name : List ℕ) (target : Fpr) (wanted : ℕ) (uid : List ℕ) (amount : ℕ)
    → IsKeptOn old new → RestsOn old basis name target wanted uid amount
    → RestsOn new basis name target wanted uid amount

-- A view that is opened or changed gets a revision.
abbrev pub RevisionGoesOn : Type 0
RevisionGoesOn =
    (name : List ℕ) (old new : Views) (before after : Revisions) → OtherViewsStay name old new
    → IsOneRevision name old before new after → AreViewsOn old before new after

-- A view that is closed is no longer open.
abbrev pub ClosingGoesOn : Type 0
ClosingGoesOn =
    (name : List ℕ) (old new : Views) (before after : Revisions) → OtherViewsStay name old new
    → view_at new name ≡ None → IsOneClosing name old before new after → AreViewsOn old before new after
