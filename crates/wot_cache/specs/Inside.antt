-- What holds of every engine: its keyring, its views, and the networks that it keeps for them.
use Rattle.std.specs.Prelude.{◌≡◌, ℕ, List, Option, None, IsSomeAnd}
use Rattle.std.specs.List.{AllByRecursion}
use Rattle.std.specs.Map.{lookup}
use Rattle.wot_keyring_spec.specs.Keyring.{Keyring}
use Rattle.wot_keyring_spec.specs.Kept.{AreSmall}
use Rattle.wot_keyring_spec.specs.Later.{IsLater}
use Rattle.wot_network.specs.Net.{Net, Fits, IsRight}
use Rattle.wot_cache.specs.declared.view.View.{View}
use Rattle.wot_answers.specs.Answers.{AllAnswers, AreAllRight}
use Rattle.wot_cache.specs.Revisions.{Revisions, AreRevisionsOf}
use Rattle.wot_cache.specs.Views.{Views, AreWithinLimits, is_name, view_at}

-- networks by view name
abbrev pub Networks : Type 0
Networks = List (List ℕ × Net)

abbrev pub AllFit : Networks → Keyring → Type 0
AllFit networks k = AllByRecursion (λ (e : List ℕ × Net). Fits e.1 k) networks

-- the law that a network fits each later keyring
abbrev pub FitLater : Type 0
FitLater = (n : Net) (old new : Keyring) → Fits n old → IsLater old new → Fits n new

-- the network of a view
abbrev pub network_at : Networks → List ℕ → Option Net
network_at networks name = lookup (is_name name) networks

-- only open views have an entry
abbrev pub AreOfOpen : {X : Type 0} → Views → List (List ℕ × X) → Type 0
AreOfOpen views kept = (name : List ℕ) → view_at views name ≡ None → lookup (is_name name) kept ≡ None

pub record IsEngine (k : Keyring) (views : Views) (networks : Networks) (answers : AllAnswers) (revisions : Revisions)
    : Type 0 where
  pub small : AreSmall k.limits
  pub within : AreWithinLimits k.limits views
  pub fit : AllFit networks k
  pub of_open : AreOfOpen views networks
  pub answered : AreOfOpen views answers
  pub right : AreAllRight k answers
  pub turned : AreRevisionsOf views revisions

-- the view is open and its network is up to date: it is for the current keyring at the view's time
abbrev pub IsReady : Keyring → Views → Networks → List ℕ → Type 0
IsReady k views networks name =
    IsSomeAnd (view_at views name) (λ (v : View).
    IsSomeAnd (network_at networks name) (λ (n : Net). IsRight n k v.time))
