-- The state: what lasts from one line to the next, and how it changes.
use Rattle.std.specs.Prelude.{◌≡◌, ℕ, false, List, []}
use Rattle.std.specs.List.{AllByRecursion}
use Rattle.std.specs.Map.{lookup}
use Rattle.std.specs.Option.{unwrap_or}
use Rattle.wot_types.specs.declared.fpr.Fpr.{Fpr}
use Rattle.wot_types.specs.declared.limits.Limits.{Limits}
use Rattle.wot_key.specs.Key.{fpr_of}
use Rattle.wot_component.specs.Certificate.{Certificate}
use Rattle.wot_keyring_spec.specs.Held.{Held, nothing, held_of}
use Rattle.wot_keyring_spec.specs.Keyring.{Keyring}
use Rattle.wot_keyring_spec.specs.Keyring as keyrings
use Rattle.wot_network.specs.Net.{Marks}
use Rattle.wot_answers.specs.Answers.{AllAnswers}
use Rattle.wot_cache.specs.Revisions.{Revisions, no_revisions}
use Rattle.wot_cache.specs.Views.{Views, is_name, with_time, with_root, without_view}

-- What is held, and the open views by name. Stamps, counts of changes and cached policy rows aren't part of it, since
-- no answer depends on them.
pub record State : Type 0 where
  pub held : Held
  pub views : Views

-- the state before the first line
abbrev pub start : State
start = record { held = nothing; views = [] }

-- a well-formed state: each certificate is filed under the fingerprint of its primary key
abbrev pub IsState : State → Type 0
IsState s = AllByRecursion (λ (e : Fpr × Certificate). e.0 ≡ fpr_of e.1.key) s.held.certs

-- ---- changes

-- the state with what is held replaced
abbrev pub with_held : State → Held → State
with_held s held = record s { held = held }

-- the state with a view open at this time
abbrev pub timing : List ℕ → ℕ → State → State
timing view t s = record s { views = with_time s.views view t }

-- the state with this root amount in a view
abbrev pub rooting : List ℕ → Fpr → ℕ → State → State
rooting view fpr amount s = record s { views = with_root s.views view fpr amount }

-- the state without a view
abbrev pub closing : List ℕ → State → State
closing view s = record s { views = without_view s.views view }

-- ---- engines

-- marks by view name
abbrev pub ViewMarks : Type 0
ViewMarks = List (List ℕ × Marks)

-- what contracts see of an engine: its keyring, its views, the marks and the kept answers of each view that was asked
-- something, and revisions
pub record Engine : Type 0 where
  pub keyring : Keyring
  pub views : Views
  pub marks : ViewMarks
  pub revisions : Revisions
  pub answers : AllAnswers

-- an empty engine
abbrev pub empty : Limits → Engine
empty limits =
    record { keyring = keyrings.empty limits; views = []; marks = []; revisions = no_revisions; answers = [] }

-- the marks of a view
abbrev pub marks_at : Engine → List ℕ → Marks
marks_at engine name = unwrap_or (lookup (is_name name) engine.marks) []

-- the state of an engine
abbrev pub state_of : Engine → State
state_of engine = record { held = held_of engine.keyring; views = engine.views }

-- All but the marks and the kept answers is unchanged: certificates with their stamps of admission, verdicts, the count
-- of changes, and the open views with their times, roots and revisions.
pub record StaysButMarks (old new : Engine) : Type 0 where
  pub keyring : new.keyring ≡ old.keyring
  pub views : new.views ≡ old.views
  pub revisions : new.revisions ≡ old.revisions

-- the marks of other views are unchanged
abbrev pub OtherMarksStay : List ℕ → Engine → Engine → Type 0
OtherMarksStay name old new = (other : List ℕ) → is_name name other ≡ false → marks_at new other ≡ marks_at old other

-- what is held changes so; the views stay
abbrev pub IsStateAfter : (Held → Held) → Engine → Engine → Type 0
IsStateAfter change old new = state_of new ≡ with_held (state_of old) (change (held_of old.keyring))
