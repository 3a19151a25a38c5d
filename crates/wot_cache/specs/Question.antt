-- The question from a view. What is claimed of its answer is said in wot_answers.
use Rattle.std.specs.Prelude.{ℕ, List, IfSome}
use Rattle.wot_types.specs.declared.fpr.Fpr.{Fpr}
use Rattle.wot_edge.specs.Path.{Question, asks}
use Rattle.wot_keyring_spec.specs.Keyring.{Keyring, certificates_in}
use Rattle.wot_network.specs.Local.{IsLocal}
use Rattle.wot_network.specs.Net.{Present, network_for}
use Rattle.wot_network.specs.Records.{record_of}
use Rattle.wot_cache.specs.declared.view.View.{View}
use Rattle.wot_cache.specs.State.{Engine, State, state_of}
use Rattle.wot_cache.specs.Views.{view_at}
pub use Rattle.wot_answers.specs.Question.{AreWithinRoots, IsAnswerAround, IsOnlyAnswer, IsTold, TellsSpent}
pub use Rattle.wot_answers.specs.Question.{asked_of, asked_over, present_in}

-- The question with which confidence a user ID belongs to the target, from a view: over the certification network of
-- the current certificates and verdicts at the view's time, from the view's roots.
abbrev pub question_in : State → View → Fpr → List ℕ → Question
question_in s view target uid = asks (record_of s.held.certs s.held.verdicts view.time uid) view.roots target

-- P holds of the question from this view, if it is open
abbrev pub OfQuestion : Engine → List ℕ → Fpr → List ℕ → (Question → Type 0) → Type 0
OfQuestion engine name target uid P =
    IfSome (view_at engine.views name) (λ (v : View). P (question_in (state_of engine) v target uid))

-- the network that the roads show is that of the keyring's certificates and verdicts at a time, and each part of it
-- depends on a few of them
abbrev pub IsLocalTo : Keyring → ℕ → Present → Type 0
IsLocalTo k t p = IsLocal (certificates_in k) k.verdicts t (network_for p)
