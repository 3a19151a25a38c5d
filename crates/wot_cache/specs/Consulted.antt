-- What an engine keeps with its answers: the fingerprints that each was found by. No reply depends on them.
use Rattle.std.specs.Prelude.{ℕ, List, IsSomeAnd}
use Rattle.std.specs.List.{AllByRecursion}
use Rattle.wot_types.specs.declared.fpr.Fpr.{Fpr}
use Rattle.wot_answers.specs.declared.answers.KeptAnswer.{KeptAnswer}
use Rattle.wot_answers.specs.Answers.{Entries, IsAmong, IsFoundBy, OthersKept, RestsOnLeads, WereKeptOr, answers_for}
use Rattle.wot_cache.specs.declared.view.View.{View}
use Rattle.wot_cache.specs.State.{Engine}
use Rattle.wot_cache.specs.Views.{view_at}

-- the answers that are kept for a view, by the keys of their questions; none before its first question
abbrev pub kept_for : Engine → List ℕ → Entries
kept_for engine name = answers_for name engine.answers

-- No answer that is kept for a view depends on more than its search had to look at: each fingerprint that was noted
-- with it led to the target.
abbrev pub AllRestOnLeads : Engine → List ℕ → Type 0
AllRestOnLeads engine name =
    AllByRecursion (λ (e : ℕ × KeptAnswer). RestsOnLeads engine.keyring e.1) (kept_for engine name)

-- this answer is kept for a view
abbrev pub IsKeptFor : Engine → List ℕ → KeptAnswer → Type 0
IsKeptFor engine name kept = IsAmong (kept_for engine name) kept

-- It answers this question from an open view, and was found now: each fingerprint that it depends on leads to the
-- target in the engine's keyring at the view's time, and has the stamp there that was noted.
abbrev pub IsFoundFrom : Engine → List ℕ → Fpr → ℕ → List ℕ → KeptAnswer → Type 0
IsFoundFrom engine name target wanted uid kept =
    IsSomeAnd (view_at engine.views name) (λ (v : View). IsFoundBy engine.keyring target wanted uid v.time kept)

-- What is kept after a question from a view. An answer of the view that wasn't kept before was found now, by what leads
-- to the target. None depends on more than its search had to look at. What is kept for other views is unchanged.
pub record ConsultsLeads (name : List ℕ) (target : Fpr) (wanted : ℕ) (uid : List ℕ) (old new : Engine) : Type 0 where
  pub found : WereKeptOr (IsFoundFrom old name target wanted uid) (kept_for old name) (kept_for new name)
  pub leads : AllRestOnLeads new name
  pub others : OthersKept name old.answers new.answers
