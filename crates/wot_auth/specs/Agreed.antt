-- What an answer depends on.
use Rattle.std.specs.Prelude.{◌≡◌, ℕ, List}
use Rattle.wot_types.specs.declared.fpr.Fpr.{Fpr}
use Rattle.wot_edge.specs.declared.path.Path.{Path}
use Rattle.wot_edge.specs.Agree.{Agree}
use Rattle.wot_edge.specs.Answer.{IsAnswer}
use Rattle.wot_edge.specs.Path.{Question}
use Rattle.wot_edge.specs.Record.{Has, IsRecord}
use Rattle.wot_search.specs.Asked.{HasAll}
use Rattle.wot_first_path.specs.Looked.{Widens}
use Rattle.wot_reach.specs.Reach.{Table}
use Rattle.wot_auth.specs.declared.answer.Answer.{Answer}

-- there is no other answer
abbrev pub IsOnlyAnswer : Question → ℕ → Answer → Type 0
IsOnlyAnswer q wanted answer = (paths : List Path) → IsAnswer q wanted paths → paths ≡ answer.paths

-- the answer to every question that agrees with this one on a set
abbrev pub IsAnswerOfAgreeing : Question → ℕ → List Fpr → Answer → Type 0
IsAnswerOfAgreeing q wanted set answer = (other : Question) → Agree q other set → IsAnswer other wanted answer.paths

-- the only one for each such question of a lawful record
abbrev pub IsOnlyOfAgreeing : Question → ℕ → List Fpr → Answer → Type 0
IsOnlyOfAgreeing q wanted set answer =
    (other : Question) → Agree q other set → IsRecord other.network → IsOnlyAnswer other wanted answer

-- if the reach leaves nothing out, the answer to every question that agrees with this one on a set that contains what
-- was noted
abbrev pub IsAnswerLocally : Table → Question → ℕ → (Fpr → Type 0) → Answer → Type 0
IsAnswerLocally reach q wanted noted answer =
    HasAll reach → (set : List Fpr) → Widens noted (Has set) → IsAnswerOfAgreeing q wanted set answer
