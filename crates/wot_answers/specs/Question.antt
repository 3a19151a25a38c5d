-- The question over the parts of a view, and what is claimed of its answer.
use Rattle.std.specs.Prelude.{◌≡◌, ◌≤◌, ◌↔◌, ℕ, List, []}
use Rattle.wot_types.specs.declared.fpr.Fpr.{Fpr}
use Rattle.wot_edge.specs.declared.path.Path.{Path}
use Rattle.wot_edge.specs.Answer.{IsAnswer, amount_of}
use Rattle.wot_edge.specs.Path.{Question, asks, use_of, IsSpent}
use Rattle.wot_edge.specs.Roots.{root_amount}
use Rattle.wot_network.specs.Net.{Present, network_for}
use Rattle.wot_auth.specs.declared.answer.Answer.{Answer}
use Rattle.wot_edge.specs.Agree.{Agree}
use Rattle.wot_edge.specs.Capacity.{AllFit}
use Rattle.wot_answers.specs.declared.parts.Parts.{Parts}

-- the question over these roads, from these roots
abbrev pub asked_over : Present → List (Fpr × ℕ) → Fpr → List ℕ → Question
asked_over p roots target uid = asks (network_for p uid) roots target

-- the keyring and the time of the parts
abbrev pub present_in : Parts → Present
present_in p = record { keyring = p.keyring.now; time = p.t }

-- the question over the parts
abbrev pub asked_of : Parts → Fpr → List ℕ → Question
asked_of p target uid = asked_over (present_in p) p.roots.now target uid

-- ---- answers

-- no other list of paths is an answer
abbrev pub IsOnlyAnswer : Question → ℕ → List Path → Type 0
IsOnlyAnswer q wanted paths = (others : List Path) → IsAnswer q wanted others → others ≡ paths

-- The amount is 0 exactly if no valid path of positive amount exists.
abbrev pub TellsSpent : Question → ℕ → Type 0
TellsSpent q amount = (amount ≡ 0) ↔ IsSpent q (use_of [])

-- all paths together take from each root at most its amount
abbrev pub AreWithinRoots : List (Fpr × ℕ) → List Path → Type 0
AreWithinRoots roots paths = (fpr : Fpr) → (use_of paths).root fpr ≤ root_amount roots fpr

-- everything that is claimed of an answer
pub record IsTold (q : Question) (wanted : ℕ) (a : Answer) : Type 0 where
  pub answer : IsAnswer q wanted a.paths
  pub one : IsOnlyAnswer q wanted a.paths
  pub sum : a.sum ≡ amount_of a.paths
  pub zero : TellsSpent q a.sum
  pub pairs : AllFit [] a.paths
  pub roots : AreWithinRoots q.roots a.paths

-- these paths answer every question that agrees with this one on the set
abbrev pub IsAnswerAround : Question → ℕ → List Path → List Fpr → Type 0
IsAnswerAround q wanted paths set = (other : Question) → Agree q other set → IsAnswer other wanted paths
