-- What is claimed of an answer follows from what a search promises.
use Rattle.std.proofs.Common.{◌≡◌, ℕ, ◌≤◌, List, [], sym, subst}
use Rattle.std.proofs.Common.{◌∙◌}
use Rattle.wot_types.specs.declared.fpr.Fpr.{Fpr}
use Rattle.wot_edge.specs.declared.path.Path.{Path}
use Rattle.wot_edge.specs.Answer.{EachNext, IsAnswer, amount_of}
use Rattle.wot_edge.specs.Capacity.{AllFit}
use Rattle.wot_edge.specs.Path.{Question, use_of}
use Rattle.wot_edge.specs.Record.{IsRecord}
use Rattle.wot_edge.specs.Roots.{root_amount}
use Rattle.wot_auth.specs.declared.answer.Answer.{Answer}
use Rattle.wot_network.specs.Net.{Present}
use Rattle.wot_network.specs.Roads.{present_of}
use Rattle.wot_answers.specs.declared.asked.Asked.{Asked}
use Rattle.wot_answers.specs.declared.parts.Parts.{Parts}
use Rattle.wot_answers.specs.Asked.{IsAnswered}
use Rattle.wot_answers.specs.Question.{IsTold, TellsSpent, asked_over, present_in}

-- an answer over the roads is one over the parts
pub answered_over : (p : Parts) (asked : Asked) (a : Answer) → present_of p.roads ≡ present_in p
    → IsAnswer (asked_over (present_of p.roads) p.roots.now asked.target.now asked.uid.now) asked.wanted a.paths
    → a.sum ≡ amount_of a.paths → IsAnswered p asked a
answered_over p asked a present is sum = record {
  answer = subst (λ (present : Present).
      IsAnswer (asked_over present p.roots.now asked.target.now asked.uid.now) asked.wanted a.paths) present is;
  sum = sum;
}

-- ---- the laws of answers, as premises

abbrev pub OneAnswer : Type 0
OneAnswer = (q : Question) (wanted : ℕ) (a b : List Path) → IsRecord q.network → IsAnswer q wanted a →
    IsAnswer q wanted b → a ≡ b

abbrev pub ZeroSpent : Type 0
ZeroSpent = (q : Question) (wanted : ℕ) (paths : List Path) → 1 ≤ wanted → IsAnswer q wanted paths →
    TellsSpent q (amount_of paths)

abbrev pub PairsFit : Type 0
PairsFit = (q : Question) (paths : List Path) → EachNext q [] paths → AllFit [] paths

abbrev pub RootsFit : Type 0
RootsFit = (q : Question) (paths : List Path) (fpr : Fpr) → EachNext q [] paths →
    (use_of paths).root fpr ≤ root_amount q.roots fpr

pub told_from : OneAnswer → ZeroSpent → PairsFit → RootsFit → (q : Question) (wanted : ℕ) (a : Answer) → 1 ≤ wanted →
    IsRecord q.network
    → IsAnswer q wanted a.paths → a.sum ≡ amount_of a.paths → IsTold q wanted a
told_from one spent pairs roots q wanted a some lawful is sum =
    let zero = spent q wanted a.paths some is in record {
      answer = is;
      one = λ others other. one q wanted others a.paths lawful other is;
      sum = sum;
      zero = (λ e. zero.0 (sym sum ∙ e), λ s. sum ∙ zero.1 s);
      pairs = pairs q a.paths is.each;
      roots = λ fpr. roots q a.paths fpr is.each;
    }
