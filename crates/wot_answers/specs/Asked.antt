-- What a search over the parts of a view is given, and what it promises.
use Rattle.std.specs.Prelude.{◌≡◌, ◌≤◌, ℕ, List, length}
use Rattle.wot_types.specs.declared.fpr.Fpr.{Fpr}
use Rattle.wot_edge.specs.Answer.{IsAnswer, amount_of}
use Rattle.wot_edge.specs.Path.{Question}
use Rattle.wot_edge.specs.Record.{Record}
use Rattle.wot_auth.specs.declared.answer.Answer.{Answer}
use Rattle.wot_network.specs.Net.{network_for}
use Rattle.wot_network.specs.Roads.{present_of}
use Rattle.wot_answers.specs.declared.asked.Asked.{Asked}
use Rattle.wot_answers.specs.declared.parts.Parts.{Parts}
use Rattle.wot_answers.specs.Answers.{AllLead, AreRightIn, Grounds, IsFoundBy, IsOf, OfView}
use Rattle.wot_answers.specs.declared.answers.KeptAnswer.{KeptAnswer}
use Rattle.wot_answers.specs.Question.{IsAnswerAround, asked_of, present_in}

-- the question that is asked over the parts
abbrev pub question_of : Parts → Asked → Question
question_of p asked = asked_of p asked.target.now asked.uid.now

-- the network over which it is asked
abbrev pub network_of : Parts → Asked → Record
network_of p asked = network_for (present_in p) asked.uid.now

-- it is the question of a kept answer, at a time
abbrev pub IsAskedIn : Asked → KeptAnswer → ℕ → Type 0
IsAskedIn asked a t = IsOf a asked.target.now asked.wanted asked.uid.now t

-- It can be searched: something is wanted, the roots are few, and the roads are those of the keyring at the time.
pub record IsAskable (p : Parts) (asked : Asked) : Type 0 where
  pub wanted : 1 ≤ asked.wanted
  pub few : length p.roots.now ≤ 64
  pub present : present_of p.roads ≡ present_in p

-- the view's kept answers are right in the keyring, and up to date for the roots
pub record AreSettled (p : Parts) (of_view : OfView) : Type 0 where
  pub right : AreRightIn p.keyring.now of_view
  pub roots : of_view.roots ≡ p.roots.now

-- this is the answer
pub record IsAnswered (p : Parts) (asked : Asked) (a : Answer) : Type 0 where
  pub answer : IsAnswer (question_of p asked) asked.wanted a.paths
  pub sum : a.sum ≡ amount_of a.paths

-- The answer depends on no more than this set, and each member of it leads to the target.
pub record IsConsulted (p : Parts) (asked : Asked) (a : Answer) (set : List Fpr) : Type 0 where
  pub local : IsAnswerAround (question_of p asked) asked.wanted a.paths set
  pub leads : AllLead (network_of p asked) asked.target.now set

-- It is for this question, and was found in the keyring of the parts by what leads to the target there.
abbrev pub IsFoundOver : Parts → Asked → KeptAnswer → Type 0
IsFoundOver p asked a = IsFoundBy p.keyring.now asked.target.now asked.wanted asked.uid.now p.t a

-- a kept answer with this question, this answer and what it depends on, found valid at the current count of changes
abbrev pub kept_by : Parts → Asked → Answer → Grounds → KeptAnswer → KeptAnswer
kept_by p asked a looked kept = record kept {
  target = asked.target.now;
  wanted = asked.wanted;
  uid = asked.uid.now;
  time = p.t;
  looked = looked;
  answer = a;
  count = p.keyring.now.changes;
}

-- it is that one; its key and its revision may be any
abbrev pub IsKeptNow : Parts → Asked → Answer → Grounds → KeptAnswer → Type 0
IsKeptNow p asked a looked kept = kept ≡ kept_by p asked a looked kept
