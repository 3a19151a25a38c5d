use Rattle.wot_edge.proofs.AnswerByPaths.{answer_exists, answer_one}
use Rattle.wot_edge.proofs.laws.answer_is_one.Goals as goal

pub returns : goal.returns
returns c = record { some = answer_exists; one = λ q wanted a b r m n. answer_one q r wanted a b m n }
