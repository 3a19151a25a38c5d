use Rattle.wot_edge.proofs.AnswerByPaths.{zero_spent, spent_zero}
use Rattle.wot_edge.proofs.laws.zero_is_no_path.Goals as goal

pub returns : goal.returns
returns c = record { zero = λ q wanted paths pos a. (zero_spent q wanted paths pos a, spent_zero q wanted paths a) }
