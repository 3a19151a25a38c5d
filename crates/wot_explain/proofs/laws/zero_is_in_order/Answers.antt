use Rattle.wot_explain.proofs.Targets.{in_order_where, word_where}
use Rattle.wot_explain.proofs.laws.zero_is_in_order.Goals as goal

pub returns : goal.returns
returns c = record { zero = λ target t revoked. (in_order_where target t revoked, word_where target t revoked) }
