use Rattle.wot_edge.proofs.One.{next_path_one}
use Rattle.wot_edge.proofs.laws.next_path_is_one.Goals as goal

pub returns : goal.returns
returns c = record { one = λ q used a b r m n. next_path_one q used r a b m n }
