use Rattle.wot_network.proofs.Verdicts.{standing_same, uid_same}
use Rattle.wot_network.proofs.laws.own_verdicts_decide.Goals as goal

pub returns : goal.returns
returns c = record { standings = standing_same; user_ids = uid_same }
