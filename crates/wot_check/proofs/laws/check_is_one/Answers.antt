use Rattle.wot_check.proofs.ChecksDecide.{check_some}
use Rattle.wot_check.proofs.CheckResults.{check_one}
use Rattle.wot_check.proofs.laws.check_is_one.Goals as goal

pub returns-clause-some : goal.returns-clause-some
returns-clause-some c q claims table = check_some q claims table

pub returns-clause-one : goal.returns-clause-one
returns-clause-one c q claims table a b = check_one q claims table a b
