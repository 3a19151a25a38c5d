use Rattle.wot_check.proofs.Least.{least_one, least_some}
use Rattle.wot_check.proofs.laws.least_table_is_one.Goals as goal

pub returns-clause-some : goal.returns-clause-some
returns-clause-some c q used = least_some q used

pub returns-clause-one : goal.returns-clause-one
returns-clause-one c q used a b = least_one q used a b
