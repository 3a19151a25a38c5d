use Rattle.wot_check.proofs.Least.{least_accepted}
use Rattle.wot_check.proofs.laws.least_tables_are_accepted.Goals as goal

pub returns : goal.returns
returns c = record { accepted = least_accepted }
