use Rattle.wot_check.proofs.Checks.{checks_agree}
use Rattle.wot_check.proofs.laws.checks_rest_on_what_they_name.Goals as goal

pub returns : goal.returns
returns c = checks_agree
