use Rattle.wot_script.proofs.ReadAgain.{prints_claim}
use Rattle.wot_script.proofs.laws.printed_claim_is_read.Goals as goal

pub returns : goal.returns
returns c = record { printed = prints_claim c.args.check.now c.spelling_is_read.ensures.read }
