use Rattle.wot_command.proofs.Anew.{made_anew}
use Rattle.wot_command.proofs.fresh.dump_makes_the_state_anew.Goals as goal

pub returns : goal.returns
returns c = made_anew
