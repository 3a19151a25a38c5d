use Rattle.wot_script.proofs.ReadAgain.{old_is_read}
use Rattle.wot_script.proofs.laws.old_lines_are_read.Goals as goal

pub returns : goal.returns
returns c = record { read = old_is_read c.args.command.now c.spelling_is_read.ensures.read }
