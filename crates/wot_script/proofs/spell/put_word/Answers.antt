use Rattle.wot_script.proofs.WordLines.{spelled_by_word}
use Rattle.wot_script.proofs.spell.put_word.Goals as goal

pub returns : goal.returns
returns c = rw (spelled_by_word c.args.command.now c.requires, ← c.command_word.ensures) c.put_text.ensures
