use Rattle.wot_script.proofs.ReadBounds.{spelled_at}
use Rattle.wot_script.proofs.laws.lines_spell_commands.Goals as goal

pub returns : goal.returns
returns c = record { spelled = λ line command e. (spelled_at c.state_lines_fit.ensures line command e).0 }
